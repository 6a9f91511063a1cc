-- What the blocks of a pcapng file say, and in what the next ones stand.
use Rattle.std.specs.Prelude.{◌≡◌, ◌⊎◌, ◌<◌, ◌+◌, ◌++◌, ℕ, List, [], ◌∷◌, length, Some, None, Result, Ok, Err}
use Rattle.std.specs.List.{slice_get}
use Rattle.rip_capture.specs.LinkTypes.{IsNoType, number_of}
use Rattle.rip_capture.specs.Options.{Describes}
use Rattle.rip_capture.specs.Pcapng.{BodyFault, HasPacketLength, IsSectionVersion, Section, interface_in, interface_of, options_in, packet_from, packet_len, packet_time}
use Rattle.rip_capture.specs.declared.blocks.BlockKind.{BlockKind}
use Rattle.rip_capture.specs.declared.blocks.BlockKind.TheVariants as kinds
use Rattle.rip_capture.specs.declared.interface.Interface.{Interface}
use Rattle.rip_capture.specs.declared.blocks.PacketForm.{PacketForm}
use Rattle.rip_capture.specs.declared.bodies.Body.{Body}
use Rattle.rip_capture.specs.declared.bodies.Body.TheVariants as says
use Rattle.rip_capture.specs.declared.bodies.OpenSection.{OpenSection}
use Rattle.rip_capture.specs.declared.bodies.PacketBody.{PacketBody}
use Rattle.rip_capture.specs.declared.error.CaptureCode.{CaptureCode}
use Rattle.rip_capture.specs.declared.error.CaptureCode.TheVariants as codes
use Rattle.rip_capture.specs.declared.limits.TheConstants.{MOST_INTERFACES}
use Rattle.rip_capture.specs.declared.numbers.Order.{Order}

-- what an open section is
abbrev pub section_of : OpenSection → Section
section_of s = record { order = s.order; interfaces = s.interfaces.items }

-- what blocks stand in behind one that says this
abbrev pub entered : Section → Order → Body → Section
entered s order says.Section = record { order = order; interfaces = [] }
entered s order (says.Interface i) = record { order = s.order; interfaces = s.interfaces ++ i ∷ [] }
entered s order _ = s

-- what the block of a packet says: its link type, where it lies, its interface and its time
pub record LiesAt (order : Order) (interfaces : List Interface) (form : PacketForm) (b : List ℕ)
    (packet : PacketBody) : Type 0 where
  pub interface : Interface
  pub described : slice_get interfaces (interface_of order form b) ≡ Some interface
  pub can : HasPacketLength order form b interface
  pub link : number_of packet.link_type ≡ interface.link_number
  pub from : packet.bytes.from ≡ packet_from form
  pub to : packet.bytes.to ≡ packet_from form + packet_len order form b interface
  pub number : packet.interface ≡ interface_of order form b
  pub time : packet.time ≡ packet_time order form b interface

-- what the block of a packet says
abbrev pub ReadsPacket :
    Order → List Interface → PacketForm → List ℕ → Result PacketBody CaptureCode → Type 0
ReadsPacket order interfaces form b (Ok packet) =
    LiesAt order interfaces form b packet
ReadsPacket order interfaces form b (Err codes.Interface) =
    slice_get interfaces (interface_of order form b) ≡ None
ReadsPacket order interfaces form b (Err codes.Length) =
    (i : Interface) × (slice_get interfaces (interface_of order form b) ≡ Some i)
    × ¬ HasPacketLength order form b i
ReadsPacket order interfaces form b (Err codes.LinkType) =
    (i : Interface) × (slice_get interfaces (interface_of order form b) ≡ Some i)
    × HasPacketLength order form b i × IsNoType i.link_number
ReadsPacket order interfaces form b (Err other) = ⊥

-- what a block of a kind says
abbrev pub ReadsBody :
    Order → List Interface → BlockKind → List ℕ → Result Body CaptureCode → Type 0
ReadsBody order interfaces kind b (Ok says.Section) =
    (kind ≡ kinds.Section) × IsSectionVersion order b
ReadsBody order interfaces kind b (Ok (says.Interface i)) =
    (kind ≡ kinds.Interface) × Describes order (options_in b) (interface_in order b) i
    × (length interfaces < MOST_INTERFACES)
ReadsBody order interfaces kind b (Ok (says.Packet packet)) =
    (form : PacketForm) × (kind ≡ kinds.Packet form) × LiesAt order interfaces form b packet
ReadsBody order interfaces kind b (Ok says.Other) =
    (kind ≡ kinds.Other) ⊎ (kind ≡ kinds.OldPacket)
ReadsBody order interfaces kind b (Err code) =
    ((kind ≡ kinds.Section) × ¬ IsSectionVersion order b × (code ≡ codes.Version))
    ⊎ ((now : Section) → now.interfaces ≡ interfaces → BodyFault (Some now) order b kind code)
