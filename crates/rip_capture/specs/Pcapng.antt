-- The blocks of a pcapng file (draft-ietf-opsawg-pcapng, sections 3 and 4).
use Rattle.std.specs.Prelude.{◌≡◌, ◌≢◌, ◌⊎◌, ◌<◌, ◌≤◌, ◌+◌, ◌*◌, ◌-◌, ◌^◌, ◌%◌, ◌++◌, ◌==◌, if◌then◌else◌, ℕ, Bool, true, false, List, [], ◌∷◌, length, min, Option, Some, None, slice_range}
use Rattle.std.specs.List.{slice_get}
use Rattle.rip_wire.specs.Fields.{number_at}
use Rattle.rip_capture.specs.Interfaces.{came_by}
use Rattle.rip_capture.specs.LinkTypes.{IsNoType, number_of}
use Rattle.rip_capture.specs.Numbers.{number_in, short_in}
use Rattle.rip_capture.specs.Options.{Describes, HasBadOption, name_of}
use Rattle.rip_capture.specs.Pcap.{Frame}
use Rattle.rip_capture.specs.declared.blocks.BlockKind.{BlockKind}
use Rattle.rip_capture.specs.declared.blocks.BlockKind.TheVariants as kinds
use Rattle.rip_capture.specs.declared.blocks.PacketForm.{PacketForm}
use Rattle.rip_capture.specs.declared.blocks.PacketForm.TheVariants.{Simple, Enhanced}
use Rattle.rip_capture.specs.declared.interface.Interface.{Interface}
use Rattle.rip_capture.specs.declared.error.CaptureCode.{CaptureCode}
use Rattle.rip_capture.specs.declared.error.CaptureCode.TheVariants as codes
use Rattle.rip_capture.specs.declared.limits.TheConstants.{BLOCK_FRONT, MILLIONTHS, MOST_BLOCK, MOST_CAPTURED, MOST_INTERFACES, SECTION, SECTION_FRONT}
use Rattle.rip_capture.specs.declared.numbers.Order.{Order}
use Rattle.rip_capture.specs.declared.numbers.Order.TheVariants.{Big, Little}
use Rattle.rip_capture.specs.declared.time.Time.{Time}

-- what blocks stand in: a section's byte order, and the interfaces that it has described so far
pub record Section : Type 0 where
  pub order : Order
  pub interfaces : List Interface

-- ---- the front of a block

-- a block begins a section; the number of its kind is the same in either byte order
abbrev pub begins_section : List ℕ → Bool
begins_section b = number_at 4 0 b == SECTION

-- how many bytes tell the byte order, the kind and the length of a block
abbrev pub front_len : List ℕ → ℕ
front_len b = if begins_section b then SECTION_FRONT else BLOCK_FRONT

-- what a section says of its byte order, most significant byte first: the number 1A2B3C4D in that
-- order
abbrev pub order_number : Order → ℕ
order_number Big = 0x1A2B3C4D
order_number Little = 0x4D3C2B1A

-- the byte order of a block: a section says its own, and the blocks in it have that
pub data HasOrder (within : Option Order) (b : List ℕ) (order : Order) : Type 0 where
  own : begins_section b ≡ true → number_at 4 8 b ≡ order_number order → HasOrder within b order
  inherited : begins_section b ≡ false → within ≡ Some order → HasOrder within b order

-- the kinds of blocks that do not begin a section
abbrev pub kind_numbered : ℕ → BlockKind
kind_numbered n =
    if n == 1 then kinds.Interface
    else if n == 2 then kinds.OldPacket
    else if n == 3 then kinds.Packet Simple
    else if n == 6 then kinds.Packet Enhanced
    else kinds.Other

-- the kind of a block
abbrev pub kind_of : Order → List ℕ → BlockKind
kind_of order b = if begins_section b then kinds.Section else kind_numbered (number_in order 0 b)

-- how many bytes a block says that it has
abbrev pub block_len : Order → List ℕ → ℕ
block_len order b = number_in order 4 b

-- the fewest bytes of a block
abbrev pub least_len : BlockKind → ℕ
least_len kinds.Section = 28
least_len kinds.Interface = 20
least_len kinds.OldPacket = 12
least_len (kinds.Packet Simple) = 16
least_len (kinds.Packet Enhanced) = 32
least_len kinds.Other = 12

-- a block that is read, and not passed over
abbrev pub is_read_whole : BlockKind → Bool
is_read_whole kinds.Section = true
is_read_whole kinds.Interface = true
is_read_whole (kinds.Packet form) = true
is_read_whole kinds.OldPacket = false
is_read_whole kinds.Other = false

-- a block can have the length that it says
pub record HasLength (order : Order) (b : List ℕ) : Type 0 where
  pub fours : block_len order b % 4 ≡ 0
  pub least : least_len (kind_of order b) ≤ block_len order b
  pub most : is_read_whole (kind_of order b) ≡ true → block_len order b ≤ MOST_BLOCK

-- a whole block: its kind, its length, its body, and its length once more
pub record IsBlock (within : Option Order) (order : Order) (b : List ℕ) : Type 0 where
  pub order_is : HasOrder within b order
  pub can : HasLength order b
  pub size : block_len order b ≡ length b
  pub end : number_in order (length b - 4) b ≡ length b

-- ---- the bodies of blocks

-- the version of a section, 1.0 or 1.2
pub record IsSectionVersion (order : Order) (b : List ℕ) : Type 0 where
  pub major : short_in order 12 b ≡ 1
  pub minor : (short_in order 14 b ≡ 0) ⊎ (short_in order 14 b ≡ 2)

-- the interface that a block describes, without its options: the number of its link type, and the
-- most bytes of a packet that it captures, where that is not 0; no name, and millionths of a second
abbrev pub interface_in : Order → List ℕ → Interface
interface_in order b = record {
  link_number = short_in order 8 b;
  most = number_in order 12 b;
  name = name_of [];
  resolution = MILLIONTHS;
  offset = 0;
}

-- where the options of an interface stand in its block
abbrev pub options_in : List ℕ → List ℕ
options_in b = slice_range b 16 (length b - 4)

-- the number of a packet's interface; that of a simple packet is the first
abbrev pub interface_of : Order → PacketForm → List ℕ → ℕ
interface_of order Enhanced b = number_in order 8 b
interface_of order Simple b = 0

-- where a packet begins in its block
abbrev pub packet_from : PacketForm → ℕ
packet_from Enhanced = 28
packet_from Simple = 12

-- how many bytes of a simple packet there are: as many as it had, as the block has room for, and as
-- its interface captures
abbrev pub simple_len : ℕ → ℕ → ℕ → ℕ
simple_len had room most = if most == 0 then min had room else min (min had room) most

-- how many bytes of a packet were captured
abbrev pub packet_len : Order → PacketForm → List ℕ → Interface → ℕ
packet_len order Enhanced b i = number_in order 20 b
packet_len order Simple b i = simple_len (number_in order 8 b) (length b - 16) i.most

-- the time of a packet: its high half is first in either byte order; a simple packet has none
abbrev pub packet_time : Order → PacketForm → List ℕ → Interface → Option Time
packet_time order Enhanced b i = Some (record {
  ticks = number_in order 12 b * 2 ^ 32 + number_in order 16 b;
  resolution = i.resolution;
  offset = i.offset;
})
packet_time order Simple b i = None

-- the bytes of a packet can be so many, and lie in the block
pub record HasPacketLength (order : Order) (form : PacketForm) (b : List ℕ) (i : Interface)
    : Type 0 where
  pub few : packet_len order form b i ≤ MOST_CAPTURED
  pub inside : packet_from form + packet_len order form b i + 4 ≤ length b

-- the packet of a block, of one of these interfaces
pub record IsPacket (order : Order) (interfaces : List Interface) (form : PacketForm) (b : List ℕ)
    (frame : Frame) : Type 0 where
  pub interface : Interface
  pub described : slice_get interfaces (interface_of order form b) ≡ Some interface
  pub can : HasPacketLength order form b interface
  pub link : number_of frame.link_type ≡ interface.link_number
  pub bytes : frame.bytes
      ≡ slice_range b (packet_from form) (packet_from form + packet_len order form b interface)
  pub came : frame.interface ≡ came_by interfaces (interface_of order form b)
  pub time : frame.time ≡ packet_time order form b interface

-- what a whole block of a kind does in a section: which packets it has, and in what blocks then
-- stand
pub data Does (s : Option Section) (order : Order) (b : List ℕ) (kind : BlockKind)
    (frames : List Frame) (next : Section) : Type 0 where
  section : kind ≡ kinds.Section → IsSectionVersion order b → frames ≡ [] →
      next ≡ record { order = order; interfaces = [] } → Does s order b kind frames next
  interface : (now : Section) (i : Interface) → kind ≡ kinds.Interface → s ≡ Some now →
      length now.interfaces < MOST_INTERFACES →
      Describes order (options_in b) (interface_in order b) i →
      frames ≡ [] → next ≡ record { order = now.order; interfaces = now.interfaces ++ i ∷ [] } →
      Does s order b kind frames next
  packet : (now : Section) (form : PacketForm) (frame : Frame) → kind ≡ kinds.Packet form →
      s ≡ Some now → IsPacket order now.interfaces form b frame → frames ≡ frame ∷ [] → next ≡ now →
      Does s order b kind frames next
  other : (now : Section) → kind ≡ kinds.Other → s ≡ Some now → frames ≡ [] → next ≡ now →
      Does s order b kind frames next

-- the byte order of a section, if blocks stand in one
abbrev pub order_of : Option Section → Option Order
order_of None = None
order_of (Some s) = Some s.order

-- blocks, one after the other, with these frames, and in what the next would stand
pub data AreBlocks : Option Section → List ℕ → List Frame → Option Section → Type 0 where
  none : (s : Option Section) (b : List ℕ) (frames : List Frame) (last : Option Section) →
      b ≡ [] → frames ≡ [] → last ≡ s → AreBlocks s b frames last
  more : (s : Option Section) (b : List ℕ) (frames : List Frame) (last : Option Section)
      (order : Order) (first rest : List ℕ) (mine others : List Frame) (next : Section) →
      IsBlock (order_of s) order first → Does s order first (kind_of order first) mine next →
      AreBlocks (Some next) rest others last → b ≡ first ++ rest → frames ≡ mine ++ others →
      AreBlocks s b frames last

-- ---- faults

-- what is wrong with a packet's block, the first of these
pub data PacketFault (order : Order) (interfaces : List Interface) (form : PacketForm) (b : List ℕ)
    (code : CaptureCode) : Type 0 where
  interface : slice_get interfaces (interface_of order form b) ≡ None → code ≡ codes.Interface →
      PacketFault order interfaces form b code
  size : (i : Interface) → slice_get interfaces (interface_of order form b) ≡ Some i →
      ¬ HasPacketLength order form b i → code ≡ codes.Length →
      PacketFault order interfaces form b code
  link_type : (i : Interface) → slice_get interfaces (interface_of order form b) ≡ Some i →
      HasPacketLength order form b i → IsNoType i.link_number → code ≡ codes.LinkType →
      PacketFault order interfaces form b code

-- what is wrong with the body of a block of a kind
pub data BodyFault (s : Option Section) (order : Order) (b : List ℕ) (kind : BlockKind)
    (code : CaptureCode) : Type 0 where
  version : kind ≡ kinds.Section → ¬ IsSectionVersion order b → code ≡ codes.Version →
      BodyFault s order b kind code
  full : (now : Section) → kind ≡ kinds.Interface → s ≡ Some now →
      MOST_INTERFACES ≤ length now.interfaces → code ≡ codes.Interface →
      BodyFault s order b kind code
  options : (now : Section) → kind ≡ kinds.Interface → s ≡ Some now →
      length now.interfaces < MOST_INTERFACES → HasBadOption order (options_in b) →
      code ≡ codes.Length → BodyFault s order b kind code
  packet : (now : Section) (form : PacketForm) → kind ≡ kinds.Packet form → s ≡ Some now →
      PacketFault order now.interfaces form b code → BodyFault s order b kind code

-- what is wrong with the next block, of this byte order, the first of these
pub data OrderedFault (s : Option Section) (order : Order) (b : List ℕ) (code : CaptureCode)
    : Type 0 where
  size : ¬ HasLength order b → code ≡ codes.Length → OrderedFault s order b code
  old : HasLength order b → kind_of order b ≡ kinds.OldPacket → code ≡ codes.OldPacket →
      OrderedFault s order b code
  cut : HasLength order b → kind_of order b ≢ kinds.OldPacket → length b < block_len order b →
      code ≡ codes.Cut → OrderedFault s order b code
  end : HasLength order b → kind_of order b ≢ kinds.OldPacket → block_len order b ≤ length b →
      number_in order (block_len order b - 4) b ≢ block_len order b → code ≡ codes.Length →
      OrderedFault s order b code
  body : (first rest : List ℕ) → b ≡ first ++ rest → IsBlock (order_of s) order first →
      BodyFault s order first (kind_of order first) code → OrderedFault s order b code

-- what is wrong with the next block, the first of these
pub data BlockFault (s : Option Section) (b : List ℕ) (code : CaptureCode) : Type 0 where
  front : 0 < length b → length b < front_len b → code ≡ codes.Cut → BlockFault s b code
  order : front_len b ≤ length b → begins_section b ≡ true →
      ((order : Order) → number_at 4 8 b ≢ order_number order) → code ≡ codes.Version →
      BlockFault s b code
  ordered : (order : Order) → front_len b ≤ length b → HasOrder (order_of s) b order →
      OrderedFault s order b code → BlockFault s b code
