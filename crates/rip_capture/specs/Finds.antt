-- What is found at the front of bytes of a file.
use Rattle.std.specs.Prelude.{◌≡◌, ◌≢◌, ◌⊎◌, ◌<◌, ◌≤◌, ◌+◌, ◌^◌, ◌++◌, ℕ, Bool, true, Option, Some, None, Result, Ok, Err, List, [], length, take}
use Rattle.rip_capture.specs.Captures.{FrontFault}
use Rattle.rip_capture.specs.Codes.{EndsFor}
use Rattle.rip_capture.specs.LinkTypes.{IsNoType, number_of}
use Rattle.rip_capture.specs.Pcap.{IsMagic, IsPcapHeader, IsVersion, RecordFault, captured_len, link_number, resolution_in}
use Rattle.rip_capture.specs.Pcapng.{BlockFault, HasLength, HasOrder, IsBlock, Section, begins_section, block_len, front_len, is_read_whole, kind_of, order_of}
use Rattle.rip_capture.specs.declared.blocks.Block.{Block}
use Rattle.rip_capture.specs.declared.blocks.BlockKind.{BlockKind}
use Rattle.rip_capture.specs.declared.blocks.BlockKind.TheVariants as kinds
use Rattle.rip_capture.specs.declared.blocks.PacketForm.{PacketForm}
use Rattle.rip_capture.specs.declared.error.CaptureCode.{CaptureCode}
use Rattle.rip_capture.specs.declared.error.CaptureCode.TheVariants.{Version, LinkType as NoLinkType, Length, OldPacket, Read}
use Rattle.rip_capture.specs.declared.magic.Magic.{Magic as MagicOf}
use Rattle.rip_capture.specs.declared.magic.Magic.TheVariants as magics
use Rattle.rip_capture.specs.declared.limits.TheConstants.{FILE_HEADER, MAGIC_LEN, MOST_CAPTURED, RECORD_HEADER}
use Rattle.rip_capture.specs.declared.numbers.Order.{Order}
use Rattle.rip_capture.specs.declared.pcap.PcapHeader.{PcapHeader}

-- a file begins so
abbrev pub IsMagicOf : List ℕ → MagicOf → Type 0
IsMagicOf b (magics.Pcap order) = IsMagic order b
IsMagicOf b magics.Pcapng = begins_section b ≡ true

-- what the front of a file says, where at_end says that no bytes come after these
abbrev pub FindsMagic : List ℕ → Bool → Result MagicOf CaptureCode → Type 0
FindsMagic b at_end (Ok magic) = (MAGIC_LEN ≤ length b) × IsMagicOf b magic
FindsMagic b at_end (Err code) = (code ≡ Read) ⊎ (FrontFault b code × EndsFor code at_end)

-- what a header of this order says behind its first four bytes
abbrev pub ReadsHeader : Order → List ℕ → Result PcapHeader CaptureCode → Type 0
ReadsHeader order b (Ok h) =
    (h.order ≡ order) × IsVersion order b × (number_of h.framing.link_type ≡ link_number order b)
    × (h.framing.resolution ≡ resolution_in order b)
ReadsHeader order b (Err Version) = ¬ IsVersion order b
ReadsHeader order b (Err NoLinkType) = IsVersion order b × IsNoType (link_number order b)
ReadsHeader order b (Err other) = ⊥

-- the header at the front of a file, where at_end says that no bytes come after these
abbrev pub FindsHeader : List ℕ → Bool → Result PcapHeader CaptureCode → Type 0
FindsHeader b at_end (Ok h) =
    (FILE_HEADER ≤ length b) × IsPcapHeader (take FILE_HEADER b) h.order h.framing
FindsHeader b at_end (Err code) = (code ≡ Read) ⊎ (FrontFault b code × EndsFor code at_end)

-- the next record, of a packet of so many bytes, where at_end says that no bytes come after these
abbrev pub FindsRecord : Order → List ℕ → Bool → Result (Option ℕ) CaptureCode → Type 0
FindsRecord order b at_end (Ok (Some n)) =
    (RECORD_HEADER + n ≤ length b) × (captured_len order b ≡ n) × (n ≤ MOST_CAPTURED)
FindsRecord order b at_end (Ok None) = (b ≡ []) × (at_end ≡ true)
FindsRecord order b at_end (Err code) =
    (code ≡ Read) ⊎ (RecordFault order b code × EndsFor code at_end)

-- no whole block is there: its front is not, or not as many bytes as it says
pub data LacksBlock (within : Option Order) (b : List ℕ) : Type 0 where
  front : length b < front_len b → LacksBlock within b
  rest : (order : Order) → front_len b ≤ length b → HasOrder within b order →
      length b < block_len order b → LacksBlock within b

-- why there is no next block in b, where at_end says that no bytes come after these
abbrev pub NoNextBlock : Option Order → List ℕ → Bool → CaptureCode → Type 0
NoNextBlock within b at_end code =
    ((code ≡ Read) × LacksBlock within b)
    ⊎ (((s : Option Section) → order_of s ≡ within → BlockFault s b code) × EndsFor code at_end)

-- the byte order of the next block, where at_end says that no bytes come after these
abbrev pub FindsOrder : Option Order → List ℕ → Bool → Result Order CaptureCode → Type 0
FindsOrder within b at_end (Ok order) = (front_len b ≤ length b) × HasOrder within b order
FindsOrder within b at_end (Err code) = NoNextBlock within b at_end code

-- the same, or that there is no next block
abbrev pub FindsNextOrder : Option Order → List ℕ → Bool → Result (Option Order) CaptureCode →
    Type 0
FindsNextOrder within b at_end (Ok (Some order)) = FindsOrder within b at_end (Ok order)
FindsNextOrder within b at_end (Ok None) = (b ≡ []) × (at_end ≡ true)
FindsNextOrder within b at_end (Err code) = NoNextBlock within b at_end code

-- what the front of a block says
abbrev pub SaysFront : Order → List ℕ → Result (BlockKind × ℕ) CaptureCode → Type 0
SaysFront order b (Ok says) =
    HasLength order b × (kind_of order b ≢ kinds.OldPacket) × (says.0 ≡ kind_of order b)
    × (says.1 ≡ block_len order b) × (says.1 < 2 ^ 32)
SaysFront order b (Err Length) = ¬ HasLength order b
SaysFront order b (Err OldPacket) = HasLength order b × (kind_of order b ≡ kinds.OldPacket)
SaysFront order b (Err other) = ⊥

-- a block, of which these bytes were passed over, and it goes on with b
pub record IsFound (within : Option Order) (passed b : List ℕ) (block : Block) : Type 0 where
  pub is_block : IsBlock within block.order (take block.len (passed ++ b))
  pub kind : block.kind ≡ kind_of block.order (take block.len (passed ++ b))
  pub size : length passed + block.held ≡ block.len
  pub held : block.held ≤ length b
  pub read : is_read_whole block.kind ≡ true → passed ≡ []
  pub young : block.kind ≢ kinds.OldPacket
  pub short : block.len < 2 ^ 32

-- the next block, of which these bytes were passed over and b are held
abbrev pub FindsBlock : Option Order → List ℕ → List ℕ → Bool → Result Block CaptureCode → Type 0
FindsBlock within passed b at_end (Ok block) = IsFound within passed b block
FindsBlock within passed b at_end (Err code) = NoNextBlock within (passed ++ b) at_end code

-- the same, or that there is no next block
abbrev pub FindsNextBlock :
    Option Order → List ℕ → List ℕ → Bool → Result (Option Block) CaptureCode → Type 0
FindsNextBlock within passed b at_end (Ok (Some block)) =
    FindsBlock within passed b at_end (Ok block)
FindsNextBlock within passed b at_end (Ok None) = (passed ++ b ≡ []) × (at_end ≡ true)
FindsNextBlock within passed b at_end (Err code) = NoNextBlock within (passed ++ b) at_end code

-- bytes begin with a whole block of this byte order that is read
pub record HoldsWhole (order : Order) (b : List ℕ) : Type 0 where
  pub can : HasLength order b
  pub read : is_read_whole (kind_of order b) ≡ true
  pub whole : block_len order b ≤ length b

-- the same, in a section of a byte order
pub record HoldsBlock (within : Option Order) (b : List ℕ) : Type 0 where
  pub order : Order
  pub front : front_len b ≤ length b
  pub order_is : HasOrder within b order
  pub holds : HoldsWhole order b

-- the same, of a packet
pub record HoldsPacketBlock (within : Option Order) (b : List ℕ) : Type 0 where
  pub block : HoldsBlock within b
  pub form : PacketForm
  pub packet : kind_of block.order b ≡ kinds.Packet form
