-- The header and the records of a pcap file (draft-ietf-opsawg-pcap, sections 4 and 5).
use Rattle.std.specs.Prelude.{◌≡◌, ◌⊎◌, ◌<◌, ◌≤◌, ◌+◌, ◌*◌, ◌++◌, ◌%◌, ◌^◌, ◌==◌, if◌then◌else◌, ℕ, List, [], ◌∷◌, length, drop, Option, Some}
use Rattle.rip_wire.specs.Fields.{number_at}
use Rattle.rip_capture.specs.Interfaces.{CameBy, Only}
use Rattle.rip_capture.specs.LinkTypes.{IsNoType, number_of}
use Rattle.rip_capture.specs.Numbers.{number_in, short_in}
use Rattle.rip_capture.specs.declared.error.CaptureCode.{CaptureCode}
use Rattle.rip_capture.specs.declared.error.CaptureCode.TheVariants.{Cut, Version, Length, LinkType as NoLinkType}
use Rattle.rip_capture.specs.declared.limits.TheConstants.{BILLIONTHS, FILE_HEADER, MILLIONTHS, MOST_CAPTURED, RECORD_HEADER}
use Rattle.rip_capture.specs.declared.link.LinkType.{LinkType}
use Rattle.rip_capture.specs.declared.numbers.Order.{Order}
use Rattle.rip_capture.specs.declared.numbers.Order.TheVariants.{Big, Little}
use Rattle.rip_capture.specs.declared.pcap.Framing.{Framing}
use Rattle.rip_capture.specs.declared.time.Time.{Time}

-- a captured packet: how it is framed, its bytes, the interface that it came by, and its time
pub record Frame : Type 0 where
  pub link_type : LinkType
  pub bytes : List ℕ
  pub interface : CameBy
  pub time : Option Time

-- what the first four bytes of a file say, most significant byte first: the byte order, and that
-- times are in microseconds or nanoseconds
abbrev pub IsMagicNumber : Order → ℕ → Type 0
IsMagicNumber Big n = (n ≡ 0xA1B2C3D4) ⊎ (n ≡ 0xA1B23C4D)
IsMagicNumber Little n = (n ≡ 0xD4C3B2A1) ⊎ (n ≡ 0x4D3CB2A1)

-- a file of this order begins so
abbrev pub IsMagic : Order → List ℕ → Type 0
IsMagic order b = IsMagicNumber order (number_at 4 0 b)

-- version 2.4
pub record IsVersion (order : Order) (b : List ℕ) : Type 0 where
  pub major : short_in order 4 b ≡ 2
  pub minor : short_in order 6 b ≡ 4

-- the number of the link type; the bits above it tell of checksums behind the frames
abbrev pub link_number : Order → List ℕ → ℕ
link_number order b = number_in order 20 b % 2 ^ 26

-- the unit of times that the first four bytes tell: billionths or millionths of a second
abbrev pub resolution_in : Order → List ℕ → ℕ
resolution_in order b = if number_in order 0 b == 0xA1B23C4D then BILLIONTHS else MILLIONTHS

-- the header of a file: four bytes of kind, order and unit, the version, twelve bytes that do not
-- count, and the link type
pub record IsPcapHeader (b : List ℕ) (order : Order) (framing : Framing) : Type 0 where
  pub size : length b ≡ FILE_HEADER
  pub magic : IsMagic order b
  pub version : IsVersion order b
  pub link : number_of framing.link_type ≡ link_number order b
  pub unit : framing.resolution ≡ resolution_in order b

-- how many bytes of a packet a record says that it has
abbrev pub captured_len : Order → List ℕ → ℕ
captured_len order b = number_in order 8 b

-- the time of a record: seconds, and what is more in its unit, which may be above a second
abbrev pub record_time : Order → ℕ → List ℕ → Time
record_time order resolution b = record {
  ticks = number_in order 0 b * (if resolution == BILLIONTHS then 1000000000 else 1000000)
      + number_in order 4 b;
  resolution = resolution;
  offset = 0;
}

-- the packet of a record
abbrev pub frame_in : Order → Framing → List ℕ → Frame
frame_in order framing b = record {
  link_type = framing.link_type;
  bytes = drop RECORD_HEADER b;
  interface = Only;
  time = Some (record_time order framing.resolution b);
}

-- a record: eight bytes of time, the captured length, the length that the packet had, and the
-- packet
pub record IsRecord (order : Order) (framing : Framing) (b : List ℕ) (frame : Frame)
    : Type 0 where
  pub header : RECORD_HEADER ≤ length b
  pub frame_is : frame ≡ frame_in order framing b
  pub captured : captured_len order b ≡ length (drop RECORD_HEADER b)
  pub few : captured_len order b ≤ MOST_CAPTURED

-- these bytes are records, of these frames
abbrev pub AreRecords : Order → Framing → List ℕ → List Frame → Type 0
AreRecords order framing b [] = b ≡ []
AreRecords order framing b (frame ∷ frames) =
    (first rest : List ℕ) × IsRecord order framing first frame
    × AreRecords order framing rest frames × (b ≡ first ++ rest)

-- these bytes are a file, up to here, with these frames
pub record IsPcap (b : List ℕ) (order : Order) (framing : Framing) (frames : List Frame)
    : Type 0 where
  pub header : List ℕ
  pub records : List ℕ
  pub is_header : IsPcapHeader header order framing
  pub are_records : AreRecords order framing records frames
  pub whole : b ≡ header ++ records

-- bytes begin with a whole record
pub record HoldsRecord (order : Order) (b : List ℕ) : Type 0 where
  pub header : RECORD_HEADER ≤ length b
  pub packet : RECORD_HEADER + captured_len order b ≤ length b

-- what is wrong with the header of a file of this order, the first of these
pub data HeaderFault (order : Order) (b : List ℕ) (code : CaptureCode) : Type 0 where
  cut : length b < FILE_HEADER → code ≡ Cut → HeaderFault order b code
  version : FILE_HEADER ≤ length b → ¬ IsVersion order b → code ≡ Version → HeaderFault order b code
  link_type : FILE_HEADER ≤ length b → IsVersion order b → IsNoType (link_number order b) →
      code ≡ NoLinkType → HeaderFault order b code

-- what is wrong with the next record, the first of these
pub data RecordFault (order : Order) (b : List ℕ) (code : CaptureCode) : Type 0 where
  header : 0 < length b → length b < RECORD_HEADER → code ≡ Cut → RecordFault order b code
  long : RECORD_HEADER ≤ length b → MOST_CAPTURED < captured_len order b → code ≡ Length →
      RecordFault order b code
  packet : RECORD_HEADER ≤ length b → captured_len order b ≤ MOST_CAPTURED →
      length b < RECORD_HEADER + captured_len order b → code ≡ Cut → RecordFault order b code
