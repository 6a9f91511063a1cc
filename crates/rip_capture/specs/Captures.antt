-- What a capture file is, and the first fault of what is none.
use Rattle.std.specs.Prelude.{◌≡◌, ◌<◌, ◌≤◌, ◌++◌, ℕ, List, [], Option, Some, None, true, length}
use Rattle.rip_capture.specs.Pcap.{Frame, HeaderFault, IsMagic, IsPcap, RecordFault}
use Rattle.rip_capture.specs.Pcapng.{AreBlocks, BlockFault, Section, begins_section}
use Rattle.rip_capture.specs.declared.error.CaptureCode.{CaptureCode}
use Rattle.rip_capture.specs.declared.error.CaptureCode.TheVariants.{Cut, Magic}
use Rattle.rip_capture.specs.declared.limits.TheConstants.{MAGIC_LEN}
use Rattle.rip_capture.specs.declared.numbers.Order.{Order}
use Rattle.rip_capture.specs.declared.pcap.Framing.{Framing}

-- a file begins as one of a kind that is read
pub data HasMagic (b : List ℕ) : Type 0 where
  pcap : (order : Order) → IsMagic order b → HasMagic b
  pcapng : begins_section b ≡ true → HasMagic b

-- these bytes are a capture, up to here, with these frames
pub data IsCapture (b : List ℕ) (frames : List Frame) : Type 0 where
  pcap : (order : Order) (framing : Framing) → IsPcap b order framing frames →
      IsCapture b frames
  pcapng : (now : Section) → AreBlocks None b frames (Some now) → IsCapture b frames

-- what was read of a file: a capture of these frames, or nothing yet
pub data IsRead (b : List ℕ) (frames : List Frame) : Type 0 where
  none : b ≡ [] → frames ≡ [] → IsRead b frames
  capture : IsCapture b frames → IsRead b frames

-- no beginning of these bytes is a capture of more frames than these
abbrev pub HasNoMore : List ℕ → List Frame → Type 0
HasNoMore b frames =
    (front rest : List ℕ) (others : List Frame) → b ≡ front ++ rest → IsCapture front others →
    length others ≤ length frames

-- these bytes are the next record or block behind a capture of these frames: no front of them is
-- passed over
abbrev pub IsNext : List ℕ → List ℕ → List Frame → Type 0
IsNext front bytes frames =
    (part rest : List ℕ) → bytes ≡ part ++ rest → IsCapture (front ++ part) frames → part ≡ []

-- what is wrong with the front of a file, the first of these
pub data FrontFault (b : List ℕ) (code : CaptureCode) : Type 0 where
  short : length b < MAGIC_LEN → code ≡ Cut → FrontFault b code
  magic : MAGIC_LEN ≤ length b → ¬ HasMagic b → code ≡ Magic → FrontFault b code
  pcap : (order : Order) → MAGIC_LEN ≤ length b → IsMagic order b → HeaderFault order b code →
      FrontFault b code

-- a file has this fault at an offset: behind a front of so many bytes that is right, with these
-- frames
pub data CaptureFault (b : List ℕ) (frames : List Frame) (code : CaptureCode) (at : ℕ)
    : Type 0 where
  front : frames ≡ [] → at ≡ 0 → FrontFault b code → CaptureFault b frames code at
  pcap : (order : Order) (framing : Framing) (right rest : List ℕ) → b ≡ right ++ rest →
      IsPcap right order framing frames → at ≡ length right → RecordFault order rest code →
      CaptureFault b frames code at
  pcapng : (s : Option Section) (right rest : List ℕ) → MAGIC_LEN ≤ length b →
      begins_section b ≡ true →
      b ≡ right ++ rest → AreBlocks None right frames s → at ≡ length right →
      BlockFault s rest code →
      CaptureFault b frames code at
