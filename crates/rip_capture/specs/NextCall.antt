-- What a reader stands for, and what a call of `next` answers and leaves.
use Rattle.std.specs.Prelude.{◌≡◌, ◌⊎◌, ◌≤◌, ◌+◌, ◌^◌, ◌++◌, ℕ, Bool, true, false, List, [], ◌∷◌, Option, Some, None, is_some, Result, Ok, Err, length}
use Rattle.rip_log.specs.Wholes.{Went}
use Rattle.rip_capture.specs.Bodies.{section_of}
use Rattle.rip_capture.specs.Captures.{CaptureFault, HasNoMore, IsCapture, IsNext, IsRead}
use Rattle.rip_capture.specs.Codes.{EndsFor, is_read}
use Rattle.rip_log.specs.Feeds.{held}
use Rattle.rip_capture.specs.Finds.{HoldsPacketBlock}
use Rattle.rip_capture.specs.Interfaces.{came_of}
use Rattle.rip_capture.specs.Pcap.{Frame, HoldsRecord, IsPcap}
use Rattle.rip_capture.specs.Pcapng.{AreBlocks, Section}
use Rattle.rip_capture.specs.declared.error.CaptureError.{CaptureError}
use Rattle.rip_capture.specs.declared.reader.CaptureReader.{CaptureReader}
use Rattle.rip_capture.specs.declared.reader.Format.{Format}
use Rattle.rip_capture.specs.declared.reader.Format.TheVariants.{Pcap, Pcapng}
use Rattle.rip_capture.specs.declared.reader.Packet.{Packet}

-- the source beneath
abbrev pub source_of : {R : Type 0} → CaptureReader R → R
source_of reader = reader.parts.feed.source

-- the bytes that the source gave and that were not taken
abbrev pub held_by : {R : Type 0} → CaptureReader R → List ℕ
held_by reader = held reader.parts.feed

-- how many bytes of the file were taken
abbrev pub position_of : {R : Type 0} → CaptureReader R → ℕ
position_of reader = reader.position

-- the error that was answered, and is answered from then on
abbrev pub refusal_of : {R : Type 0} → CaptureReader R → Option CaptureError
refusal_of reader = reader.refusal

-- what a packet is in its file
abbrev pub frame_of : Packet → Frame
frame_of p = record {
  link_type = p.link_type;
  bytes = p.bytes.now;
  interface = came_of p.interface;
  time = p.time;
}

-- the offset of its record or block
abbrev pub place_of : Packet → ℕ
place_of p = p.at

-- in what the next block of a pcapng file stands
abbrev pub section_by : {R : Type 0} → CaptureReader R → Section
section_by reader = section_of reader.section

-- these bytes of a file of this kind were read, and have these frames; blocks then stand in this
-- section
abbrev pub HasRead : Option Format → Section → List ℕ → List Frame → Type 0
HasRead None now taken frames = (taken ≡ []) × (frames ≡ [])
HasRead (Some (Pcap h)) now taken frames = IsPcap taken h.order h.framing frames
HasRead (Some Pcapng) now taken frames = AreBlocks None taken frames (Some now)

-- a reader stands behind these bytes of its file, which have these frames; before is what the
-- source had given when the reader was made
pub record Stands {R : Type 0} (given : R → List ℕ) (before : List ℕ) (reader : CaptureReader R)
    (taken : List ℕ) (frames : List Frame) : Type 0 where
  pub gave : given (source_of reader) ≡ before ++ taken ++ held_by reader
  pub position : position_of reader ≡ length taken
  pub read : HasRead reader.format (section_by reader) taken frames

-- the next packet was taken: its record or block begins at this place, behind a capture of the
-- frames before it
pub record TakesPacket {R : Type 0} (given : R → List ℕ) (before : List ℕ) (frames : List Frame)
    (frame : Frame) (place : ℕ) (new : CaptureReader R) : Type 0 where
  pub front : List ℕ
  pub bytes : List ℕ
  pub right : IsCapture front frames
  pub place_is : place ≡ length front
  pub longer : IsCapture (front ++ bytes) (frames ++ frame ∷ [])
  pub next : IsNext front bytes frames
  pub stands : Stands given before new (front ++ bytes) (frames ++ frame ∷ [])

-- the file has ended: it is a capture of these frames, and all that the source gives
pub record EndsHere {R : Type 0} (given : R → List ℕ) (at_end : R → Bool) (before : List ℕ)
    (frames : List Frame) (new : CaptureReader R) : Type 0 where
  pub file : List ℕ
  pub right : IsCapture file frames
  pub all : held_by new ≡ []
  pub ended : at_end (source_of new) ≡ true
  pub stands : Stands given before new file frames

-- the next part of the file may end past the greatest offset
abbrev pub IsFar : {R : Type 0} → CaptureReader R → Type 0
IsFar reader = 2 ^ 64 ≤ position_of reader + 2 ^ 32

-- the file has a fault behind these frames, or the source failed there
pub record StopsAt {R : Type 0} (given : R → List ℕ) (at_end : R → Bool) (before : List ℕ)
    (frames : List Frame) (error : CaptureError) (new : CaptureReader R) : Type 0 where
  pub front : List ℕ
  pub rest : List ℕ
  pub gave : given (source_of new) ≡ before ++ front ++ rest
  pub read : IsRead front frames
  pub place : error.at ≡ length front
  pub position : position_of new ≡ length front
  pub fault : is_read error.code ≡ false → CaptureFault (front ++ rest) frames error.code error.at
  -- the source failed only where all packets that it gave whole were answered
  pub all : is_read error.code ≡ true → HasNoMore (front ++ rest) frames ⊎ IsFar new
  -- that it is cut is told only at its end, where these are all bytes of it
  pub ended : EndsFor error.code (at_end (source_of new))

-- what a call does to a file of which these frames were read, each packet seen by frame and place
abbrev pub Goes : {R X : Type 0} → (R → List ℕ) → (R → Bool) → (X → Frame) → (X → ℕ) →
    List ℕ → List Frame → CaptureReader R → Result (Option X) CaptureError → Type 0
Goes given at_end frame place before frames new (Ok (Some x)) =
    TakesPacket given before frames (frame x) (place x) new
Goes given at_end frame place before frames new (Ok None) = EndsHere given at_end before frames new
Goes given at_end frame place before frames new (Err e) = StopsAt given at_end before frames e new

-- the reader is at the end of its file
pub record IsOver {R : Type 0} (at_end : R → Bool) (reader : CaptureReader R) : Type 0 where
  pub begun : is_some reader.format ≡ true
  pub all : held_by reader ≡ []
  pub ended : at_end (source_of reader) ≡ true

-- bytes of a file of this kind, behind its front, begin with a whole record, or a whole block of a
-- packet
abbrev pub HoldsPacket : Option Format → Section → List ℕ → Type 0
HoldsPacket None now b = ⊥
HoldsPacket (Some (Pcap h)) now b = HoldsRecord h.order b
HoldsPacket (Some Pcapng) now b = HoldsPacketBlock (Some now.order) b

-- a reader holds the next record, or block of a packet
abbrev pub IsReady : {R : Type 0} → CaptureReader R → Type 0
IsReady reader = HoldsPacket reader.format (section_by reader) (held_by reader)

-- the call failed since the source did
abbrev pub is_unreadable : {A : Type 0} → Result A CaptureError → Bool
is_unreadable (Ok x) = false
is_unreadable (Err e) = is_read e.code

-- how a call moves a source on, and what it leaves of its marks
pub record Moves {R A : Type 0} (given : R → List ℕ) (coming : R → Option (List ℕ))
    (broken at_end : R → Bool) (old new : CaptureReader R)
    (result : Result A CaptureError) : Type 0 where
  pub went : Went given coming at_end (source_of old) (source_of new)
  -- the code Read only where the source failed, or far beyond all files; every other answer leaves
  -- its mark
  pub failed : is_unreadable result ≡ true → (broken (source_of new) ≡ true) ⊎ IsFar new
  pub marks : is_unreadable result ≡ false → broken (source_of new) ≡ broken (source_of old)

-- what a call of a reader that answered no error does, and that the end is for good
pub record Runs {R X : Type 0} (given : R → List ℕ) (coming : R → Option (List ℕ))
    (broken at_end : R → Bool) (frame : X → Frame) (place : X → ℕ) (old new : CaptureReader R)
    (result : Result (Option X) CaptureError) : Type 0 where
  pub goes : (before taken : List ℕ) (frames : List Frame) → Stands given before old taken frames →
      Goes given at_end frame place before frames new result
  pub moves : Moves given coming broken at_end old new result
  pub over : result ≡ Ok None → IsOver at_end new
  pub stays_over : IsOver at_end old → result ≡ Ok None
  -- nothing is pulled where the next record, or block of a packet, is held
  pub ready : IsReady old → source_of new ≡ source_of old

-- the error of an answer
abbrev pub error_of : {A : Type 0} → Result A CaptureError → Option CaptureError
error_of (Ok x) = None
error_of (Err e) = Some e

-- what a call of `next` answers, each packet seen by frame and place, and leaves
pub record NextCall {R X : Type 0} (given : R → List ℕ) (coming : R → Option (List ℕ))
    (broken at_end : R → Bool) (frame : X → Frame) (place : X → ℕ) (old new : CaptureReader R)
    (result : Result (Option X) CaptureError) : Type 0 where
  pub runs : refusal_of old ≡ None → Runs given coming broken at_end frame place old new result
  -- an error is answered again by each later call, which changes nothing
  pub refused : refusal_of new ≡ error_of result
  pub again : (e : CaptureError) → refusal_of old ≡ Some e → (result ≡ Err e) × (new ≡ old)
