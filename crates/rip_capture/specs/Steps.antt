-- What the parts of a call of `next` do.
use Rattle.std.specs.Prelude.{◌≡◌, ◌≢◌, ◌⊎◌, ◌<◌, ◌^◌, ◌++◌, ℕ, Bool, false, List, [], ◌∷◌, Option, Some, None, Result, Ok, Err, IfOk, IfSome, length}
use Rattle.rip_capture.specs.Captures.{IsNext}
use Rattle.rip_capture.specs.Codes.{is_read}
use Rattle.rip_capture.specs.Finds.{IsFound}
use Rattle.rip_capture.specs.Interfaces.{CameBy, Only, came_by}
use Rattle.rip_capture.specs.NextCall.{EndsHere, IsFar, IsOver, IsReady, Moves, Stands, StopsAt, held_by, position_of, refusal_of, section_by, source_of}
use Rattle.rip_capture.specs.Pcap.{Frame}
use Rattle.rip_capture.specs.Pcapng.{AreBlocks, BlockFault, Section, order_of}
use Rattle.rip_log.specs.Feeds.{room}
use Rattle.rip_log.specs.Spans.{IsWithin, slice_of}
use Rattle.rip_capture.specs.declared.blocks.Block.{Block}
use Rattle.rip_capture.specs.declared.interface.Interface.{Interface}
use Rattle.rip_capture.specs.declared.error.CaptureCode.TheVariants.{Cut, Read}
use Rattle.rip_capture.specs.declared.error.CaptureError.{CaptureError}
use Rattle.rip_capture.specs.declared.reader.Format.{Format}
use Rattle.rip_capture.specs.declared.reader.CaptureReader.{CaptureReader}
use Rattle.rip_capture.specs.declared.reader.Format.TheVariants.{Pcapng}
use Rattle.rip_capture.specs.declared.reader.Found.{Found}
use Rattle.rip_capture.specs.declared.reader.Step.{Step}
use Rattle.rip_capture.specs.declared.reader.Step.TheVariants.{Packet, Passed}

-- the interface of a number, where the packet is one of a pcapng file
abbrev pub came_in : List Interface → Option ℕ → CameBy
came_in interfaces None = Only
came_in interfaces (Some k) = came_by interfaces k

-- what a found packet is in its file
abbrev pub frame_at : {R : Type 0} → CaptureReader R → Found → Frame
frame_at reader found = record {
  link_type = found.link_type;
  bytes = slice_of reader.parts.feed.buffer.items found.bytes;
  interface = came_in (section_by reader).interfaces found.interface;
  time = found.time;
}

-- the offset of its record or block
abbrev pub place_at : Found → ℕ
place_at found = found.at

-- the packet lies in the buffer, and its interface was described
abbrev pub IsGood : {R : Type 0} → CaptureReader R → Found → Type 0
IsGood reader found =
    IsWithin (room reader.parts.feed) found.bytes
    × IfSome found.interface (λ k. k < length (section_by reader).interfaces)

-- the packet that a block brought does
abbrev pub IsGoodStep : {R : Type 0} → CaptureReader R → Step → Type 0
IsGoodStep reader (Packet found) = IsGood reader found
IsGoodStep reader Passed = Unit {0}

-- what reading the front does to a file of which these frames were read
abbrev pub BeginsSo : {R : Type 0} → (R → List ℕ) → (R → Bool) → List ℕ → List Frame →
    CaptureReader R → Result Format CaptureError → Type 0
BeginsSo given at_end before frames new (Ok f) =
    (taken : List ℕ) × Stands given before new taken frames
BeginsSo given at_end before frames new (Err e) = StopsAt given at_end before frames e new

-- what reading the front does, where it was not read; where it was, it does nothing
pub record Begins {R : Type 0} (given : R → List ℕ) (coming : R → Option (List ℕ))
    (broken at_end : R → Bool) (old new : CaptureReader R) (result : Result Format CaptureError)
    : Type 0 where
  pub goes : (before taken : List ℕ) (frames : List Frame) → Stands given before old taken frames →
      BeginsSo given at_end before frames new result
  pub moves : Moves given coming broken at_end old new result
  pub format : IfOk result (λ f. new.format ≡ Some f)
  pub kept : (f : Format) → old.format ≡ Some f → (result ≡ Ok f) × (new ≡ old)
  pub refusal : refusal_of new ≡ refusal_of old

-- ---- blocks

-- a reader stands behind these bytes of a pcapng file, with these frames, and in the next block
-- behind these of it, in this section, or at the front
pub record StandsAt {R : Type 0} (given : R → List ℕ) (before : List ℕ) (reader : CaptureReader R)
    (taken passed : List ℕ) (frames : List Frame) (s : Option Section) (block : Block)
    : Type 0 where
  pub gave : given (source_of reader) ≡ before ++ taken ++ (passed ++ held_by reader)
  pub position : position_of reader ≡ length taken
  pub read : AreBlocks None taken frames s
  pub stands : (now : Section) → s ≡ Some now → now ≡ section_by reader
  pub found : IsFound (order_of s) passed (held_by reader) block

-- the frames that a block brought
abbrev pub frames_of : {R : Type 0} → CaptureReader R → Step → List Frame
frames_of reader (Packet found) = frame_at reader found ∷ []
frames_of reader Passed = []

-- the packet that a block brought begins there
abbrev pub BringsAt : ℕ → Step → Type 0
BringsAt at (Packet found) = place_at found ≡ at
BringsAt at Passed = Unit {0}

-- a reader took a block
pub record TakesBlock {R : Type 0} (given : R → List ℕ) (before taken : List ℕ)
    (frames : List Frame)
    (new : CaptureReader R) (step : Step) : Type 0 where
  pub more : List ℕ
  pub gave : given (source_of new) ≡ before ++ (taken ++ more) ++ held_by new
  pub position : position_of new ≡ length (taken ++ more)
  pub some : 0 < length more
  pub read : AreBlocks None (taken ++ more) (frames ++ frames_of new step) (Some (section_by new))
  pub brings : BringsAt (length taken) step
  pub next : (frame : Frame) → frames_of new step ≡ frame ∷ [] → IsNext taken more frames

-- a reader is further behind the front of its file than before
abbrev pub GoesOn : {R : Type 0} → CaptureReader R → CaptureReader R → Type 0
GoesOn old new = (position_of old < position_of new) × (position_of new < 2 ^ 64)

-- what taking a block leaves; a fault is one of its body
abbrev pub TakesSo : {R : Type 0} → (R → List ℕ) → List ℕ → List ℕ → List ℕ → List Frame →
    Option Section → CaptureReader R → Result Step CaptureError → Type 0
TakesSo given before taken passed frames s new (Ok step) =
    TakesBlock given before taken frames new step
TakesSo given before taken passed frames s new (Err e) =
    (e.at ≡ length taken)
    × (given (source_of new) ≡ before ++ taken ++ (passed ++ held_by new))
    × (position_of new ≡ length taken)
    × (((e.code ≡ Read) × IsFar new)
    ⊎ ((is_read e.code ≡ false) × (e.code ≢ Cut) × BlockFault s (passed ++ held_by new) e.code))

-- what the next block does to a file of which these frames were read
abbrev pub StepsSo : {R : Type 0} → (R → List ℕ) → (R → Bool) → List ℕ → List ℕ → List Frame →
    CaptureReader R → Result (Option Step) CaptureError → Type 0
StepsSo given at_end before taken frames new (Ok (Some step)) =
    TakesBlock given before taken frames new step
StepsSo given at_end before taken frames new (Ok None) = EndsHere given at_end before frames new
StepsSo given at_end before taken frames new (Err e) = StopsAt given at_end before frames e new

-- what reading the next block of a pcapng file does
pub record Steps {R : Type 0} (given : R → List ℕ) (coming : R → Option (List ℕ))
    (broken at_end : R → Bool) (old new : CaptureReader R)
    (result : Result (Option Step) CaptureError) : Type 0 where
  pub goes : (before taken : List ℕ) (frames : List Frame) → Stands given before old taken frames →
      StepsSo given at_end before taken frames new result
  pub moves : Moves given coming broken at_end old new result
  pub format : new.format ≡ Some Pcapng
  pub on : IfOk result (λ step. IfSome step (λ s. GoesOn old new))
  pub over : result ≡ Ok None → IsOver at_end new
  pub stays_over : IsOver at_end old → result ≡ Ok None
  -- nothing is pulled where the next packet is held, and then it is answered, or its fault
  pub ready : IsReady old → (source_of new ≡ source_of old) × (result ≢ Ok (Some Passed))
  pub refusal : refusal_of new ≡ refusal_of old
