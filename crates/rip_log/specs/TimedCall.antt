-- What a reader of lines with times stands for, and what a call of `next` answers and leaves.
use Rattle.std.specs.Prelude.{◌≡◌, ◌⊎◌, ◌+◌, ◌<◌, ◌≤◌, ℕ, Bool, true, false, List, [], Option, Some, None, Result, Ok, Err, IfOk, IfSome, OnErr, OnOk}
use Rattle.std.specs.Io.KnownBytes.{Keeps}
use Rattle.rip_wire.specs.Datagram.{datagram_bytes}
use Rattle.rip_log.specs.Cuts.{FirstLine, HasLine, IsEndless}
use Rattle.rip_log.specs.Feeds.{held, room, text as text_of}
use Rattle.rip_log.specs.Held.{ended_lines}
use Rattle.rip_log.specs.Lines.{Capture}
use Rattle.rip_log.specs.Spans.{IsWithin, slice_of}
use Rattle.rip_log.specs.TimedParts.{AreTimedParts, timed_said}
use Rattle.rip_log.specs.TimedText.{IsEarly, IsTimedLine, TimedSaid, captured, bad, untimed}
use Rattle.rip_log.specs.Wholes.{OfWhole, Went}
use Rattle.rip_log.specs.declared.error.LogCode.{LogCode}
use Rattle.rip_log.specs.declared.error.LogCode.TheVariants.{LongLine}
use Rattle.rip_log.specs.declared.limits.TheConstants.{MOST_LINE_NUMBER}
use Rattle.rip_log.specs.declared.timed.reader.FoundTimed.{FoundTimed}
use Rattle.rip_log.specs.declared.timed.reader.FoundTimed.TheVariants as found
use Rattle.rip_log.specs.declared.timed.reader.TimedLine.{TimedLine}
use Rattle.rip_log.specs.declared.timed.reader.TimedLine.TheVariants.{Skipped, Record, Bad}
use Rattle.rip_log.specs.declared.timed.reader.TimedReader.{TimedReader}
use Rattle.rip_log.specs.declared.timed.reader.TimedRecord.{TimedRecord}

-- the source beneath
abbrev pub timed_source : {R : Type 0} → TimedReader R → R
timed_source reader = reader.window.feed.source

-- the text to come: what is held, and then what the source still gives
abbrev pub timed_text : {R : Type 0} → (R → Option (List ℕ)) → TimedReader R → Option (List ℕ)
timed_text coming reader = text_of coming reader.window.feed

-- the bytes that the source has given and no line has taken
abbrev pub timed_held : {R : Type 0} → TimedReader R → List ℕ
timed_held reader = held reader.window.feed

-- the lines behind the reader
abbrev pub timed_lines : {R : Type 0} → TimedReader R → ℕ
timed_lines reader = reader.lines

-- the capture of a record
abbrev pub timed_capture : TimedRecord → Capture
timed_capture r =
    record { link = r.link.now; sender = r.sender; datagram = datagram_bytes r.datagram }

-- what a bad line says, by its time, if it has one, and its code
abbrev pub bad_said : Option ℕ → LogCode → TimedSaid
bad_said None code = untimed code
bad_said (Some micros) code = bad micros code

-- what a line says that is lent, unless it is skipped
abbrev pub timed_said_of : TimedLine → Option TimedSaid
timed_said_of Skipped = None
timed_said_of (Record r) = Some (captured r.micros (timed_capture r))
timed_said_of (Bad fault) = Some (bad_said fault.micros fault.code)

-- its number, where it is not skipped
abbrev pub timed_number : TimedLine → Option ℕ
timed_number Skipped = None
timed_number (Record r) = Some r.line
timed_number (Bad fault) = Some fault.line

-- what the line says that was found
abbrev pub found_said : {R : Type 0} → TimedReader R → FoundTimed → Option TimedSaid
found_said reader found.Long = Some (untimed LongLine)
found_said reader (found.Line span judged) =
    timed_said (slice_of reader.window.feed.buffer.items span) reader.room judged

-- it lies in the reader
abbrev pub IsGoodTimed : {R : Type 0} → TimedReader R → FoundTimed → Type 0
IsGoodTimed reader found.Long = Unit {0}
IsGoodTimed reader (found.Line span judged) =
    IsWithin (room reader.window.feed) span
    × AreTimedParts (slice_of reader.window.feed.buffer.items span) reader.room judged

-- a line was taken off known text, and is skipped or says this
abbrev pub TakesTimed : Option (List ℕ) → Option (List ℕ) → Option TimedSaid → Type 0
TakesTimed None new said = Unit {0}
TakesTimed (Some t) new said =
    (line : List ℕ) × FirstLine (Some t) new line × IsTimedLine line said

-- what a call takes off known text, each line seen by view: its first line, or nothing at its end
abbrev pub GivesTimed : {X E : Type 0} → (X → Option TimedSaid) → Option (List ℕ) →
    Option (List ℕ) → Result (Option X) E → Type 0
GivesTimed view old new (Ok None) = Keeps old new × HasLine new false
GivesTimed view old new (Ok (Some x)) = TakesTimed old new (view x)
GivesTimed view old new (Err e) = Unit {0}

-- how many lines a call takes
abbrev pub timed_taken : {X E : Type 0} → Result (Option X) E → ℕ
timed_taken (Ok (Some x)) = 1
timed_taken (Ok None) = 0
timed_taken (Err e) = 0

-- nothing is held, and the source has come to its end
abbrev pub IsTimedOver : {R : Type 0} → (R → Bool) → TimedReader R → Type 0
IsTimedOver at_end reader = (timed_held reader ≡ []) × (at_end (timed_source reader) ≡ true)

-- what a call of `next` answers, each line seen by view, and leaves
pub record TimedCall {R X E : Type 0} (given : R → List ℕ) (coming : R → Option (List ℕ))
    (broken at_end : R → Bool) (view : X → Option TimedSaid) (number : X → Option ℕ)
    (old new : TimedReader R) (result : Result (Option X) E) : Type 0 where
  -- the next line of the text to come, or its end
  pub gives : OfWhole given at_end (timed_source new) (λ coming.
      GivesTimed view (timed_text coming old) (timed_text coming new) result)
  -- an error only where the source failed, or a line or the number of lines has no end
  pub failed : OnErr result (OfWhole given at_end (timed_source new) (λ coming.
      (broken (timed_source new) ≡ true)
      ⊎ (IsEndless (timed_text coming old) ⊎ (timed_lines old ≡ MOST_LINE_NUMBER))))
  -- every other outcome leaves the source's mark of failure
  pub marks : OnOk result (broken (timed_source new) ≡ broken (timed_source old))
  pub behind : OnOk result (timed_lines new ≡ timed_lines old + timed_taken result)
  pub few : IfOk result (λ found. IfSome found (λ x. timed_lines new ≤ MOST_LINE_NUMBER))
  -- a line that is not skipped has the number of the last line behind the reader
  pub numbered : IfOk result (λ found. IfSome found (λ x. IfSome (number x) (λ n.
      n ≡ timed_lines new)))
  -- its time, if it has one, is of the years to 9999
  pub early : IfOk result (λ found. IfSome found (λ x. IsEarly (view x)))
  -- None only where the source has come to its end
  pub over : result ≡ Ok None → IsTimedOver at_end new
  -- the source went on; it stays as it is past its end, and where the line feed of the next line
  -- was held
  pub went : Went given coming at_end (timed_source old) (timed_source new)
  pub unpulled : at_end (timed_source old) ≡ true → timed_source new ≡ timed_source old
  pub ready : 0 < ended_lines (timed_held old) → timed_source new ≡ timed_source old
