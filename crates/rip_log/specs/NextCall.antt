-- What a reader stands for, and what a call of `next` answers and leaves.
use Rattle.std.specs.Prelude.{◌≡◌, ◌+◌, ◌≤◌, ℕ, Bool, true, false, not, List, [], Option, Some, None, Result, Ok, Err, IfOk, IfErr, IfSome, OnOk, is_err}
use Rattle.rip_wire.specs.Datagram.{datagram_bytes}
use Rattle.rip_log.specs.Codes.{is_read}
use Rattle.rip_log.specs.Cuts.{DropsLines, PassesLines}
use Rattle.rip_log.specs.Feeds.{held, text as text_of}
use Rattle.rip_log.specs.Held.{ready_lines}
use Rattle.rip_log.specs.Lines.{Capture}
use Rattle.rip_log.specs.Logs.{Log, log_at, Gives}
use Rattle.rip_log.specs.Wholes.{OfWhole, Went}
use Rattle.rip_log.specs.declared.error.LogCode.TheVariants.{Ended}
use Rattle.rip_log.specs.declared.error.LogError.{LogError}
use Rattle.rip_log.specs.declared.limits.TheConstants.{MOST_LINES}
use Rattle.rip_log.specs.declared.reader.LogReader.{LogReader}
use Rattle.rip_log.specs.declared.reader.Record.{Record}

-- the source beneath
abbrev pub source_of : {R : Type 0} → LogReader R → R
source_of reader = reader.window.feed.source

-- the text to come: what is held, and then what the source still gives
abbrev pub text : {R : Type 0} → (R → Option (List ℕ)) → LogReader R → Option (List ℕ)
text coming reader = text_of coming reader.window.feed

-- the bytes that the source has given and no line has taken
abbrev pub held_by : {R : Type 0} → LogReader R → List ℕ
held_by reader = held reader.window.feed

-- the lines behind the reader
abbrev pub lines_behind : {R : Type 0} → LogReader R → ℕ
lines_behind reader = reader.progress.lines

-- an error was answered
abbrev pub has_stopped : {R : Type 0} → LogReader R → Bool
has_stopped reader = reader.progress.is_stopped

-- what is still to come from a reader, where the bytes to come are modelled
abbrev pub log_to_come : {R : Type 0} → (R → Option (List ℕ)) → LogReader R → Option Log
log_to_come coming reader = log_at (lines_behind reader) (text coming reader)

-- nothing is held, and the source has come to its end
abbrev pub IsOver : {R : Type 0} → (R → Bool) → LogReader R → Type 0
IsOver at_end reader = (held reader.window.feed ≡ []) × (at_end (source_of reader) ≡ true)

-- the capture of a record
abbrev pub capture_of : Record → Capture
capture_of r = record { link = r.link.now; sender = r.sender; datagram = datagram_bytes r.datagram }

-- the number of a record's line
abbrev pub line_of : Record → ℕ
line_of r = r.line

-- the last line that a call asked for: that of the record or of the error, or the one after those
-- behind
abbrev pub line_asked : {R X : Type 0} → (X → ℕ) → LogReader R → Result (Option X) LogError → ℕ
line_asked number new (Ok (Some x)) = number x
line_asked number new (Ok None) = lines_behind new + 1
line_asked number new (Err e) = e.line

-- the number of the last line that is ready in what the reader holds, or that is behind it
abbrev pub last_ready : {R : Type 0} → LogReader R → ℕ
last_ready reader = lines_behind reader + ready_lines (held reader.window.feed)

-- the call failed since the source did
abbrev pub is_unreadable : {A : Type 0} → Result A LogError → Bool
is_unreadable (Ok x) = false
is_unreadable (Err e) = is_read e.code

-- a line is bad, or an error was answered before
abbrev pub is_refused : {A : Type 0} → Result A LogError → Bool
is_refused (Ok x) = false
is_refused (Err e) = not (is_read e.code)

-- what a call answers of the log to come, each record seen by view and number, and the lines behind
-- the reader then
pub record Answers {R X : Type 0} (given : R → List ℕ) (at_end : R → Bool) (view : X → Capture)
    (number : X → ℕ) (old new : LogReader R) (result : Result (Option X) LogError) : Type 0 where
  -- the next record of the log to come, or its end or fault
  pub gives : has_stopped old ≡ false →
      OfWhole given at_end (source_of new) (λ coming.
      Gives view number (log_to_come coming old) (log_to_come coming new) result)
  -- the lines behind are those that were passed, and an error is at the line after them
  pub passed : is_refused result ≡ false →
      OfWhole given at_end (source_of new) (λ coming.
      PassesLines (text coming old) (lines_behind old) (text coming new) (lines_behind new))
  pub here : IfErr result (λ e. e.line ≡ lines_behind new + 1)
  -- no line was taken behind the one that the call asked for, also where that is refused
  pub drops : OfWhole given at_end (source_of new) (λ coming.
      DropsLines (text coming old) (lines_behind old) (text coming new)
      (line_asked number new result))
  -- a record is of a line behind it, and each call has a later one
  pub onward : IfOk result (λ found. IfSome found (λ x.
      (lines_behind old + 1 ≤ lines_behind new) × (number x ≡ lines_behind new)))
  pub few : lines_behind new ≤ MOST_LINES
  -- after an error there is none but Ended, at the same line
  pub ended : has_stopped old ≡ true →
      (result ≡ Err (record { code = Ended; line = lines_behind old + 1 }))
      × (lines_behind new ≡ lines_behind old)

-- what a call leaves of the marks of the source and the reader
pub record KeepsMarks {R A : Type 0} (broken at_end : R → Bool) (old new : LogReader R)
    (result : Result (Option A) LogError) : Type 0 where
  -- the code Read only where the source failed; every other outcome leaves its mark
  pub failed : is_unreadable result ≡ true → broken (source_of new) ≡ true
  pub marks : is_unreadable result ≡ false → broken (source_of new) ≡ broken (source_of old)
  -- an error is the last answer
  pub stopped : has_stopped new ≡ is_err result
  -- None only where the source has come to its end, and for good
  pub over : result ≡ Ok None → IsOver at_end new
  pub stays_over : has_stopped old ≡ false → IsOver at_end old →
      (result ≡ Ok None) × IsOver at_end new

-- what a call pulls
pub record Pulls {R X : Type 0} (given : R → List ℕ) (coming : R → Option (List ℕ))
    (at_end : R → Bool) (number : X → ℕ) (old new : LogReader R)
    (result : Result (Option X) LogError) : Type 0 where
  -- the source went on
  pub went : Went given coming at_end (source_of old) (source_of new)
  -- past its end, and after an error, it stays as it is
  pub unpulled : at_end (source_of old) ≡ true → source_of new ≡ source_of old
  pub rests : has_stopped old ≡ true → source_of new ≡ source_of old
  -- and where each line that the call asked for was ready; then the lines after them are ready
  -- still
  pub ready : line_asked number new result ≤ last_ready old → source_of new ≡ source_of old
  pub still_ready : line_asked number new result ≤ last_ready old →
      OnOk result (last_ready new ≡ last_ready old)

-- what a call of `next` answers, each record seen by view and number, and leaves
pub record NextCall {R X : Type 0} (given : R → List ℕ) (coming : R → Option (List ℕ))
    (broken at_end : R → Bool) (view : X → Capture) (number : X → ℕ) (old new : LogReader R)
    (result : Result (Option X) LogError) : Type 0 where
  pub answers : Answers given at_end view number old new result
  pub marks : KeepsMarks broken at_end old new result
  pub pulls : Pulls given coming at_end number old new result
