-- What one line does to a reader, and the record that is found in it.
use Rattle.std.specs.Prelude.{◌≡◌, ◌⊎◌, ◌+◌, ◌<◌, ◌≤◌, ℕ, Bool, true, false, List, Option, Some, None, Result, Ok, Err, IfErr, IfSome, is_err, length}
use Rattle.std.specs.Io.KnownBytes.{Keeps}
use Rattle.rip_log.specs.Codes.{code_of, is_read}
use Rattle.rip_log.specs.Said.{Origin, origin_of}
use Rattle.rip_log.specs.Feeds.{held, room}
use Rattle.rip_log.specs.Held.{ended_lines, ready_lines}
use Rattle.rip_log.specs.Cuts.{FirstLine, HasLine, LongFirst}
use Rattle.rip_log.specs.NextCall.{source_of, lines_behind, last_ready, text, has_stopped, is_unreadable}
use Rattle.rip_log.specs.NextLineCall.{last_ended}
use Rattle.rip_log.specs.Wholes.{Went}
use Rattle.rip_log.specs.Lines.{Capture, judge}
use Rattle.rip_log.specs.Logs.{IfElse}
use Rattle.rip_log.specs.Parts.{AreParts, IsFront, capture_of_parts, origin_at}
use Rattle.rip_log.specs.Spans.{IsWithin, slice_of}
use Rattle.rip_log.specs.declared.error.LogCode.{LogCode}
use Rattle.rip_log.specs.declared.error.LogCode.TheVariants.{Read, TooManyLines}
use Rattle.rip_log.specs.declared.error.LogError.{LogError}
use Rattle.rip_log.specs.declared.limits.TheConstants.{MOST_LINES}
use Rattle.rip_log.specs.declared.reader.FoundFault.{FoundFault}
use Rattle.rip_log.specs.declared.reader.FoundLine.{FoundLine}
use Rattle.rip_log.specs.declared.reader.FoundLine.TheVariants.{Record, Bad, Long}
use Rattle.rip_log.specs.declared.reader.FoundRecord.{FoundRecord}
use Rattle.rip_log.specs.declared.reader.LogReader.{LogReader}
use Rattle.rip_log.specs.declared.reader.Step.{Step}
use Rattle.rip_log.specs.declared.reader.Step.TheVariants.{Skipped, Next}

-- the line of the record
abbrev pub line_at : {R : Type 0} → LogReader R → FoundRecord → List ℕ
line_at reader found = slice_of reader.window.feed.buffer.items found.line

-- the capture of the record
abbrev pub capture_at : {R : Type 0} → LogReader R → FoundRecord → Capture
capture_at reader found = capture_of_parts (line_at reader found) reader.room found.parts

-- the record lies in the reader
pub record IsGood {R : Type 0} (reader : LogReader R) (found : FoundRecord) : Type 0 where
  pub line : IsWithin (room reader.window.feed) found.line
  pub parts : AreParts (line_at reader found) reader.room found.parts

-- the line that is bad
abbrev pub bad_line_at : {R : Type 0} → LogReader R → FoundFault → List ℕ
bad_line_at reader found = slice_of reader.window.feed.buffer.items found.line

-- the origin of a line that is bad
abbrev pub origin_found : {R : Type 0} → LogReader R → FoundFault → Option Origin
origin_found reader found = origin_at (bad_line_at reader found) found.fault.front

-- the bad line lies in the reader
pub record IsGoodFault {R : Type 0} (reader : LogReader R) (found : FoundFault) : Type 0 where
  pub line : IsWithin (room reader.window.feed) found.line
  pub front : IfSome found.fault.front (IsFront (bad_line_at reader found))

-- a line was taken off known text, and is judged so
abbrev pub TakesLine : Option (List ℕ) → Option (List ℕ) → Result (Option Capture) LogCode → Type 0
TakesLine old new judged = (line : List ℕ) × FirstLine old new line × (judge line ≡ judged)

-- a line was taken off known text, and is bad by this code, with this origin
abbrev pub TakesBad : Option (List ℕ) → Option (List ℕ) → LogCode → Option Origin → Type 0
TakesBad old new code origin =
    (line : List ℕ) × FirstLine old new line
    × (judge line ≡ Err code) × (origin_of line code ≡ origin)

-- there is a line after as many as are read
abbrev pub IsPastLast : Option (List ℕ) → Option (List ℕ) → ℕ → LogCode → Type 0
IsPastLast old new n code =
    Keeps old new × HasLine new true × (MOST_LINES ≤ n) × (code ≡ TooManyLines)

-- the next line of known text, of which n others come before: a record or a bad line was taken off
-- it, or one that is too long is still there; or there is none, the source failed, or there are too
-- many
abbrev pub NextSays : {R : Type 0} → Option (List ℕ) → ℕ → Option (List ℕ) → LogReader R →
    Result (Option FoundLine) LogError → Type 0
NextSays old n left new (Ok (Some (Record found))) =
    TakesLine old left (Ok (Some (capture_at new found)))
NextSays old n left new (Ok (Some (Bad found))) =
    TakesBad old left (code_of found.fault.why) (origin_found new found)
NextSays old n left new (Ok (Some Long)) = LongFirst old × Keeps old left
NextSays old n left new (Ok None) = Keeps old left × HasLine left false
NextSays old n left new (Err e) =
    IfElse (is_read e.code) (Keeps old left) (IsPastLast old left n e.code)

-- a line that was found lies in the reader, and an error is one of these
abbrev pub NextIsGood : {R : Type 0} → LogReader R → Result (Option FoundLine) LogError → Type 0
NextIsGood new (Ok (Some (Record found))) = IsGood new found
NextIsGood new (Ok (Some (Bad found))) = IsGoodFault new found
NextIsGood new (Ok (Some Long)) = 0 < length (held new.window.feed)
NextIsGood new (Ok None) = Unit {0}
NextIsGood new (Err e) =
    (e.code ≡ Read) ⊎ ((e.code ≡ TooManyLines) × (e.line ≡ MOST_LINES + 1))

-- what a step does to the text to come: it takes off a line that says nothing, or comes to the next
abbrev pub LineSays : {R : Type 0} → (R → Option (List ℕ)) →
    LogReader R → LogReader R → Result Step LogError → Type 0
LineSays coming old new (Ok Skipped) = TakesLine (text coming old) (text coming new) (Ok None)
LineSays coming old new (Ok (Next next)) =
    NextSays (text coming old) (lines_behind old) (text coming new) new (Ok next)
LineSays coming old new (Err e) =
    NextSays (text coming old) (lines_behind old) (text coming new) new (Err e)

-- what a step found lies in the reader
abbrev pub FoundIsGood : {R : Type 0} → LogReader R → Result Step LogError → Type 0
FoundIsGood new (Ok Skipped) = Unit {0}
FoundIsGood new (Ok (Next next)) = NextIsGood new (Ok next)
FoundIsGood new (Err e) = NextIsGood new (Err e)

-- how a line moves a reader on
pub record Moves {R A : Type 0} (given : R → List ℕ) (coming : R → Option (List ℕ))
    (broken at_end : R → Bool) (old new : LogReader R) (result : Result A LogError) : Type 0 where
  -- the source went on
  pub went : Went given coming at_end (source_of old) (source_of new)
  -- the code Read only where the source failed; every other outcome leaves its mark
  pub failed : is_unreadable result ≡ true → broken (source_of new) ≡ true
  pub marks : is_unreadable result ≡ false → broken (source_of new) ≡ broken (source_of old)
  -- an error is at the line after those behind
  pub here : IfErr result (λ e. e.line ≡ lines_behind new + 1)
  pub stopped : has_stopped new ≡ is_err result
  -- past its end the source stays as it is
  pub unpulled : at_end (source_of old) ≡ true → source_of new ≡ source_of old

-- how many lines are counted with what was found: one that is bad or too long not yet
abbrev pub lines_counted : Result (Option FoundLine) LogError → ℕ
lines_counted (Ok (Some (Record found))) = 1
lines_counted (Ok (Some (Bad found))) = 0
lines_counted (Ok (Some Long)) = 0
lines_counted (Ok None) = 0
lines_counted (Err e) = 0

-- how many lines a step counts
abbrev pub lines_taken : Result Step LogError → ℕ
lines_taken (Ok Skipped) = 1
lines_taken (Ok (Next next)) = lines_counted (Ok next)
lines_taken (Err e) = 0

-- there is a line that says something
abbrev pub is_found : Result (Option FoundLine) LogError → Bool
is_found (Ok (Some found)) = true
is_found (Ok None) = false
is_found (Err e) = false

-- a step came to a line that is read
abbrev pub is_line : Result Step LogError → Bool
is_line (Ok Skipped) = true
is_line (Ok (Next next)) = is_found (Ok next)
is_line (Err e) = false

-- where the next line was ready it was taken, or it is bad, and the others are ready still
abbrev pub TakesNext : {R : Type 0} → LogReader R → LogReader R →
    Result (Option FoundLine) LogError → Type 0
TakesNext old new (Ok (Some (Record found))) = last_ready new ≡ last_ready old
TakesNext old new (Ok (Some (Bad found))) = Unit {0}
TakesNext old new (Ok (Some Long)) = Unit {0}
TakesNext old new (Ok None) = ⊥
TakesNext old new (Err e) = Unit {0}

-- the same of the line that a step takes
abbrev pub TakesOne : {R : Type 0} → LogReader R → LogReader R → Result Step LogError → Type 0
TakesOne old new (Ok Skipped) = last_ready new ≡ last_ready old
TakesOne old new (Ok (Next next)) = TakesNext old new (Ok next)
TakesOne old new (Err e) = Unit {0}

-- where a line feed ends the next line it was taken, or it is too long, and the others are there
-- still
abbrev pub TakesNextEnded : {R : Type 0} → LogReader R → LogReader R →
    Result (Option FoundLine) LogError → Type 0
TakesNextEnded old new (Ok (Some (Record found))) = last_ended new ≡ last_ended old
TakesNextEnded old new (Ok (Some (Bad found))) = last_ended new + 1 ≡ last_ended old
TakesNextEnded old new (Ok (Some Long)) =
    (last_ended new ≡ last_ended old) × (0 < ended_lines (held new.window.feed))
TakesNextEnded old new (Ok None) = ⊥
TakesNextEnded old new (Err e) = Unit {0}

-- the same of the line that a step takes
abbrev pub TakesOneEnded : {R : Type 0} → LogReader R → LogReader R → Result Step LogError → Type 0
TakesOneEnded old new (Ok Skipped) = last_ended new ≡ last_ended old
TakesOneEnded old new (Ok (Next next)) = TakesNextEnded old new (Ok next)
TakesOneEnded old new (Err e) = Unit {0}

-- how a step moves on, and that it leaves the source as it is where a line is ready
pub record StepsOn {R : Type 0} (old new : LogReader R)
    (result : Result Step LogError) : Type 0 where
  pub behind : lines_behind new ≡ lines_behind old + lines_taken result
  pub few : is_line result ≡ true → lines_behind old < MOST_LINES
  pub unpulled : 0 < ready_lines (held old.window.feed) → source_of new ≡ source_of old
  pub takes : 0 < ready_lines (held old.window.feed) → TakesOne old new result
  pub ended : 0 < ended_lines (held old.window.feed) → source_of new ≡ source_of old
  pub takes_ended : 0 < ended_lines (held old.window.feed) → TakesOneEnded old new result
