-- What a call of `next_line` answers and leaves: the reading that goes on after a bad line.
use Rattle.std.specs.Prelude.{◌≡◌, ◌⊎◌, ◌+◌, ◌≤◌, ◌<◌, ℕ, Bool, true, false, List, [], ◌∷◌, ◌++◌, length, Option, Some, None, Result, Ok, Err, IfErr, IfOk, IfSome, OnOk, is_err}
use Rattle.std.specs.Option.{option_map}
use Rattle.rip_log.specs.Codes.{is_read}
use Rattle.rip_log.specs.Cuts.{PassesLines}
use Rattle.rip_log.specs.Said.{AllSaid, Origin, Said, captured, bad, all_of, many_lines, nothing_said, onto_said, said_at}
use Rattle.rip_log.specs.Feeds.{held}
use Rattle.rip_log.specs.Held.{ended_lines}
use Rattle.rip_log.specs.NextCall.{IsOver, capture_of, has_stopped, is_unreadable, line_asked, line_of, lines_behind, source_of, text}
use Rattle.rip_log.specs.Lines.{lines_of}
use Rattle.rip_log.specs.Logs.{IfElse}
use Rattle.rip_log.specs.Wholes.{OfWhole, Went}
use Rattle.rip_log.specs.declared.error.LogCode.TheVariants.{Ended, Read, TooManyLines}
use Rattle.rip_log.specs.declared.error.LogError.{LogError}
use Rattle.rip_log.specs.declared.limits.TheConstants.{MOST_LINES, MOST_PASSED_BYTES}
use Rattle.rip_log.specs.declared.reader.LogReader.{LogReader}
use Rattle.rip_log.specs.declared.reader.lines.Line.{Line}
use Rattle.rip_log.specs.declared.reader.lines.Line.TheVariants.{Record, Bad}
use Rattle.rip_log.specs.declared.reader.lines.Origin.{Origin as OriginBorrowed}

-- what all lines to come say, where the bytes to come are modelled
abbrev pub said_to_come : {R : Type 0} → (R → Option (List ℕ)) → LogReader R → Option AllSaid
said_to_come coming reader = said_at (lines_behind reader) (text coming reader)

-- the origin that is lent
abbrev pub origin_lent : OriginBorrowed → Origin
origin_lent o = record { link = o.link.now; sender = o.sender }

-- what a line says that is lent
abbrev pub said_of : Line → Said
said_of (Record r) = captured (capture_of r)
said_of (Bad b) = bad b.code (option_map origin_lent b.origin)

-- the number of a line that is lent
abbrev pub number_of : Line → ℕ
number_of (Record r) = line_of r
number_of (Bad b) = b.line

-- the number of the last line whose line feed the reader holds, or that is behind it
abbrev pub last_ended : {R : Type 0} → LogReader R → ℕ
last_ended reader = lines_behind reader + ended_lines (held reader.window.feed)

-- what a call takes off what is to be said, where it is modelled: its first line, or its end, good
-- or by too many lines
abbrev pub GivesLine : {X : Type 0} → (X → Said) → (X → ℕ) → Option AllSaid → Option AllSaid →
    Result (Option X) LogError → Type 0
GivesLine view number None new result = Unit {0}
GivesLine view number (Some all) new (Ok None) = (all ≡ nothing_said) × (new ≡ Some nothing_said)
GivesLine view number (Some all) new (Ok (Some x)) =
    (rest : AllSaid) × (new ≡ Some rest)
    × (all ≡ onto_said (record { line = number x; said = view x }) rest)
GivesLine view number (Some all) new (Err e) =
    IfElse (is_read e.code) (Unit {0}) ((all ≡ many_lines) × (e.code ≡ TooManyLines))

-- the first of these lines has more bytes than are skipped
abbrev pub BeginsEndless : List (List ℕ) → Type 0
BeginsEndless [] = ⊥
BeginsEndless (line ∷ rest) = MOST_PASSED_BYTES < length line

-- a line of known text, of which n others come before, could not be read, behind this one: those
-- before it say nothing; the source failed, or the line has no end
abbrev pub IsUnread : Option (List ℕ) → ℕ → ℕ → Bool → Type 0
IsUnread None n behind failed = Unit {0}
IsUnread (Some t) n behind failed =
    (passed rest : List (List ℕ))
    × (lines_of t ≡ passed ++ rest) × (behind ≡ n + length passed)
    × (all_of n (lines_of t) ≡ all_of behind rest)
    × ((failed ≡ true) ⊎ BeginsEndless rest)

-- what a call answers of what is to be said, each line seen by view and number, and the lines
-- behind the reader then
pub record AnswersLine {R X : Type 0} (given : R → List ℕ) (broken at_end : R → Bool)
    (view : X → Said) (number : X → ℕ) (old new : LogReader R)
    (result : Result (Option X) LogError) : Type 0 where
  -- the next line of those to come that says something, or their end
  pub gives : has_stopped old ≡ false →
      OfWhole given at_end (source_of new) (λ coming.
      GivesLine view number (said_to_come coming old) (said_to_come coming new) result)
  -- Read only where the source failed, or a line has no end
  pub unread : has_stopped old ≡ false → is_unreadable result ≡ true →
      OfWhole given at_end (source_of new) (λ coming.
      IsUnread (text coming old) (lines_behind old) (lines_behind new) (broken (source_of new)))
  -- no other error but that of too many lines, at the line after the last that is read
  pub codes : has_stopped old ≡ false → IfErr result (λ e.
      (e.code ≡ Read) ⊎ ((e.code ≡ TooManyLines) × (e.line ≡ MOST_LINES + 1)))
  -- the lines behind are those that were passed, and an error is at the line after them
  pub passed : is_err result ≡ false →
      OfWhole given at_end (source_of new) (λ coming.
      PassesLines (text coming old) (lines_behind old) (text coming new) (lines_behind new))
  pub here : IfErr result (λ e. e.line ≡ lines_behind new + 1)
  -- a line is one of those behind it, and each call has a later one
  pub onward : IfOk result (λ found. IfSome found (λ x.
      (lines_behind old + 1 ≤ lines_behind new) × (number x ≡ lines_behind new)))
  pub few : lines_behind new ≤ MOST_LINES
  -- after an error there is none but Ended, at the same line
  pub ended : has_stopped old ≡ true →
      (result ≡ Err (record { code = Ended; line = lines_behind old + 1 }))
      × (lines_behind new ≡ lines_behind old)

-- what a call leaves of the marks of the source and the reader
pub record KeepsLineMarks {R A : Type 0} (broken at_end : R → Bool) (old new : LogReader R)
    (result : Result (Option A) LogError) : Type 0 where
  -- every outcome but Read leaves the source's mark of failure
  pub marks : is_unreadable result ≡ false → broken (source_of new) ≡ broken (source_of old)
  -- an error is the last answer
  pub stopped : has_stopped new ≡ is_err result
  -- None only where the source has come to its end, and for good
  pub over : result ≡ Ok None → IsOver at_end new
  pub stays_over : has_stopped old ≡ false → IsOver at_end old →
      (result ≡ Ok None) × IsOver at_end new

-- what a call pulls
pub record PullsLine {R X : Type 0} (given : R → List ℕ) (coming : R → Option (List ℕ))
    (at_end : R → Bool) (number : X → ℕ) (old new : LogReader R)
    (result : Result (Option X) LogError) : Type 0 where
  -- the source went on
  pub went : Went given coming at_end (source_of old) (source_of new)
  -- past its end, and after an error, it stays as it is
  pub unpulled : at_end (source_of old) ≡ true → source_of new ≡ source_of old
  pub rests : has_stopped old ≡ true → source_of new ≡ source_of old
  -- and where the line feed of each line that the call asked for was held; then those of the lines
  -- after them are held still
  pub ready : line_asked number new result ≤ last_ended old → source_of new ≡ source_of old
  pub still_ready : line_asked number new result ≤ last_ended old →
      OnOk result (last_ended new ≡ last_ended old)

-- what a call of `next_line` answers, each line seen by view and number, and leaves
pub record NextLineCall {R X : Type 0} (given : R → List ℕ) (coming : R → Option (List ℕ))
    (broken at_end : R → Bool) (view : X → Said) (number : X → ℕ) (old new : LogReader R)
    (result : Result (Option X) LogError) : Type 0 where
  pub answers : AnswersLine given broken at_end view number old new result
  pub marks : KeepsLineMarks broken at_end old new result
  pub pulls : PullsLine given coming at_end number old new result
