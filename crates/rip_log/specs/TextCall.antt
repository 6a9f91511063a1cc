-- What a reader of lines stands for, and what a call of `next` answers and leaves.
use Rattle.std.specs.Prelude.{◌≡◌, ◌+◌, ◌<◌, ◌≤◌, ℕ, Bool, true, false, List, [], length, Option, Some, None, Result, Ok, Err, IfErr, IfOk, IfSome, is_err}
use Rattle.std.specs.Io.BufRead.{strip_last}
use Rattle.std.specs.Io.KnownBytes.{Keeps}
use Rattle.rip_log.specs.Cuts.{FirstLine, HasLine, LongFirst}
use Rattle.rip_log.specs.Feeds.{held, text as text_of}
use Rattle.rip_log.specs.Held.{ready_lines}
use Rattle.rip_log.specs.NextCall.{is_unreadable}
use Rattle.rip_log.specs.Wholes.{OfWhole, Went}
use Rattle.rip_log.specs.declared.error.LogCode.{LogCode}
use Rattle.rip_log.specs.declared.error.LogCode.TheVariants as codes
use Rattle.rip_log.specs.declared.error.LogError.{LogError}
use Rattle.rip_log.specs.declared.limits.TheConstants.{MOST_LINE_BYTES, MOST_LINES}
use Rattle.rip_log.specs.declared.text.TextLine.{TextLine}
use Rattle.rip_log.specs.declared.text.TextReader.{TextReader}

-- the source beneath
abbrev pub text_source : {R : Type 0} → TextReader R → R
text_source reader = reader.window.feed.source

-- the text to come: what is held, and then what the source still gives
abbrev pub text_to_come : {R : Type 0} → (R → Option (List ℕ)) → TextReader R → Option (List ℕ)
text_to_come coming reader = text_of coming reader.window.feed

-- the bytes that the source has given and no line has taken
abbrev pub text_held : {R : Type 0} → TextReader R → List ℕ
text_held reader = held reader.window.feed

-- the lines behind the reader
abbrev pub text_lines : {R : Type 0} → TextReader R → ℕ
text_lines reader = reader.progress.lines

-- an error was answered
abbrev pub text_stopped : {R : Type 0} → TextReader R → Bool
text_stopped reader = reader.progress.is_stopped

-- the bytes of a line that is lent
abbrev pub text_bytes : TextLine → List ℕ
text_bytes line = line.bytes.now

-- its number
abbrev pub text_number : TextLine → ℕ
text_number line = line.line

-- a line that is not too long was taken off known text, and these are its bytes without a carriage
-- return at the end
abbrev pub TakesBare : Option (List ℕ) → Option (List ℕ) → List ℕ → Type 0
TakesBare old new bare =
    (line : List ℕ) × FirstLine old new line
    × (length line ≤ MOST_LINE_BYTES) × (bare ≡ strip_last 13 line)

-- the next line of known text, of which n others come before, is bad by this code, and it is still
-- there; or the source failed
pub data IsBadNext (old new : Option (List ℕ)) (n : ℕ) : LogCode → Type 0 where
  long_line : n < MOST_LINES → LongFirst old → Keeps old new → IsBadNext old new n codes.LongLine
  too_many : n ≡ MOST_LINES → HasLine old true → Keeps old new
      → IsBadNext old new n codes.TooManyLines
  unread : Keeps old new → IsBadNext old new n codes.Read

-- what a call takes off known text, of which n lines are behind, each line seen by view: its first
-- line, or nothing at its end or a fault
abbrev pub GivesText : {X : Type 0} → (X → List ℕ) → ℕ → Option (List ℕ) → Option (List ℕ) →
    Result (Option X) LogError → Type 0
GivesText view n old new (Ok None) = Keeps old new × HasLine new false
GivesText view n old new (Ok (Some x)) = TakesBare old new (view x)
GivesText view n old new (Err e) = IsBadNext old new n e.code

-- how many lines a call takes
abbrev pub text_taken : {X E : Type 0} → Result (Option X) E → ℕ
text_taken (Ok (Some x)) = 1
text_taken (Ok None) = 0
text_taken (Err e) = 0

-- nothing is held, and the source has come to its end
abbrev pub IsTextOver : {R : Type 0} → (R → Bool) → TextReader R → Type 0
IsTextOver at_end reader = (text_held reader ≡ []) × (at_end (text_source reader) ≡ true)

-- what a call of `next` answers, each line seen by view, and leaves
pub record TextCall {R X : Type 0} (given : R → List ℕ) (coming : R → Option (List ℕ))
    (broken at_end : R → Bool) (view : X → List ℕ) (number : X → ℕ)
    (old new : TextReader R) (result : Result (Option X) LogError) : Type 0 where
  -- the next line of the text to come, its end or its fault
  pub gives : text_stopped old ≡ false → OfWhole given at_end (text_source new) (λ coming.
      GivesText view (text_lines old) (text_to_come coming old) (text_to_come coming new) result)
  -- after an error there is none but Ended, at the same line
  pub ended : text_stopped old ≡ true →
      result ≡ Err (record { code = codes.Ended; line = text_lines old + 1 })
  -- a line has the number of the last line behind the reader, and an error is at the one after it
  pub behind : text_lines new ≡ text_lines old + text_taken result
  pub numbered : IfOk result (λ found. IfSome found (λ x. number x ≡ text_lines new))
  pub here : IfErr result (λ e. e.line ≡ text_lines new + 1)
  pub few : text_lines new ≤ MOST_LINES
  -- the code Read only where the source failed; every other outcome leaves its mark
  pub failed : is_unreadable result ≡ true → broken (text_source new) ≡ true
  pub marks : is_unreadable result ≡ false →
      broken (text_source new) ≡ broken (text_source old)
  pub stopped : text_stopped new ≡ is_err result
  -- None only where the source has come to its end
  pub over : result ≡ Ok None → IsTextOver at_end new
  -- the source went on; it stays as it is past its end, after an error, and where the next line is
  -- held: whole, or more bytes of it than a line may have
  pub went : Went given coming at_end (text_source old) (text_source new)
  pub unpulled : at_end (text_source old) ≡ true → text_source new ≡ text_source old
  pub rests : text_stopped old ≡ true → text_source new ≡ text_source old
  pub ready : 0 < ready_lines (text_held old) → text_source new ≡ text_source old
