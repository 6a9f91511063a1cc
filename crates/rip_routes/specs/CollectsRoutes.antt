-- What `collect_routes` answers and leaves.
use Rattle.std.specs.Prelude.{◌≡◌, ◌⊎◌, ℕ, ◌+◌, Bool, true, false, List, ◌∷◌, ◌++◌, length, Option, Some, None, Result, Ok, Err, IfErr, IfOk, is_ok}
use Rattle.std.specs.Io.BufRead.{strip_last}
use Rattle.rip_plan.specs.Network.{Network}
use Rattle.rip_log.specs.Cuts.{DropsLines}
use Rattle.rip_log.specs.Lines.{lines_of}
use Rattle.rip_log.specs.Logs.{IfElse}
use Rattle.rip_log.specs.TextCall.{IsTextOver, text_source, text_to_come}
use Rattle.rip_log.specs.Wholes.{OfWhole, Went}
use Rattle.rip_log.specs.declared.error.LogCode.{LogCode}
use Rattle.rip_log.specs.declared.error.LogCode.TheVariants as codes
use Rattle.rip_log.specs.declared.text.TextReader.{TextReader}
use Rattle.rip_routes.specs.OwnTables.{FitsOwn, OwnTables}
use Rattle.rip_routes.specs.RouteLines.{told_by_bare}
use Rattle.rip_routes.specs.Takes.{WantsMemory, is_memory, is_read}
use Rattle.rip_routes.specs.Telling.{new_tables, tell_lines, tell_said, tell_text}
use Rattle.rip_routes.specs.declared.error.RoutesCause.{RoutesCause}
use Rattle.rip_routes.specs.declared.error.RoutesCause.TheVariants as causes
use Rattle.rip_routes.specs.declared.error.RoutesError.{RoutesError}
use Rattle.rip_routes.specs.declared.told.Told.{Told}

-- the cause of a reader's error
abbrev pub cause_of : LogCode → RoutesCause
cause_of codes.LongLine = causes.LongLine
cause_of codes.TooManyLines = causes.TooManyLines
cause_of other = causes.Read

-- a line that is not refused may want memory
abbrev pub WantsAt : Network → OwnTables → List ℕ → Type 0
WantsAt n t bare = (told : Told) × (told_by_bare n bare ≡ Ok (Some told)) × WantsMemory t told

-- what telling one line answers and leaves
abbrev pub TellsLine : Network → OwnTables → List ℕ → OwnTables → Result (Unit {0}) RoutesCause
    → Type 0
TellsLine n old bare new (Ok u) = tell_said old (told_by_bare n bare) ≡ Ok new
TellsLine n old bare new (Err cause) =
    IfElse (is_memory cause) (WantsAt n old bare) (tell_said old (told_by_bare n bare) ≡ Err cause)

-- k lines were taken off a text, of which this is left, and tell these tables
pub record Passed (n : Network) (text left : List ℕ) (k : ℕ) (t : OwnTables) : Type 0 where
  pub front : List ℕ
  pub split : text ≡ front ++ left
  pub taken : List (List ℕ)
  pub lines : lines_of text ≡ taken ++ lines_of left
  pub count : k ≡ length taken
  pub told : tell_lines n 0 taken (new_tables n) ≡ Ok t

abbrev pub PassedKnown : Network → Option (List ℕ) → Option (List ℕ) → ℕ → OwnTables → Type 0
PassedKnown n None left k t = Unit {0}
PassedKnown n (Some text) None k t = ⊥
PassedKnown n (Some text) (Some left) k t = Passed n text left k t

-- memory was refused at this line, which tells something new; or before the first line
pub record Stuck (n : Network) (text : List ℕ) (line : ℕ) : Type 0 where
  pub before : List (List ℕ)
  pub here : List ℕ
  pub after : List (List ℕ)
  pub lines : lines_of text ≡ before ++ here ∷ after
  pub number : line ≡ length before + 1
  pub tables : OwnTables
  pub told : tell_lines n 0 before (new_tables n) ≡ Ok tables
  pub wants : WantsAt n tables (strip_last 13 here)

abbrev pub StuckKnown : Network → Option (List ℕ) → ℕ → Type 0
StuckKnown n None line = Unit {0}
StuckKnown n (Some text) line = (line ≡ 0) ⊎ Stuck n text line

-- the source failed while this line was read; those before it are not refused
abbrev pub UnreadKnown : Network → Option (List ℕ) → Option (List ℕ) → ℕ → Type 0
UnreadKnown n text left line =
    (k : ℕ) × (t : OwnTables) × PassedKnown n text left k t × (line ≡ k + 1)

abbrev pub OutcomeKnown : Network → Option (List ℕ) → Result OwnTables RoutesError → Type 0
OutcomeKnown n None outcome = Unit {0}
OutcomeKnown n (Some text) outcome = tell_text n text ≡ outcome

-- what was told of a text, its tables seen by view: all of it, or its first fault
abbrev pub ToldOutcome : {G : Type 0} → (G → OwnTables) → Network → Option (List ℕ)
    → Option (List ℕ) → Result G RoutesError → Type 0
ToldOutcome view n text left (Ok g) = OutcomeKnown n text (Ok (view g))
ToldOutcome view n text left (Err e) =
    IfElse (is_memory e.cause) (StuckKnown n text e.line)
    (IfElse (is_read e.cause) (UnreadKnown n text left e.line) (OutcomeKnown n text (Err e)))

abbrev pub failed_to_read : {G : Type 0} → Result G RoutesError → Bool
failed_to_read (Ok g) = false
failed_to_read (Err e) = is_read e.cause

-- what `collect_routes` answers of the text to come of a reader at its front, and leaves
pub record CollectsRoutes {R G : Type 0} (given : R → List ℕ) (coming : R → Option (List ℕ))
    (broken at_end : R → Bool) (view : G → OwnTables) (n : Network) (before after : TextReader R)
    (result : Result G RoutesError) : Type 0 where
  -- of whichever text the source has begun to give
  pub told : OfWhole given at_end (text_source after) (λ coming.
      ToldOutcome view n (text_to_come coming before) (text_to_come coming after) result)
  pub fits : IfOk result (λ g. FitsOwn n (view g))
  -- no line behind the one of the error is taken from the reader
  pub drops : IfErr result (λ e. OfWhole given at_end (text_source after) (λ coming.
      DropsLines (text_to_come coming before) 0 (text_to_come coming after) e.line))
  pub went : Went given coming at_end (text_source before) (text_source after)
  -- an Ok only where it has come to its end and nothing is held, Read only where it has failed
  pub over : is_ok result ≡ true → IsTextOver at_end after
  pub failed : failed_to_read result ≡ true → broken (text_source after) ≡ true
  pub marks : failed_to_read result ≡ false →
      broken (text_source after) ≡ broken (text_source before)
