-- What `collect` answers and leaves.
use Rattle.std.specs.Prelude.{◌≡◌, ◌<◌, ℕ, ◌+◌, Bool, true, false, List, ◌∷◌, ◌++◌, Option, Some, None, is_ok, Result, Ok, Err, IfErr}
use Rattle.rip_plan.specs.Network.{Network}
use Rattle.rip_log.specs.Codes.{is_read}
use Rattle.rip_log.specs.Cuts.{DropsLines}
use Rattle.rip_log.specs.NextCall.{IsOver, has_stopped, lines_behind, log_to_come, source_of, text}
use Rattle.rip_log.specs.Lines.{Capture}
use Rattle.rip_log.specs.Logs.{Log, Numbered, IfElse}
use Rattle.rip_log.specs.Wholes.{OfWhole, Went}
use Rattle.rip_log.specs.declared.error.LogCode.TheVariants as codes
use Rattle.rip_log.specs.declared.reader.LogReader.{LogReader}
use Rattle.rip_table.specs.State.{Fits, State}
use Rattle.rip_table.specs.Joined.{MayAllocateFor, is_memory, joined_records, outcome}
use Rattle.rip_table.specs.LogJoin.{IsOutcome}
use Rattle.rip_table.specs.declared.error.CollectCause.{CollectCause}
use Rattle.rip_table.specs.declared.error.CollectCause.TheVariants.{Log as OfLog}
use Rattle.rip_table.specs.declared.error.CollectError.{CollectError}

-- some first records of a log were joined, and the others are left
pub record Passed (n : Network) (old : State) (log : Log) (new : State) (left : Log) : Type 0 where
  pub taken : List Numbered
  pub records : log.records ≡ taken ++ left.records
  pub fault : log.fault ≡ left.fault
  pub joined : joined_records n old taken ≡ Ok new

-- the same, of a log that is modelled
abbrev pub PassedKnown : Network → State → Option Log → State → Option Log → Type 0
PassedKnown n old None new left = Unit {0}
PassedKnown n old (Some log) new None = ⊥
PassedKnown n old (Some log) new (Some left) = Passed n old log new left

-- memory was refused at a record of this line, which brings a pair that the table lacks
pub record Stuck (n : Network) (old : State) (log : Log) (new : State) (left : Log)
    (line : ℕ) : Type 0 where
  pub capture : Capture
  pub before : Passed n old log new (record {
    records = (record { line = line; capture = capture }) ∷ left.records;
    fault = left.fault;
  })
  pub allocates : MayAllocateFor n new capture

abbrev pub StuckKnown : Network → State → Option Log → State → Option Log → ℕ → Type 0
StuckKnown n old None new left line = Unit {0}
StuckKnown n old (Some log) new None line = ⊥
StuckKnown n old (Some log) new (Some left) line = Stuck n old log new left line

-- the reader stands behind the record of this line: the records after it are left, and the fault
pub record StandsBehind (log : Log) (line : ℕ) (left : Log) : Type 0 where
  pub before : List Numbered
  pub capture : Capture
  pub records : log.records ≡ before ++ (record { line = line; capture = capture }) ∷ left.records
  pub fault : log.fault ≡ left.fault

-- the same, of a log that is modelled
abbrev pub StandsBehindKnown : Option Log → ℕ → Option Log → Type 0
StandsBehindKnown None line left = Unit {0}
StandsBehindKnown (Some log) line None = ⊥
StandsBehindKnown (Some log) line (Some left) = StandsBehind log line left

-- the whole log was joined, or what comes before its first refusal
abbrev pub OutcomeKnown : Network → State → Option Log → State → Option CollectError → Type 0
OutcomeKnown n old None new fault = Unit {0}
OutcomeKnown n old (Some log) new fault = outcome n old log ≡ record { state = new; fault = fault }

-- the source failed
abbrev pub is_read_cause : CollectCause → Bool
is_read_cause (OfLog e) = is_read e.code
is_read_cause other = false

abbrev pub failed_to_read : Result (Unit {0}) CollectError → Bool
failed_to_read (Ok u) = false
failed_to_read (Err e) = is_read_cause e.cause

-- the reader refused
abbrev pub is_log_cause : CollectCause → Bool
is_log_cause (OfLog e) = true
is_log_cause other = false

abbrev pub reader_refused : Result (Unit {0}) CollectError → Bool
reader_refused (Ok u) = false
reader_refused (Err e) = is_log_cause e.cause

-- an error of the reader is told at the line after those behind it, and every other at the last of
-- those
abbrev pub IsAtLine : ℕ → ℕ → CollectCause → Type 0
IsAtLine behind line (OfLog e) = (line ≡ behind + 1) × (e.line ≡ behind + 1)
IsAtLine behind line other = line ≡ behind

-- what was joined, of a log that is modelled
abbrev pub ToldOutcome : Network → State → Option Log → State → Option Log
    → Result (Unit {0}) CollectError → Type 0
ToldOutcome n old log new left (Ok u) = OutcomeKnown n old log new None
ToldOutcome n old log new left (Err e) =
    IfElse (is_memory e.cause) (StuckKnown n old log new left e.line)
    (IfElse (is_read_cause e.cause) (PassedKnown n old log new left)
    (OutcomeKnown n old log new (Some e)))

-- the same in the words of the subject, of a log that is modelled
abbrev pub SaidOutcome : Network → State → Log → State → Result (Unit {0}) CollectError → Type 0
SaidOutcome n old log new (Ok u) = IsOutcome n old log new None
SaidOutcome n old log new (Err e) =
    is_memory e.cause ≡ false → is_read_cause e.cause ≡ false → IsOutcome n old log new (Some e)

-- what is answered of a reader that had stopped
abbrev pub already_ended : {R : Type 0} → LogReader R → CollectError
already_ended before = record {
  line = lines_behind before + 1;
  cause = OfLog (record { code = codes.Ended; line = lines_behind before + 1 });
}

-- what was joined of the log, and what is answered of it
pub record JoinsLog {R : Type 0} (given : R → List ℕ) (at_end : R → Bool) (n : Network)
    (old new : State) (before after : LogReader R) (result : Result (Unit {0}) CollectError)
    : Type 0 where
  -- of whichever text the source has begun to give
  pub told : has_stopped before ≡ false → OfWhole given at_end (source_of after) (λ coming.
      ToldOutcome n old (log_to_come coming before) new (log_to_come coming after) result)
  pub said : has_stopped before ≡ false → OfWhole given at_end (source_of after) (λ coming.
      (log : Log) → log_to_come coming before ≡ Some log → SaidOutcome n old log new result)
  -- of a reader that had stopped there is nothing to join
  pub stopped : has_stopped before ≡ true
      → (new ≡ old) × (result ≡ Err (already_ended before))
  -- Memory only behind a further line, and only of a table to which some record would bring a pair;
  -- which record it is, `told` says
  pub allocates : IfErr result (λ e. is_memory e.cause ≡ true →
      (lines_behind before < lines_behind after) × ((c : Capture) × MayAllocateFor n new c))
  pub fits : Fits n new

-- where the reader stands then
pub record MovesReader {R : Type 0} (given : R → List ℕ) (coming : R → Option (List ℕ))
    (at_end : R → Bool) (before after : LogReader R) (result : Result (Unit {0}) CollectError)
    : Type 0 where
  pub went : Went given coming at_end (source_of before) (source_of after)
  pub refused : has_stopped before ≡ false → has_stopped after ≡ reader_refused result
  pub here : IfErr result (λ e. IsAtLine (lines_behind after) e.line e.cause)
  -- a record that is not joined is taken from the reader, and no other
  pub behind : has_stopped before ≡ false → IfErr result (λ e. is_log_cause e.cause ≡ false →
      OfWhole given at_end (source_of after) (λ coming.
      StandsBehindKnown (log_to_come coming before) e.line (log_to_come coming after)))
  -- no line behind the one of the error is taken from the reader
  pub drops : IfErr result (λ e. OfWhole given at_end (source_of after) (λ coming.
      DropsLines (text coming before) (lines_behind before) (text coming after) e.line))

-- the marks of the source then
pub record KeepsSource {R : Type 0} (broken at_end : R → Bool) (before after : LogReader R)
    (result : Result (Unit {0}) CollectError) : Type 0 where
  -- an Ok only where it has come to its end and nothing is held, Read only where it has failed
  pub over : is_ok result ≡ true → IsOver at_end after
  pub failed : failed_to_read result ≡ true → broken (source_of after) ≡ true
  pub marks : failed_to_read result ≡ false → broken (source_of after) ≡ broken (source_of before)

-- what `collect` answers and leaves
pub record Collects {R : Type 0} (given : R → List ℕ) (coming : R → Option (List ℕ))
    (broken at_end : R → Bool) (n : Network) (old new : State) (before after : LogReader R)
    (result : Result (Unit {0}) CollectError) : Type 0 where
  pub joined : JoinsLog given at_end n old new before after result
  pub reader : MovesReader given coming at_end before after result
  pub marks : KeepsSource broken at_end before after result
