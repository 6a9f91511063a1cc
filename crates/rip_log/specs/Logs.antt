-- What a text has for its readers: records, and then the end or a fault.
use Rattle.std.specs.Prelude.{◌≡◌, ℕ, ◌+◌, nat_le, if◌then◌else◌, Bool, true, false, List, [], ◌∷◌, Option, Some, None, Result, Ok, Err}
use Rattle.std.specs.Option.{option_map}
use Rattle.rip_log.specs.Codes.{is_read}
use Rattle.rip_log.specs.Lines.{Capture, lines_of, judge}
use Rattle.rip_log.specs.declared.error.LogCode.{LogCode}
use Rattle.rip_log.specs.declared.error.LogCode.TheVariants.{TooManyLines}
use Rattle.rip_log.specs.declared.error.LogError.{LogError}
use Rattle.rip_log.specs.declared.limits.TheConstants.{MOST_LINES}

-- a capture with the number of its line
pub record Numbered : Type 0 where
  pub line : ℕ
  pub capture : Capture

-- the records up to the first fault, and that fault
pub record Log : Type 0 where
  pub records : List Numbered
  pub fault : Option LogError

abbrev pub ended_log : Log
ended_log = record { records = []; fault = None }

abbrev pub faulty_log : LogError → Log
faulty_log e = record { records = []; fault = Some e }

abbrev pub onto_log : Numbered → Log → Log
onto_log r log = record { records = r ∷ log.records; fault = log.fault }

-- what line n says, and then these
abbrev pub with_line : ℕ → Result (Option Capture) LogCode → Log → Log
with_line n (Ok None) later = later
with_line n (Ok (Some capture)) later = onto_log (record { line = n; capture = capture }) later
with_line n (Err code) later = faulty_log (record { line = n; code = code })

-- what the lines after n others have
abbrev pub log_of : ℕ → List (List ℕ) → Log
log_of n [] = ended_log
log_of n (line ∷ rest) =
    if nat_le MOST_LINES n then faulty_log (record { line = n + 1; code = TooManyLines })
    else with_line (n + 1) (judge line) (log_of (n + 1) rest)

-- what the lines of a text after n others have, where the text is modelled
abbrev pub log_at : ℕ → Option (List ℕ) → Option Log
log_at n t = option_map (λ t. log_of n (lines_of t)) t

-- what a whole text has, where it is modelled
abbrev pub log_in : Option (List ℕ) → Option Log
log_in t = log_at 0 t

-- p where b holds, else q
abbrev pub IfElse : Bool → Type 0 → Type 0 → Type 0
IfElse true p q = p
IfElse false p q = q

-- what a call takes off a log, where it is modelled: its first record, or its end or fault, or
-- nothing where the source failed
abbrev pub Gives : {X : Type 0} → (X → Capture) → (X → ℕ) → Option Log → Option Log →
    Result (Option X) LogError → Type 0
Gives view number None new result = Unit {0}
Gives view number (Some log) new (Ok None) = (log ≡ ended_log) × (new ≡ Some ended_log)
Gives view number (Some log) new (Ok (Some x)) =
    (rest : Log) × (new ≡ Some rest)
    × (log ≡ onto_log (record { line = number x; capture = view x }) rest)
Gives view number (Some log) new (Err e) =
    IfElse (is_read e.code) (new ≡ Some log) (log ≡ faulty_log e)
