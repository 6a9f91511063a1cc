-- What the first of several lines gives.
use Rattle.std.proofs.Common.{◌≡◌, ◌+◌, ◌≤◌, ◌<◌, ℕ, List, ◌∷◌, Option, Result, ap}
use Rattle.std.proofs.lemmas.Bool.{le-leb, lt-leb}
use Rattle.rip_log.specs.Lines.{Capture, judge}
use Rattle.rip_log.specs.Logs.{log_of, with_line, faulty_log}
use Rattle.rip_log.specs.declared.error.LogCode.{LogCode}
use Rattle.rip_log.specs.declared.error.LogCode.TheVariants.{TooManyLines}

pub first-line : (n : ℕ) (line : List ℕ) (rest : List (List ℕ)) (said : Result (Option Capture) LogCode) → n < 1000000 → judge line ≡ said
    → log_of n (line ∷ rest) ≡ with_line (n + 1) said (log_of (n + 1) rest)
first-line n line rest said few e = rw (lt-leb 1000000 n few) (ap (λ s. with_line (n + 1) s (log_of (n + 1) rest)) e)

pub too-many : (n : ℕ) (line : List ℕ) (rest : List (List ℕ)) → 1000000 ≤ n → log_of n (line ∷ rest) ≡ faulty_log (record { line = n + 1; code = TooManyLines })
too-many n line rest many = rw (le-leb 1000000 n many)
