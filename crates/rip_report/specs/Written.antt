-- What a run writes.
use Rattle.std.specs.Prelude.{ℕ, List, [], ◌∷◌, ◌++◌}
use Rattle.rip_report.specs.declared.status.Status.{Status}

-- a text, and the status that is answered with it
pub record Written : Type 0 where
  pub text : List ℕ
  pub status : Status

-- the line with this text
abbrev pub line : List ℕ → List ℕ
line text = text ++ 10 ∷ []
