-- The text that a run has been given.
use Rattle.std.specs.Prelude.{List, ℕ, Bool, ◌++◌}
use Rattle.rip_log.specs.Wholes.{Begins}

-- what a source has given between old and new begins this text, and is all of it where the source
-- has come to its end
abbrev pub IsGiven : {R : Type 0} → (R → List ℕ) → (R → Bool) → R → R → List ℕ → Type 0
IsGiven given at_end old new text = Begins (given old ++ text) (given new) (at_end new)
