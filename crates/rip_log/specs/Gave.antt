-- What a pull adds to the bytes that a source has given.
use Rattle.std.specs.Prelude.{◌≡◌, ℕ, List, ◌++◌, take, Result, MatchResult}

-- the bytes that came into the buffer follow those before, and where it fails there are none
abbrev pub Gave : {E : Type 0} → List ℕ → List ℕ → Result ℕ E → List ℕ → Type 0
Gave old new r buffer = MatchResult r (λ n. new ≡ old ++ take n buffer) (λ _. new ≡ old)
