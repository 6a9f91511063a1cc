-- Bytes of texts.
use Rattle.std.specs.Prelude.{◌≢◌, ℕ, List, All}

-- no byte of the text is c
abbrev pub Lacks : ℕ → List ℕ → Type 0
Lacks c text = All (λ b. b ≢ c) text
