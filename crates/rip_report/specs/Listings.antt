-- The texts of numbered things, one after the other.
use Rattle.std.specs.Prelude.{◌≡◌, ℕ, zero, suc, List, [], ◌++◌, length, slice_index}

-- the texts that the numbers below a bound have, in order
abbrev pub TextsBelow : (ℕ → List ℕ → Type 0) → ℕ → List ℕ → Type 0
TextsBelow IsText zero text = text ≡ []
TextsBelow IsText (suc k) text =
    (front part : List ℕ) × TextsBelow IsText k front × IsText k part × (text ≡ front ++ part)

-- the texts that the numbers of a list have, in order
abbrev pub TextsOf : (ℕ → List ℕ → Type 0) → List ℕ → List ℕ → Type 0
TextsOf IsText numbers = TextsBelow (λ k. IsText (slice_index numbers k)) (length numbers)

-- the texts that pairs of numbers below two bounds have, in order
abbrev pub TextsOfPairs : (ℕ → ℕ → List ℕ → Type 0) → ℕ → ℕ → List ℕ → Type 0
TextsOfPairs IsText rows columns = TextsBelow (λ r. TextsBelow (IsText r) columns) rows
