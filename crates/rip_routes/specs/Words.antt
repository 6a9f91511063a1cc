-- The fields of a line that count.
use Rattle.std.specs.Prelude.{◌≡◌, ℕ, ◌<◌, ◌⊎◌, List, [], ◌∷◌, length}
use Rattle.rip_routes.specs.declared.words.Words.{Words}
use Rattle.rip_routes.specs.declared.words.Words.TheVariants as words

-- these are the fields
abbrev pub AreWords : List (List ℕ) → Words → Type 0
AreWords fields words.None = fields ≡ []
AreWords fields (words.Others first) =
    (rest : List (List ℕ)) × (fields ≡ first.now ∷ rest)
    × ((length fields < 3) ⊎ (5 < length fields))
AreWords fields (words.Three a b c) = fields ≡ a.now ∷ b.now ∷ c.now ∷ []
AreWords fields (words.Four a b c d) = fields ≡ a.now ∷ b.now ∷ c.now ∷ d.now ∷ []
AreWords fields (words.Five a b c d e) =
    fields ≡ a.now ∷ b.now ∷ c.now ∷ d.now ∷ e.now ∷ []
