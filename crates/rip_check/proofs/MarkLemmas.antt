-- Marks of places, router by router.
use Rattle.std.proofs.Common.{◌≡◌, ◌≢◌, ℕ, ◌+◌, ◌*◌, ◌/◌, ◌%◌, ◌<◌, inl, inr, List, slice_set, get_or, length, refl, sym, ◌∙◌, ap, arith}
use Rattle.std.proofs.lemmas.Bool.{cases_lt}
use Rattle.std.proofs.lemmas.Nat.{div-mul-add, mod-mul-add}
use Rattle.std.proofs.lemmas.List.{get_or-set_other}
use Rattle.std.proofs.lemmas.Grind.{get_or-set_at}

-- two places with one index are one
pub same_place : (r p s q w : ℕ) → p < w → q < w → r * w + p ≡ s * w + q → (r ≡ s) × (p ≡ q)
same_place r p s q w lt lt' e = (
  sym (div-mul-add r w p lt) ∙ ap (λ x. x / w) e ∙ div-mul-add s w q lt',
  sym (mod-mul-add r w p lt) ∙ ap (λ x. x % w) e ∙ mod-mul-add s w q lt',
)

module _ {X : Type 0} (none : X) (xs : List X) (w p : ℕ) (lt : p < w) (Q : ℕ → X → Type 0) where
  -- one more router's mark
  pub one_more_mark : (i : ℕ) (v : X) → i * w + p < length xs → ((r : ℕ) → r < i → Q r (get_or xs (r * w + p) none)) → Q i v →
      (r : ℕ) → r < i + 1 → Q r (get_or (slice_set xs (i * w + p) v) (r * w + p) none)
  one_more_mark i v at before here r less =
      elim (cases_lt r i) [
        | inl sooner ↦
            let apart : r * w + p ≢ i * w + p = λ e. omega (arith, sooner, (same_place r p i p w lt lt e).0) in
            rw (get_or-set_other xs (i * w + p) (r * w + p) v none apart) (before r sooner)
        | inr late ↦
            let same : r ≡ i = omega arith in
            rw same (rw (get_or-set_at xs (i * w + p) (i * w + p) v none refl at) here)
      ]

-- no other prefix's mark changes
pub other_mark : {X : Type 0} (none : X) (xs : List X) (w p i : ℕ) (v : X) (r q : ℕ) → p < w → q < w → q ≢ p → get_or (slice_set xs (i * w + p) v) (r * w + q) none ≡ get_or xs (r * w + q) none
other_mark none xs w p i v r q lt lt' other = get_or-set_other xs (i * w + p) (r * w + q) v none (λ e. other (same_place r q i p w lt' lt e).1)
