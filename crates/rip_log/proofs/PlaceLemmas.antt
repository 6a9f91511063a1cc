-- The first of the places that an iterator goes over.
use Rattle.std.proofs.Common.{◌≡◌, ◌∙◌, ◌+◌, ◌<◌, ◌≤◌, ℕ, zero, suc, Bool, true, false, cond, List, [], ◌∷◌, length, refl, sym, ap, arith, inl, inr, slice_index, ◌-◌, Option, Some, None, MatchOption}
use Rattle.std.proofs.lemmas.Bool.{cases_lt, false≢true}
use Rattle.memchr.specs.Find.{IsFirstByte, Nowhere, NoneBefore, Passes, places, places_from}

apart : (test : ℕ → Bool) (hay : List ℕ) (i j k : ℕ) → test (slice_index hay i) ≡ false → Nowhere (Passes test hay) (i + 1) j → i ≤ k → k < j → Passes test hay k → ⊥
apart test hay i j k fails later low high passes =
    elim (cases_lt i k) [
      | inl h ↦ later k (omega arith) high passes
      | inr h ↦ false≢true (sym fails ∙ ap (λ m. test (slice_index hay m)) {x = i} {y = k} (omega arith) ∙ passes)
    ]

-- where there is no place, no byte passes
pub places-none : (test : ℕ → Bool) (hay : List ℕ) (n i j : ℕ) → i + n ≡ j → places_from test hay i n ≡ [] → Nowhere (Passes test hay) i j
unfolding places_from
places-none test hay zero i j end none = λ k low high passes. omega (arith, end, low, high)
places-none test hay (suc n) i j end none = by (test (slice_index hay i)) refl (places-none test hay n (i + 1) j (omega (arith, end))) none
  where
    by : (b : Bool) → test (slice_index hay i) ≡ b → (places_from test hay (i + 1) n ≡ [] → Nowhere (Passes test hay) (i + 1) j)
        → cond b (i ∷ places_from test hay (i + 1) n) (places_from test hay (i + 1) n) ≡ [] → Nowhere (Passes test hay) i j
    by true t later h = absurd (cc h)
    by false t later h = λ k low high passes. apart test hay i j k t (later h) low high passes

-- the first place is that of the first byte that passes
pub places-first : (test : ℕ → Bool) (hay : List ℕ) (n i j p : ℕ) (ps : List ℕ) → i + n ≡ j → places_from test hay i n ≡ p ∷ ps → NoneBefore (Passes test hay) i j p × Passes test hay p
unfolding places_from
places-first test hay zero i j p ps end some = absurd (cc some)
places-first test hay (suc n) i j p ps end some = by (test (slice_index hay i)) refl (places-first test hay n (i + 1) j p ps (omega (arith, end))) some
  where
    by : (b : Bool) → test (slice_index hay i) ≡ b → (places_from test hay (i + 1) n ≡ p ∷ ps → NoneBefore (Passes test hay) (i + 1) j p × Passes test hay p)
        → cond b (i ∷ places_from test hay (i + 1) n) (places_from test hay (i + 1) n) ≡ p ∷ ps → NoneBefore (Passes test hay) i j p × Passes test hay p
    by true t later h =
        let here : i ≡ p = cc h in (
          record { low = omega (arith, here); high = omega (arith, here, end); before = λ k low high passes. omega (arith, here, low, high) },
          ap (λ m. test (slice_index hay m)) (sym here) ∙ t,
        )
    by false t later h =
        let found = later h in (
          record { low = omega (arith, found.0.low); high = found.0.high; before = λ k low high passes. apart test hay i p k t found.0.before low high passes },
          found.1,
        )

-- what the iterator answers first
pub first-of : (test : ℕ → Bool) (hay all rest : List ℕ) (r : Option ℕ) → all ≡ places test hay → MatchOption r ((all ≡ []) × (rest ≡ [])) (λ k. all ≡ k ∷ rest) → IsFirstByte test hay r
first-of test hay all rest None is steps = places-none test hay (length hay - 0) 0 (length hay) (omega arith) (sym is ∙ steps.0)
first-of test hay all rest (Some k) is steps = places-first test hay (length hay - 0) 0 (length hay) k rest (omega arith) (sym is ∙ steps)
