-- First places.
use Rattle.std.proofs.Common.{◌≡◌, ℕ, ◌+◌, ◌<◌, ◌≤◌, ◌⊎◌, inl, inr, Option, None, Some, refl, sym, arith, length}
use Rattle.std.proofs.lemmas.Bool.{cases_lt}
use Rattle.rip_plan.specs.Network.{Network}
use Rattle.rip_check.specs.Firsts.{IsBefore, IsAfter, IsFirst, AreFine}

pub before_cases : (s q r p : ℕ) → (IsBefore s q r p ⊎ IsBefore r p s q) ⊎ ((s ≡ r) × (q ≡ p))
before_cases s q r p =
    elim (cases_lt s r) [
      | inl a ↦ inl (inl (inl a))
      | inr b ↦ elim (cases_lt r s) [
        | inl c ↦ inl (inr (inl c))
        | inr d ↦
            let e : s ≡ r = omega arith in
            elim (cases_lt q p) [
              | inl x ↦ inl (inl (inr (e, x)))
              | inr y ↦ elim (cases_lt p q) [
                | inl z ↦ inl (inr (inr (sym e, z)))
                | inr w ↦ inr (e, omega arith)
              ]
            ]
      ]
    ]

module _ (n : Network) (count : ℕ) (after : Option (ℕ × ℕ)) (Fine : ℕ → ℕ → Type 0) where
  -- only one place is the first
  pub one_first : (r p s q : ℕ) → IsFirst n count after Fine r p → IsFirst n count after Fine s q → (r ≡ s) × (p ≡ q)
  one_first r p s q a b =
      elim (before_cases r p s q) [
        | inl (inl x) ↦ absurd (a.fails (b.before r p a.prefix a.behind x))
        | inl (inr y) ↦ absurd (b.fails (a.before s q b.prefix b.behind y))
        | inr e ↦ e
      ]

  -- where all places are fine none is the first that is not
  pub none_first : (r p : ℕ) → IsFirst n count after Fine r p → AreFine n count after Fine → ⊥
  none_first r p a all = a.fails (all r p a.router a.prefix a.behind)

  -- a row's first place, where the rows before are fine
  pub row_first : (r p from : ℕ) → ((s q : ℕ) → s < r → q < count → IsAfter after s q → Fine s q) →
      ((q : ℕ) → IsAfter after r q → from ≤ q) → ((q : ℕ) → from ≤ q → IsAfter after r q) →
      ((q : ℕ) → from ≤ q → q < p → Fine r q) → r < length n.routers → from ≤ p → p < count → (Fine r p → ⊥) → IsFirst n count after Fine r p
  row_first r p from rows front back row router on prefix fails =
      record {
        router = router;
        prefix = prefix;
        behind = back p on;
        before = before;
        fails = fails;
      }
    where
      before : (s q : ℕ) → q < count → IsAfter after s q → IsBefore s q r p → Fine s q
      before s q known late (inl less) = rows s q less known late
      before s q known late (inr h) =
          let late' : IsAfter after r q = rw h.0 at late in
          rw h.0 (row q (front q late') h.1)

  -- one more row
  pub rows_on : (i from : ℕ) → ((s q : ℕ) → s < i → q < count → IsAfter after s q → Fine s q) →
      ((q : ℕ) → IsAfter after i q → from ≤ q) → ((q : ℕ) → from ≤ q → q < count → Fine i q) →
      (s q : ℕ) → s < i + 1 → q < count → IsAfter after s q → Fine s q
  rows_on i from rows front row s q lt known late =
      elim (cases_lt s i) [
        | inl less ↦ rows s q less known late
        | inr big ↦
            let e : s ≡ i = omega arith in
            let late' : IsAfter after i q = rw e at late in
            rw e (row q (front q late') known)
      ]

-- where the places after the given one begin
abbrev pub StartsAt : Option (ℕ × ℕ) → ℕ → ℕ → Type 0
StartsAt None row from = (row ≡ 0) × (from ≡ 0)
StartsAt (Some a) row from = (row ≡ a.0) × (from ≡ a.1 + 1)

pub starts_none : (after : Option (ℕ × ℕ)) (row : ℕ × ℕ) → after ≡ None → row ≡ (0, 0) → StartsAt after row.0 row.1
starts_none after row e f = rw e (rw f (refl, refl))

pub starts_some : (after : Option (ℕ × ℕ)) (row : ℕ × ℕ) (r p : ℕ) → after ≡ Some (r, p) → row ≡ (r, p + 1) → StartsAt after row.0 row.1
starts_some after row r p e f = rw e (rw f (refl, refl))

pub none_sooner : (after : Option (ℕ × ℕ)) (row from s q : ℕ) → StartsAt after row from → s < row → IsAfter after s q → ⊥
none_sooner None row from s q start less late = omega (arith, start.0, less)
none_sooner (Some a) row from s q start less (inl late) = omega (arith, start.0, less, late)
none_sooner (Some a) row from s q start less (inr late) = omega (arith, start.0, less, late.0)

pub in_front : (after : Option (ℕ × ℕ)) (row from q : ℕ) → StartsAt after row from → IsAfter after row q → from ≤ q
in_front None row from q start late = omega (arith, start.1)
in_front (Some a) row from q start (inl late) = absurd (omega (arith, start.0, late))
in_front (Some a) row from q start (inr late) = omega (arith, start.1, late.1)

pub at_back : (after : Option (ℕ × ℕ)) (row from q : ℕ) → StartsAt after row from → from ≤ q → IsAfter after row q
at_back None row from q start on = tt
at_back (Some a) row from q start on = inr (sym start.0, omega (arith, start.1, on))

pub all_later : (after : Option (ℕ × ℕ)) (row from s q : ℕ) → StartsAt after row from → row < s → IsAfter after s q
all_later None row from s q start less = tt
all_later (Some a) row from s q start less = inl (omega (arith, start.0, less))
