-- First places, prefix by prefix.
use Rattle.std.proofs.Common.{◌≡◌, ℕ, ◌+◌, ◌<◌, ◌≤◌, inl, inr, Option, None, Some, refl, arith, length}
use Rattle.std.proofs.lemmas.Bool.{cases_lt}
use Rattle.rip_plan.specs.Network.{Network}
use Rattle.rip_check.specs.Firsts.{IsBefore, IsAfter, IsFirst, AreFine, IsFirstAt, IsFirstOf}

module _ (n : Network) (p : ℕ) (Fine : ℕ → ℕ → Type 0) where
  -- a column with nothing new above the first place
  first_on : (r q : ℕ) → IsFirst n p None Fine r q → ((s : ℕ) → s < r → Fine s p) → IsFirst n (p + 1) None Fine r q
  first_on r q a column =
      record { router = a.router; prefix = omega (arith, a.prefix); behind = tt; before = before; fails = a.fails }
    where
      before : (s k : ℕ) → k < p + 1 → IsAfter None s k → IsBefore s k r q → Fine s k
      before s k lt late sooner =
          elim (cases_lt k p) [
            | inl less ↦ a.before s k less tt sooner
            | inr big ↦
                let e : k ≡ p = omega arith in
                rw e (column s (above sooner big))
          ]
        where
          above : IsBefore s k r q → p ≤ k → s < r
          above (inl x) le = x
          above (inr x) le = absurd (omega (arith, x.1, le, a.prefix))

  -- a place of the column above all that failed so far
  new_first : (r : ℕ) → r < length n.routers → ((s k : ℕ) → k < p → s ≤ r → Fine s k) → ((s : ℕ) → s < r → Fine s p) → (Fine r p → ⊥) → IsFirst n (p + 1) None Fine r p
  new_first r known rows column fails =
      record { router = known; prefix = omega arith; behind = tt; before = before; fails = fails }
    where
      before : (s k : ℕ) → k < p + 1 → IsAfter None s k → IsBefore s k r p → Fine s k
      before s k lt late sooner =
          elim (cases_lt k p) [
            | inl less ↦ rows s k less (most sooner)
            | inr big ↦
                let e : k ≡ p = omega arith in
                rw e (column s (above sooner big))
          ]
        where
          most : IsBefore s k r p → s ≤ r
          most (inl x) = omega (arith, x)
          most (inr x) = omega (arith, x.0)

          above : IsBefore s k r p → p ≤ k → s < r
          above (inl x) le = x
          above (inr x) le = absurd (omega (arith, x.1, le))

  fine_on : AreFine n p None Fine → ((s : ℕ) → s < length n.routers → Fine s p) → AreFine n (p + 1) None Fine
  fine_on all column s k known lt late =
      elim (cases_lt k p) [
        | inl less ↦ all s k known less tt
        | inr big ↦
            let e : k ≡ p = omega arith in
            rw e (column s known)
      ]

-- of the numbers before k, the first below the bound that is not fine, if there is one
abbrev pub IsFirstSoFar : ℕ → ℕ → (ℕ → Type 0) → Option ℕ → Type 0
IsFirstSoFar bound k Fine None = (s : ℕ) → s < k → s < bound → Fine s
IsFirstSoFar bound k Fine (Some r) = IsFirstOf bound Fine (Some r)

module _ (bound k : ℕ) (Fine : ℕ → Type 0) where
  -- one more number that is fine, or after the first, or past the bound
  pub so_far_on : (first : Option ℕ) → IsFirstSoFar bound k Fine first → (first ≡ None → k < bound → Fine k) → IsFirstSoFar bound (k + 1) Fine first
  so_far_on (Some r) was here = was
  so_far_on None was here = λ s lt less. elim (cases_lt s k) [
    | inl sooner ↦ was s sooner less
    | inr late ↦
        let e : s ≡ k = omega arith in
        rw e (here refl (omega (arith, e, less)))
  ]

  -- one more number, the first that is not fine
  pub so_far_first : IsFirstSoFar bound k Fine None → k < bound → (Fine k → ⊥) → IsFirstSoFar bound (k + 1) Fine (Some k)
  so_far_first was less fails = (less, λ s lt. was s lt (omega (arith, lt, less)), fails)

  pub all_so_far : (first : Option ℕ) → bound ≤ k → IsFirstSoFar bound k Fine first → IsFirstOf bound Fine first
  all_so_far None past was = λ s less. was s (omega (arith, less, past)) less
  all_so_far (Some r) past was = was

-- the router of the first place, or the number of routers where there is none
abbrev pub IsRouterOf : Network → Option (ℕ × ℕ) → ℕ → Type 0
IsRouterOf n None r = r ≡ length n.routers
IsRouterOf n (Some a) r = r ≡ a.0

-- one more prefix, after which the first place is where it was, or at a router before
module _ (n : Network) (p : ℕ) (Fine : ℕ → ℕ → Type 0) where
  pub next_none : (first : Option (ℕ × ℕ)) (r : ℕ) → IsRouterOf n first r → IsFirstAt n p Fine first → IsFirstOf r (λ s. Fine s p) None → IsFirstAt n (p + 1) Fine first
  next_none None r e was column = fine_on n p Fine was (λ s known. column s (omega (arith, known, e)))
  next_none (Some a) r e was column = first_on n p Fine a.0 a.1 was (λ s less. column s (omega (arith, less, e)))

  pub next_some : (first : Option (ℕ × ℕ)) (r : ℕ) → IsRouterOf n first r → IsFirstAt n p Fine first → (s : ℕ) → IsFirstOf r (λ t. Fine t p) (Some s) → IsFirstAt n (p + 1) Fine (Some (s, p))
  next_some None r e was s column = new_first n p Fine s (omega (arith, column.0, e)) (λ t k lt le. was t k (omega (arith, le, column.0, e)) lt tt) column.1 column.2
  next_some (Some a) r e was s column =
      new_first n p Fine s (omega (arith, column.0, e, was.router)) (λ t k lt le. was.before t k lt tt (inl (omega (arith, le, column.0, e)))) column.1 column.2
