-- What a failure costs, counted router by router and prefix by prefix.
use Rattle.std.proofs.Common.{◌≡◌, ℕ, zero, suc, ◌+◌, ◌<◌, ◌≤◌, ◌⊎◌, inl, inr, true, Some, Decides, nat_lt, length, max, ◌∙◌, arith}
use Rattle.std.proofs.lemmas.Bool.{cases_lt, lt-ltb}
use Rattle.rip_plan.specs.Network.{Network}
use Rattle.rip_check.specs.declared.failures.Failure.{Failure}
use Rattle.rip_check.specs.Expected.{IsCount, IsTotal}
use Rattle.rip_check.specs.Failures.{left_to}
use Rattle.rip_check.specs.Impacts.{AreLostBy, IsHardestHit}
use Rattle.rip_check.specs.Losses.{IsLonger, IsLost, Loses}
use Rattle.rip_check.proofs.OverLemmas.{one_least}

-- ---- counts and sums that are above 0

pub count_some : (IsKind : ℕ → Type 0) (k count : ℕ) → IsCount IsKind k count → 0 < count → (p : ℕ) × (p < k) × IsKind p
count_some IsKind zero count is some = absurd (omega (arith, is, some))
count_some IsKind (suc k) count (inl h) some = let rest = count_some IsKind k count h.1 some in (rest.0, omega (arith, rest.1), rest.2)
count_some IsKind (suc k) count (inr h) some = (k, omega arith, h.1)

pub some_count : (IsKind : ℕ → Type 0) (k count p : ℕ) → IsCount IsKind k count → p < k → IsKind p → 0 < count
some_count IsKind zero count p is lt kind = absurd (omega (arith, lt))
some_count IsKind (suc k) count p (inr h) lt kind = omega (arith, h.3)
some_count IsKind (suc k) count p (inl h) lt kind =
    elim (cases_lt p k) [
      | inl sooner ↦ some_count IsKind k count p h.1 sooner kind
      | inr late ↦
          let here : p ≡ k = omega arith in
          absurd (h.0 (rw here at kind))
    ]

pub total_some : (IsPart : ℕ → ℕ → Type 0) (k total : ℕ) → IsTotal IsPart k total → 0 < total → (r part : ℕ) × (r < k) × IsPart r part × (0 < part)
total_some IsPart zero total is some = absurd (omega (arith, is, some))
total_some IsPart (suc k) total h some =
    elim (cases_lt 0 h.1) [
      | inl here ↦ (k, h.1, omega arith, h.3, here)
      | inr none ↦
          let rest = total_some IsPart k h.0 h.2 (omega (arith, h.4, some, none)) in
          (rest.0, rest.1, omega (arith, rest.2), rest.3, rest.4)
    ]

pub some_total : (IsPart : ℕ → ℕ → Type 0) (k total r : ℕ) → IsTotal IsPart k total → r < k → ((part : ℕ) → IsPart r part → 0 < part) → 0 < total
some_total IsPart zero total r is lt some = absurd (omega (arith, lt))
some_total IsPart (suc k) total r h lt some =
    elim (cases_lt r k) [
      | inl sooner ↦ omega (arith, some_total IsPart k h.0 r h.2 sooner some, h.4)
      | inr late ↦
          let here : r ≡ k = omega arith in
          let at : IsPart r h.1 = rw here h.3 in
          omega (arith, some h.1 at, h.4)
    ]

pub count_most : (IsKind : ℕ → Type 0) (k count : ℕ) → IsCount IsKind k count → count ≤ k
count_most IsKind zero count is = omega (arith, is)
count_most IsKind (suc k) count (inl h) = omega (arith, count_most IsKind k count h.1)
count_most IsKind (suc k) count (inr h) = omega (arith, count_most IsKind k h.0 h.2, h.3)

module _ (n : Network) (f : Failure) where
  -- one metric is after the failure
  pub one_after : (r p v w : ℕ) → IsLonger n f r p v → IsLonger n f r p w → v ≡ w
  one_after r p v w a b = one_least (left_to n (Some f) p) p r v w a.moved.after b.moved.after

  pub lost_not_longer : (r p w : ℕ) → IsLost n f r p → IsLonger n f r p w → ⊥
  lost_not_longer r p w lost longer = omega (arith, one_least (left_to n (Some f) p) p r 16 w lost.moved.after longer.moved.after, longer.small)

  pub losing : (total : ℕ) → IsTotal (AreLostBy n f) (length n.routers) total → Decides (nat_lt 0 total) (Loses n f)
  losing total is = (
    λ t.
        let some = total_some (AreLostBy n f) (length n.routers) total is (above total t) in
        let one = count_some (IsLost n f some.0) (length n.prefixes) some.1 some.3 some.4 in
        (some.0, one.0, some.2, one.1, one.2),
    λ h. lt-ltb 0 total (some_total (AreLostBy n f) (length n.routers) total h.0 is h.2
        (λ part of. some_count (IsLost n f h.0) (length n.prefixes) part h.1 of h.3 h.4)),
  )
    where
      above : (total : ℕ) → nat_lt 0 total ≡ true → 0 < total
      above zero t = cc t
      above (suc k) t = omega arith

  -- the farthest of the longer ways of router r to the prefixes below k
  pub record IsFarthestBefore (r k m : ℕ) : Type 0 where
    pub reached : (m ≡ 0) ⊎ ((p : ℕ) × (p < k) × IsLonger n f r p m)
    pub most : (p w : ℕ) → p < k → IsLonger n f r p w → w ≤ m

  pub none_farther : (r k m : ℕ) → ((w : ℕ) → IsLonger n f r k w → ⊥) → IsFarthestBefore r k m → IsFarthestBefore r (k + 1) m
  none_farther r k m none was = record {
    reached = elim was.reached [
      | inl e ↦ inl e
      | inr h ↦ inr (h.0, omega (arith, h.1), h.2)
    ];
    most = λ p w lt longer. elim (cases_lt p k) [
      | inl sooner ↦ was.most p w sooner longer
      | inr late ↦
          let here : p ≡ k = omega arith in
          absurd (none w (rw here at longer))
    ];
  }

  pub farther : (r k m w v : ℕ) → IsLonger n f r k w → v ≡ max m w → IsFarthestBefore r k m → IsFarthestBefore r (k + 1) v
  farther r k m w v longer is was = record {
    reached = elim (cases_lt w m) [
      | inl less ↦ go (omega (arith, is, less)) was.reached
      | inr more ↦
          let e : v ≡ w = omega (arith, is, more) in
          inr (k, omega arith, rw e longer)
    ];
    most = λ p u lt other. elim (cases_lt p k) [
      | inl sooner ↦ omega (arith, was.most p u sooner other, is)
      | inr late ↦
          let here : p ≡ k = omega arith in
          let same = one_after r k u w (rw here at other) longer in
          omega (arith, same, is)
    ];
  }
    where
      go : v ≡ m → (m ≡ 0) ⊎ ((p : ℕ) × (p < k) × IsLonger n f r p m) → (v ≡ 0) ⊎ ((p : ℕ) × (p < k + 1) × IsLonger n f r p v)
      go e (inl none) = inl (e ∙ none)
      go e (inr h) = inr (h.0, omega (arith, h.1), rw e h.2)

  -- the farthest of the longer ways of the routers below k
  pub record IsFarthestBelow (k m : ℕ) : Type 0 where
    pub reached : (m ≡ 0) ⊎ ((r p : ℕ) × (r < k) × (p < length n.prefixes) × IsLonger n f r p m)
    pub most : (r p w : ℕ) → r < k → p < length n.prefixes → IsLonger n f r p w → w ≤ m

  pub farther_router : (k m w v : ℕ) → (w ≡ 0) ⊎ ((p : ℕ) × (p < length n.prefixes) × IsLonger n f k p w) → ((p u : ℕ) → p < length n.prefixes → IsLonger n f k p u → u ≤ w) → v ≡ max m w →
      IsFarthestBelow k m → IsFarthestBelow (k + 1) v
  farther_router k m w v reached most is was = record {
    reached = elim (cases_lt w m) [
      | inl less ↦ old (omega (arith, is, less)) was.reached
      | inr more ↦ new (omega (arith, is, more)) reached
    ];
    most = λ r p u lt at longer. elim (cases_lt r k) [
      | inl sooner ↦ omega (arith, was.most r p u sooner at longer, is)
      | inr late ↦
          let here : r ≡ k = omega arith in
          omega (arith, most p u at (rw here at longer), is)
    ];
  }
    where
      old : v ≡ m → (m ≡ 0) ⊎ ((r p : ℕ) × (r < k) × (p < length n.prefixes) × IsLonger n f r p m) → (v ≡ 0) ⊎ ((r p : ℕ) × (r < k + 1) × (p < length n.prefixes) × IsLonger n f r p v)
      old e (inl none) = inl (e ∙ none)
      old e (inr h) = inr (h.0, h.1, omega (arith, h.2), h.3, rw e h.4)

      new : v ≡ w → (w ≡ 0) ⊎ ((p : ℕ) × (p < length n.prefixes) × IsLonger n f k p w) → (v ≡ 0) ⊎ ((r p : ℕ) × (r < k + 1) × (p < length n.prefixes) × IsLonger n f r p v)
      new e (inl none) = inl (e ∙ none)
      new e (inr h) = inr (k, h.0, omega arith, h.1, rw e h.2)

  -- the first router below k that loses most; before the first router 0 loses nothing
  pub record IsHardestBelow (k r count : ℕ) : Type 0 where
    pub lost : ((count ≡ 0) × (r ≡ 0)) ⊎ ((r < k) × AreLostBy n f r count)
    pub most : (s : ℕ) → s < k → (j : ℕ) × AreLostBy n f s j × (j ≤ count)
    pub first : (s : ℕ) → s < r → (j : ℕ) × AreLostBy n f s j × (j < count)

  pub no_harder : (k r count part : ℕ) → AreLostBy n f k part → part ≤ count → IsHardestBelow k r count → IsHardestBelow (k + 1) r count
  no_harder k r count part is less was = record {
    lost = elim was.lost [
      | inl h ↦ inl h
      | inr h ↦ inr (omega (arith, h.0), h.1)
    ];
    most = λ s lt. elim (cases_lt s k) [
      | inl sooner ↦ was.most s sooner
      | inr late ↦
          let here : s ≡ k = omega arith in
          rw here (part, is, less)
    ];
    first = was.first;
  }

  pub harder : (k r count part : ℕ) → AreLostBy n f k part → count < part → IsHardestBelow k r count → IsHardestBelow (k + 1) k part
  harder k r count part is more was = record {
    lost = inr (omega arith, is);
    most = λ s lt. elim (cases_lt s k) [
      | inl sooner ↦ let h = was.most s sooner in (h.0, h.1, omega (arith, h.2, more))
      | inr late ↦
          let here : s ≡ k = omega arith in
          rw here (part, is, omega arith)
    ];
    first = λ s lt. let h = was.most s lt in (h.0, h.1, omega (arith, h.2, more));
  }

  pub hardest : (r count : ℕ) → 0 < length n.routers → IsHardestBelow (length n.routers) r count → IsHardestHit n f r count
  hardest r count some was = record {
    known = elim was.lost [
      | inl h ↦ omega (arith, h.1, some)
      | inr h ↦ h.0
    ];
    lost = elim was.lost [
      | inl h ↦
          let none = was.most 0 some in
          let same : none.0 ≡ count = omega (arith, none.2, h.0) in
          rw h.1 (rw same at none.1)
      | inr h ↦ h.1
    ];
    most = was.most;
    first = was.first;
  }
