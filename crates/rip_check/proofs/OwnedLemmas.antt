-- Loops over the interfaces of one router.
use Rattle.std.proofs.Common.{◌≡◌, ℕ, zero, suc, ◌+◌, ◌<◌, ◌≤◌, ◌↔◌, inl, inr, List, get_or, length, sym, ◌∙◌, ap, arith}
use Rattle.std.specs.List.{Contains}
use Rattle.std.specs.List.Sorted.{IsStrictlyIncreasing}
use Rattle.std.proofs.lemmas.Bool.{cases_lt}
use Rattle.std.proofs.lemmas.List.{get_or_default}
use Rattle.std.proofs.lemmas.List.Elements.{Contains-get_or}
use Rattle.std.proofs.lemmas.Option.{same_Some, slice_get_within}
use Rattle.rip_plan.specs.declared.parts.Interface.{Interface}
use Rattle.rip_plan.specs.Network.{Network}
use Rattle.rip_plan.specs.Relations.{IsInterface, IsLeaf}

-- an interface is one router's, on one link, at one cost
pub its_link : (n : Network) (i r l c s k d : ℕ) → IsInterface n i r l c → IsInterface n i s k d → (r ≡ s) × (l ≡ k) × (c ≡ d)
its_link n i r l c s k d a b =
    let same : a.interface ≡ b.interface = same_Some a.interface b.interface (sym a.listed ∙ b.listed) in (
      sym a.router ∙ ap (λ (x : Interface). x.router) same ∙ b.router,
      sym a.link ∙ ap (λ (x : Interface). x.link) same ∙ b.link,
      sym a.cost ∙ ap (λ (x : Interface). x.cost) same ∙ b.cost,
    )

pub within : (n : Network) (i r l c : ℕ) → IsInterface n i r l c → i < length n.interfaces
within n i r l c at = slice_get_within n.interfaces i _ at.listed

-- a later number of an ascending list is no less
pub ascends : (xs : List ℕ) → IsStrictlyIncreasing xs → (j k : ℕ) → j ≤ k → k < length xs → get_or xs j 0 ≤ get_or xs k 0
ascends xs up j zero le lt = let e : j ≡ 0 = omega arith in rw e (omega arith)
ascends xs up j (suc k) le lt =
    elim (cases_lt k j) [
      | inl big ↦ let e : j ≡ suc k = omega arith in rw e (omega arith)
      | inr small ↦
          let step : get_or xs k 0 < get_or xs (k + 1) 0 = up k (omega (arith, lt)) in
          let e : k + 1 ≡ suc k = omega arith in
          let step' : get_or xs k 0 < get_or xs (suc k) 0 = rw e at step in
          omega (arith, step', ascends xs up j k small (omega (arith, lt)))
    ]

pub ascends_below : (xs : List ℕ) → IsStrictlyIncreasing xs → (j k : ℕ) → j < k → k < length xs → get_or xs j 0 < get_or xs k 0
ascends_below xs up j k sooner lt = omega (arith, up j (omega (arith, sooner, lt)), ascends xs up (j + 1) k (omega (arith, sooner)) lt)

module _ (n : Network) (r : ℕ) (numbers : List ℕ) (exact : (i : ℕ) → Contains numbers i ↔ ((l c : ℕ) × IsInterface n i r l c)) where
  -- the number at a place is an interface of the router
  pub its_interface : (k : ℕ) → k < length numbers → (l c : ℕ) × IsInterface n (get_or numbers k 0) r l c
  its_interface k lt = (exact (get_or numbers k 0)).0 (Contains-get_or numbers k 0 lt)

  pub its_number : (k : ℕ) → k < length numbers → get_or numbers k 0 < length n.interfaces
  its_number k lt = let h = its_interface k lt in within n (get_or numbers k 0) r h.0 h.1 h.2

  -- what was read at a place
  pub its_own : (k : ℕ) (own : Interface) → k < length numbers → IsInterface n (get_or numbers k 0) own.router own.link own.cost → IsInterface n (get_or numbers k 0) r own.link own.cost
  its_own k own lt is =
      let h = its_interface k lt in
      let same = its_link n (get_or numbers k 0) own.router own.link own.cost r h.0 h.1 is h.2 in
      rw same.0 at is

  pub its_router : (k : ℕ) (own : Interface) → k < length numbers → IsInterface n (get_or numbers k 0) own.router own.link own.cost → own.router ≡ r
  its_router k own lt is = let h = its_interface k lt in (its_link n (get_or numbers k 0) own.router own.link own.cost r h.0 h.1 is h.2).0

  -- something is so of the interfaces at the places before k
  abbrev pub IsSoBefore : (ℕ → ℕ → Type 0) → ℕ → Type 0
  IsSoBefore Q k = (j l c : ℕ) → j < k → IsInterface n (get_or numbers j 0) r l c → Q (get_or numbers j 0) l

  -- one more place
  pub each_more : (Q : ℕ → ℕ → Type 0) (k : ℕ) (own : Interface) → IsInterface n (get_or numbers k 0) own.router own.link own.cost →
      IsSoBefore Q k → Q (get_or numbers k 0) own.link → IsSoBefore Q (k + 1)
  each_more Q k own is before here j l c lt at =
      elim (cases_lt j k) [
        | inl less ↦ before j l c less at
        | inr big ↦
            let e : j ≡ k = omega arith in
            let at' : IsInterface n (get_or numbers k 0) r l c = rw e at at in
            let same = its_link n (get_or numbers k 0) own.router own.link own.cost r l c is at' in
            let q : Q (get_or numbers k 0) l = rw same.1 at here in
            rw e q
      ]

  -- each interface of the router is at a place
  pub at_place : (i l c : ℕ) → IsInterface n i r l c → (k : ℕ) × (k < length numbers) × (get_or numbers k 0 ≡ i)
  at_place i l c its =
      let h = (exact i).1 (l, c, its) in
      (h.0, h.1, get_or_default numbers h.0 0 i h.1 ∙ h.2)

  pub every : (Q : ℕ → ℕ → Type 0) (k : ℕ) → length numbers ≤ k → IsSoBefore Q k → (i l c : ℕ) → IsInterface n i r l c → Q i l
  every Q k end all i l c its =
      let h = at_place i l c its in
      let its' : IsInterface n (get_or numbers h.0 0) r l c = rw h.2 its in
      let q : Q (get_or numbers h.0 0) l = all h.0 l c (omega (arith, h.1, end)) its' in
      rw h.2 at q

  -- each interface of the router before the one at place k is at a place before k
  pub all_before : IsStrictlyIncreasing numbers → (Q : ℕ → ℕ → Type 0) (k : ℕ) → k < length numbers → IsSoBefore Q k → (i l c : ℕ) → i < get_or numbers k 0 → IsInterface n i r l c → Q i l
  all_before ascending Q k lt all i l c less its =
      let h = at_place i l c its in
      let sooner : h.0 < k =
      elim (cases_lt h.0 k) [
        | inl before ↦ before
        | inr after ↦ absurd (omega (arith, ascends numbers ascending k h.0 after h.1, h.2, less))
      ] in
      let its' : IsInterface n (get_or numbers h.0 0) r l c = rw h.2 its in
      let q : Q (get_or numbers h.0 0) l = all h.0 l c sooner its' in
      rw h.2 at q

  -- each interface of the router before a bound that is no more than the one at place k is at a place before k
  pub place_before : IsStrictlyIncreasing numbers → (k b : ℕ) → (k < length numbers → b ≤ get_or numbers k 0) → (i l c : ℕ) → IsInterface n i r l c → i < b →
      (j : ℕ) × (j < k) × (get_or numbers j 0 ≡ i)
  place_before ascending k b next i l c its less =
      let h = at_place i l c its in
      elim (cases_lt h.0 k) [
        | inl sooner ↦ (h.0, sooner, h.2)
        | inr late ↦ absurd (omega (arith, h.2, less, next (omega (arith, late, h.1)), ascends numbers ascending k h.0 late h.1))
      ]

  -- a leaf's one interface is the first
  pub some_number : (i l c : ℕ) → IsLeaf n r i l c → 0 < length numbers
  some_number i l c leaf = let h = (exact i).1 (l, c, leaf.has) in omega (arith, h.1)

  pub first_is_leaf : (i l c : ℕ) (own : Interface) → IsLeaf n r i l c → IsInterface n (get_or numbers 0 0) own.router own.link own.cost →
      (own.router ≡ r) × IsLeaf n r (get_or numbers 0 0) own.link own.cost
  first_is_leaf i l c own leaf is =
      let some = some_number i l c leaf in
      let has = its_own 0 own some is in
      (its_router 0 own some is, record { has = has; only = λ j k d its. leaf.only j k d its ∙ sym (leaf.only (get_or numbers 0 0) own.link own.cost has) })
