-- Loops in which routers tell their metrics after a failure.
use Rattle.std.proofs.Common.{◌≡◌, ℕ, ◌+◌, ◌<◌, ◌≤◌, ◌↔◌, inl, inr, Bool, true, false, List, Option, Some, get_or, length, slice_get, slice_set, refl, ◌∙◌, ap, subst, arith}
use Rattle.std.specs.List.{Contains}
use Rattle.std.proofs.lemmas.Bool.{cases_lt, cases_eq}
use Rattle.std.proofs.lemmas.Option.{slice_get-get_or, slice_get_within, get_or_from_slice_get}
use Rattle.std.proofs.lemmas.List.{get_or-set_other}
use Rattle.std.proofs.lemmas.Grind.{get_or-set_at, common_steps}
use Rattle.rip_plan.specs.declared.parts.Interface.{Interface}
use Rattle.rip_plan.specs.Network.{Network}
use Rattle.rip_plan.specs.PrefixNetworks.{exchanges}
use Rattle.rip_plan.specs.Relations.{IsAttached, IsInterface, IsKept, IsLawful}
use Rattle.rip_check.specs.declared.failures.Failure.{Failure}
use Rattle.rip_check.specs.Failures.{is_link_up, is_router_up, left_to, network_left}
use Rattle.rip_check.specs.Networks.{block_at}
use Rattle.rip_check.specs.Tellings.{HasTold, IsTold}
use Rattle.rip_check.proofs.AcrossLemmas.{across_place}
use Rattle.rip_check.proofs.LeftLemmas.{attached_left, cost_own, kept_left, there_was}
use Rattle.rip_check.proofs.OwnedLemmas.{at_place, its_link}

-- ---- metrics

-- one more is written
pub one_written : (xs : List ℕ) (i v : ℕ) (Q : ℕ → ℕ → Type 0) → i < length xs → ((r : ℕ) → r < i → Q r (get_or xs r 0)) → Q i v →
    (r : ℕ) → r < i + 1 → Q r (get_or (slice_set xs i v) r 0)
one_written xs i v Q at before here r less =
    elim (cases_lt r i) [
      | inl sooner ↦ rw (get_or-set_other xs i r v 0 (λ e. omega (arith, sooner, e))) (before r sooner)
      | inr late ↦
          let same : r ≡ i = omega arith in
          rw same (rw (get_or-set_at xs i i v 0 refl at) here)
    ]

-- ---- marks

pub set_mark : (marks : List Bool) (k : ℕ) → k < length marks → slice_get (slice_set marks k true) k ≡ Some true
set_mark marks k lt =
    let lt' : k < length (slice_set marks k true) = grind (arith, common_steps, lt) in
    slice_get-get_or (slice_set marks k true) k false lt' ∙ ap Some (get_or-set_at marks k k true false refl lt)

pub keep_mark : (marks : List Bool) (k l : ℕ) → k < length marks → slice_get marks l ≡ Some true → slice_get (slice_set marks k true) l ≡ Some true
keep_mark marks k l lt is =
    elim (cases_eq l k) [
      | inl same ↦ rw same (set_mark marks k lt)
      | inr other ↦
          let l_lt = slice_get_within marks l true is in
          let lt' : l < length (slice_set marks k true) = grind (arith, common_steps, l_lt) in
          slice_get-get_or (slice_set marks k true) l false lt' ∙ ap Some (get_or-set_other marks k l true false other ∙ get_or_from_slice_get marks l true false is)
    ]

-- ---- one interface of a link

module _ (n : Network) (plan : IsLawful n) (f : Option Failure) (p l m : ℕ) (numbers : List ℕ) (exact : (i : ℕ) → Contains numbers i ↔ ((r c : ℕ) × IsInterface n i r l c)) where
  -- the metric was told to the interfaces at the places before k
  abbrev pub IsToldBefore : List ℕ → ℕ → Type 0
  IsToldBefore metrics k =
      (j r c : ℕ) → j < k → IsInterface n (get_or numbers j 0) r l c → is_router_up f r ≡ true → (IsKept (network_left n f) r p → ⊥) → get_or metrics r 0 ≤ c + m

  pub one_told : (xs next : List ℕ) (k : ℕ) (x : Interface) → IsInterface n (get_or numbers k 0) x.router x.link x.cost → ((r : ℕ) → get_or next r 0 ≤ get_or xs r 0) →
      (is_router_up f x.router ≡ true → (IsKept (network_left n f) x.router p → ⊥) → get_or next x.router 0 ≤ x.cost + m) → IsToldBefore xs k → IsToldBefore next (k + 1)
  one_told xs next k x its falls here before j r c lt at up takes =
      elim (cases_lt j k) [
        | inl sooner ↦ omega (arith, falls r, before j r c sooner at up takes)
        | inr late ↦
            let e : j ≡ k = omega arith in
            let same = its_link n (get_or numbers k 0) x.router x.link x.cost r l c its (rw e at at) in
            let up' : is_router_up f x.router ≡ true = rw same.0 up in
            let takes' : IsKept (network_left n f) x.router p → ⊥ = rw same.0 takes in
            let le : get_or next r 0 ≤ x.cost + m = rw same.0 at (here up' takes') in
            omega (arith, le, same.2)
      ]

  pub all_told : exchanges n (block_at n.prefixes p) l ≡ true → (metrics : List ℕ) (k : ℕ) → length numbers ≤ k → IsToldBefore metrics k → IsTold (left_to n f p) p m metrics l
  all_told free metrics k end told r c has takes =
      let was = cost_own n plan f p r l c (there_was n plan f p r l c free has) has in
      let place = across_place n l numbers exact was.0.0 r c was.0.1 in
      told place.0 r c (omega (arith, place.1, end)) (rw place.2 was.0.1) was.2 (λ kept. takes ((kept_left n plan f p r).1 kept))

-- ---- one interface of a router

module _ (n : Network) (plan : IsLawful n) (f : Option Failure) (p r : ℕ) (numbers : List ℕ) (exact : (i : ℕ) → Contains numbers i ↔ ((l c : ℕ) × IsInterface n i r l c)) where
  -- a link on which the router tells is marked
  abbrev pub IsMarkedThere : List Bool → ℕ → Type 0
  IsMarkedThere marks l =
      is_router_up f r ≡ true → is_link_up f l ≡ true → exchanges n (block_at n.prefixes p) l ≡ true → (IsAttached n r p l → ⊥) → slice_get marks l ≡ Some true

  -- so those of the interfaces at the places before k
  abbrev pub IsMarkedBefore : List Bool → ℕ → Type 0
  IsMarkedBefore marks k = (j l c : ℕ) → j < k → IsInterface n (get_or numbers j 0) r l c → IsMarkedThere marks l

  pub one_marked : (marks next : List Bool) (k : ℕ) (x : Interface) → IsInterface n (get_or numbers k 0) x.router x.link x.cost →
      ((l : ℕ) → slice_get marks l ≡ Some true → slice_get next l ≡ Some true) → IsMarkedThere next x.link → IsMarkedBefore marks k → IsMarkedBefore next (k + 1)
  one_marked marks next k x its kept here before j l c lt at =
      elim (cases_lt j k) [
        | inl sooner ↦ λ r_up l_up free off. kept l (before j l c sooner at r_up l_up free off)
        | inr late ↦
            let e : j ≡ k = omega arith in
            let same = its_link n (get_or numbers k 0) x.router x.link x.cost r l c its (rw e at at) in
            subst (IsMarkedThere next) same.1 here
      ]

  pub all_marked : r < length n.routers → (marks : List Bool) (k : ℕ) → length numbers ≤ k → IsMarkedBefore marks k → HasTold (left_to n f p) p marks r
  all_marked lt marks k end marked l c has off =
      let was = cost_own n plan f p r l c lt has in
      let place = at_place n r numbers exact was.0.0 l c was.0.1 in
      marked place.0 l c (omega (arith, place.1, end)) (rw place.2 was.0.1) was.2 was.3 was.1 (λ at. off (attached_left n plan f p r l at was.1 was.2 was.3))
