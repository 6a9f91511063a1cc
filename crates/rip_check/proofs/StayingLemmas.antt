-- Where a failure meets no least path of a prefix, the least metrics of before stay.
use Rattle.std.proofs.Common.{◌≡◌, ℕ, zero, suc, ◌+◌, ◌<◌, ◌≤◌, ◌⊎◌, ◌↔◌, inl, inr, Bool, true, false, not, List, [], ◌∷◌, get_or, length, None, Some, refl, arith}
use Rattle.std.specs.List.{Contains}
use Rattle.std.proofs.lemmas.Bool.{cases_lt, cases_eq}
use Rattle.rip_plan.specs.Network.{Network}
use Rattle.rip_plan.specs.Relations.{Carries, HasCost, IsAttached, IsInterface, IsLawful, IsOn}
use Rattle.rip_plan.proofs.PrefixNetworkLemmas.{exchange}
use Rattle.rip_wire.specs.Prefix.{Block}
use Rattle.rip_plan.specs.declared.parts.Interface.{Interface}
use Rattle.rip_check.specs.declared.failures.Failure.{Failure}
use Rattle.rip_check.specs.declared.failures.Failure.TheVariants as failures
use Rattle.rip_check.specs.Failures.{is_router_up, left_to}
use Rattle.rip_check.specs.Networks.{block_at, network_at}
use Rattle.rip_check.specs.Paths.{Hop, IsLeast, IsPath}
use Rattle.rip_check.specs.Untouched.{HasWayLeft, IsStep, IsStepUp, IsUntouched, KeepsWay}
use Rattle.rip_check.proofs.AcrossLemmas.{across_place}
use Rattle.rip_check.proofs.LeftLemmas.{attached_own, cost_left, cost_own, direct_left, direct_own, kept_left, other_link, other_router, path_left, still_direct, there_was, was_direct, was_kept}
use Rattle.rip_check.proofs.NetLemmas.{attached, its_cost, kept, on_known}
use Rattle.rip_check.proofs.OwnedLemmas.{its_link}

-- the rest of a least path is one
rest_least : (n : Network) (p r l s c w : ℕ) (hops : List Hop) → HasCost n r l c → IsLeast n p r (c + w) → c + w < 16 → (path : IsPath n p r (record { link = l; to = s } ∷ hops) (c + w)) → path.1 ≡ w →
    IsLeast n p s w
rest_least n p r l s c w hops has least small path is = record {
  reached = inr (omega (arith, small), (hops, rw is at path.4));
  least = λ others v other.
      let le = least.least (record { link = l; to = s } ∷ others) (c + v) (c, v, has, path.3, other, refl) in
      omega (arith, le);
}

module _ (n : Network) (plan : IsLawful n) (f : Failure) (p : ℕ) where
  abbrev b : Block
  b = block_at n.prefixes p

  abbrev net : Network
  net = network_at n n.prefixes p

  abbrev left : Network
  left = left_to n (Some f) p

  module _ (un : IsUntouched n f p) where
    -- a router that is up keeps a way of its least metric
    way_left : (r v : ℕ) → r < length n.routers → is_router_up (Some f) r ≡ true → v < 16 → IsLeast net p r v → HasWayLeft n f p r v
    way_left r v lt up small least = go least.reached
      where
        first : (hops : List Hop) → IsPath net p r hops v → HasWayLeft n f p r v
        first [] direct =
            inl (direct_left n plan (Some f) p r v
            (still_direct n (Some f) r p v up (λ l carried on. un.carried l carried) (λ l at. un.attached r l at) (direct_own n plan None p r v lt direct)))
        first (h ∷ hops) path =
            let c = path.0 in
            let w = path.1 in
            let near = path.3.neighbour in
            let sum : v ≡ c + w = path.5 in
            let own = its_cost n plan b r h.link c lt path.2 in
            let e = (exchange n plan b h.link).1 own.1 in
            let there = on_known n plan b h.to h.link own.1 near.there in
            let next : IsLeast net p h.to w = rest_least net p r h.link h.to c w hops path.2 (rw sum at least) (omega (arith, small, sum)) (c, w, path.2, path.3, path.4, refl) refl in
            elim (un.steps r h.link c h.to lt path.2 near.there (record { own = v; next = w; small = small; here = least; there = next; sum = sum })) [
              | inl step ↦ inr (
                h.link,
                h.to,
                c,
                w,
                cost_left n plan (Some f) p r h.link c own.0 e up step.link,
                record {
                  neighbour = record {
                    other = near.other;
                    here = (c, cost_left n plan (Some f) p r h.link c own.0 e up step.link);
                    there = (there.0, cost_left n plan (Some f) p h.to h.link there.0 there.1 e step.router step.link);
                  };
                  goes_on = λ keeps. path.3.goes_on ((kept n b r p).1 (was_kept n (Some f) r p ((kept_left n plan (Some f) p r).0 keeps)).0);
                  tells = λ at. path.3.tells ((attached n plan b h.to p h.link).1 ((attached_own n plan (Some f) p h.to h.link at).0, own.1));
                },
                next,
                sum,
              )
              | inr keeps ↦ keeps v least small
            ]

        go : (v ≡ 16) ⊎ ((v < 16) × ((hops : List Hop) × IsPath net p r hops v)) → HasWayLeft n f p r v
        go (inl e) = absurd (omega (arith, e, small))
        go (inr h) = first h.1.0 h.1.1

    -- so a path of it, by descent on the metric
    path_still : (bound r v : ℕ) → v < bound → r < length n.routers → is_router_up (Some f) r ≡ true → v < 16 → IsLeast net p r v → (hops : List Hop) × IsPath left p r hops v
    path_still zero r v below lt up small least = absurd (omega (arith, below))
    path_still (suc bound) r v below lt up small least = go (λ s w. path_still bound s w) (way_left r v lt up small least)
      where
        go : ((s w : ℕ) → w < bound → s < length n.routers → is_router_up (Some f) s ≡ true → w < 16 → IsLeast net p s w → (hops : List Hop) × IsPath left p s hops w) →
            HasWayLeft n f p r v → (hops : List Hop) × IsPath left p r hops v
        go rec (inl direct) = ([], direct)
        go rec (inr h) =
            let has = cost_own n plan (Some f) p r h.0 h.2 lt h.4 in
            let cost = plan.cost_least has.0.0 r h.0 h.2 has.0.1 in
            let there = h.5.neighbour.there in
            let s_at = there_was n plan (Some f) p h.1 h.0 there.0 has.1 there.1 in
            let s_up = (cost_own n plan (Some f) p h.1 h.0 there.0 s_at there.1).2 in
            let rest = rec h.1 h.3 (omega (arith, below, cost, h.7)) s_at s_up (omega (arith, small, h.7)) h.6 in
            (record { link = h.0; to = h.1 } ∷ rest.0, (h.2, h.3, h.4, h.5, rest.1, h.7))

    pub least_stays : (r v : ℕ) → r < length n.routers → is_router_up (Some f) r ≡ true → IsLeast net p r v → IsLeast left p r v
    least_stays r v lt up least = record {
      reached = go least.reached;
      least = λ hops w path. least.least hops w (path_left n plan (Some f) p un.attached r hops w lt path);
    }
      where
        go : (v ≡ 16) ⊎ ((v < 16) × ((hops : List Hop) × IsPath net p r hops v)) → (v ≡ 16) ⊎ ((v < 16) × ((hops : List Hop) × IsPath left p r hops v))
        go (inl e) = inl e
        go (inr h) = inr (h.0, path_still (suc v) r v (omega arith) lt up h.0 least)

  -- a router that has failed has no path
  pub failed_far : (r v : ℕ) → r < length n.routers → is_router_up (Some f) r ≡ false → v ≡ 16 → IsLeast left p r v
  failed_far r v lt down is = record {
    reached = inl is;
    least = λ hops w path. absurd (none hops w path);
  }
    where
      none : (hops : List Hop) (w : ℕ) → IsPath left p r hops w → ⊥
      none [] w direct = let up = (was_direct n (Some f) r p w (direct_own n plan (Some f) p r w lt direct)).1 in cc (up, down)
      none (h ∷ hops) w path = let up = (cost_own n plan (Some f) p r h.link path.0 lt path.2).2 in cc (up, down)

  -- so what is written of a router is its least metric
  pub stays : (r v : ℕ) → r < length n.routers → IsUntouched n f p → (is_router_up (Some f) r ≡ true → IsLeast net p r v) → (is_router_up (Some f) r ≡ false → v ≡ 16) → IsLeast left p r v
  stays r v lt un up down = go (is_router_up (Some f) r) refl
    where
      go : (t : Bool) → is_router_up (Some f) r ≡ t → IsLeast left p r v
      go true is = least_stays un r v lt is (up is)
      go false is = failed_far r v lt is (down is)

-- ---- what the tests say

-- where no least path goes over the link that has failed
pub link_untouched : (n : Network) (p x : ℕ) → (Carries n x p → ⊥) → ((r : ℕ) → IsAttached n r p x → ⊥) →
    ((r c s : ℕ) → r < length n.routers → HasCost (network_at n n.prefixes p) r x c → IsOn (network_at n n.prefixes p) s x → IsStep (network_at n n.prefixes p) p r c s →
    IsStepUp (failures.Link x) x s ⊎ KeepsWay n (failures.Link x) p r) → IsUntouched n (failures.Link x) p
link_untouched n p x off loose keeps = record {
  steps = λ r l c s lt has on step. elim (cases_eq l x) [
    | inl same ↦ rw same (keeps r c s lt (rw same at has) (rw same at on) step)
    | inr other ↦ inl (record { link = other_link x l other; router = refl })
  ];
  carried = λ l carried. other_link x l (λ same. off (rw same at carried));
  attached = λ r l at. other_link x l (λ same. loose r (rw same at at));
}

-- where none goes on through the router that has failed
pub router_untouched : (n : Network) (p y : ℕ) → ((l r c s : ℕ) → r < length n.routers → IsOn (network_at n n.prefixes p) y l → HasCost (network_at n n.prefixes p) r l c →
    IsOn (network_at n n.prefixes p) s l → IsStep (network_at n n.prefixes p) p r c s → IsStepUp (failures.Router y) l s ⊎ KeepsWay n (failures.Router y) p r) →
    IsUntouched n (failures.Router y) p
router_untouched n p y keeps = record {
  steps = λ r l c s lt has on step. elim (cases_eq s y) [
    | inl same ↦ keeps l r c s lt (rw same at on) has on step
    | inr other ↦ inl (record { link = refl; router = other_router y s other })
  ];
  carried = λ l carried. refl;
  attached = λ r l at. refl;
}

pub is_true : (b : Bool) → not b ≡ false → b ≡ true
is_true true e = refl
is_true false e = cc e

-- ---- loops over the interfaces on a link

module _ (n : Network) (l : ℕ) (numbers : List ℕ) (exact : (i : ℕ) → Contains numbers i ↔ ((r c : ℕ) × IsInterface n i r l c)) where
  -- something is so of the interfaces at the places before k
  abbrev pub IsSoAcross : (ℕ → ℕ → Type 0) → ℕ → Type 0
  IsSoAcross Q k = (j r c : ℕ) → j < k → IsInterface n (get_or numbers j 0) r l c → Q r c

  pub one_across : (Q : ℕ → ℕ → Type 0) (k : ℕ) (x : Interface) → IsInterface n (get_or numbers k 0) x.router x.link x.cost → Q x.router x.cost → IsSoAcross Q k → IsSoAcross Q (k + 1)
  one_across Q k x its here before j r c lt at =
      elim (cases_lt j k) [
        | inl sooner ↦ before j r c sooner at
        | inr late ↦
            let e : j ≡ k = omega arith in
            let same = its_link n (get_or numbers k 0) x.router x.link x.cost r l c its (rw e at at) in
            let there : Q r x.cost = rw same.0 at here in
            rw same.2 at there
      ]

  pub all_across : (Q : ℕ → ℕ → Type 0) (k : ℕ) → length numbers ≤ k → IsSoAcross Q k → (r c : ℕ) → HasCost n r l c → Q r c
  all_across Q k end so r c has =
      let place = across_place n l numbers exact has.0 r c has.1 in
      so place.0 r c (omega (arith, place.1, end)) (rw place.2 has.1)
