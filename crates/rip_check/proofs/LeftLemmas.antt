-- What is left of a network after a failure.
use Rattle.std.proofs.Common.{◌≡◌, ℕ, zero, suc, ◌<◌, ◌≤◌, ◌⊎◌, ◌↔◌, inl, inr, Bool, true, false, not, cond, List, [], ◌∷◌, length, Option, None, Some, slice_get, refl, ap, subst, ◌∙◌, arith}
use Rattle.rip_plan.proofs.LookupLemmas.{interface_of, one_seat, own_says}
use Rattle.std.specs.List.{filter}
use Rattle.std.specs.Prelude.{eqb}
use Rattle.std.proofs.lemmas.Bool.{both_ways, eqb-true, eq-eqb, and_parts, and_from}
use Rattle.rip_plan.specs.declared.parts.Interface.{Interface}
use Rattle.rip_plan.specs.declared.parts.OwnPrefix.{OwnPrefix}
use Rattle.rip_plan.specs.declared.parts.Seat.{Seat}
use Rattle.rip_plan.specs.declared.parts.Seat.TheVariants.{Link, Own}
use Rattle.rip_plan.specs.Network.{Network}
use Rattle.rip_plan.specs.Relations.{Carries, HasCost, IsAttached, IsConnected, IsDirect, IsInterface, IsKept, IsLawful, IsOn, IsOwnWith, IsPlace, Touches}
use Rattle.rip_plan.specs.PrefixNetworks.{exchanges}
use Rattle.rip_plan.proofs.PrefixNetworkLemmas as nets
use Rattle.rip_wire.specs.Prefix.{Block}
use Rattle.rip_check.proofs.PlanLemmas.{its_direct, own_moved}
use Rattle.rip_check.proofs.TellingLemmas.{IsSound, reached_most}
use Rattle.rip_check.specs.declared.failures.Failure.{Failure}
use Rattle.rip_check.specs.declared.failures.Failure.TheVariants as failures
use Rattle.rip_check.specs.Paths.{Hop, IsLeast, IsPath}
use Rattle.rip_check.specs.Failures.{is_alive, is_alive_seat, is_any_up, is_link_up, is_router_up, left_to, network_left}
use Rattle.rip_check.specs.Networks.{block_at, network_at}

-- ---- the elements of a list that pass a test

pub filter_has : {A : Type 0} (test : A → Bool) (xs : List A) (k : ℕ) (x : A) → slice_get (filter test xs) k ≡ Some x → (j : ℕ) × (slice_get xs j ≡ Some x) × (test x ≡ true)
filter_has test [] zero x e = cc e
filter_has test [] (suc k) x e = cc e
filter_has {A} test (y ∷ ys) k x e = go (λ k e. filter_has test ys k x e) (test y) refl k e
  where
    go : ((k : ℕ) → slice_get (filter test ys) k ≡ Some x → (j : ℕ) × (slice_get ys j ≡ Some x) × (test x ≡ true)) →
        (b : Bool) → test y ≡ b → (k : ℕ) → slice_get (cond b (y ∷ filter test ys) (filter test ys)) k ≡ Some x → (j : ℕ) × (slice_get (y ∷ ys) j ≡ Some x) × (test x ≡ true)
    go later true is zero e = let same : y ≡ x = cc e in (zero, e, rw (← same) is)
    go later true is (suc k) e = let h = later k e in (suc h.0, h.1, h.2)
    go later false is k e = let h = later k e in (suc h.0, h.1, h.2)

pub filter_at : {A : Type 0} (test : A → Bool) (xs : List A) (j : ℕ) (x : A) → slice_get xs j ≡ Some x → test x ≡ true → (k : ℕ) × (slice_get (filter test xs) k ≡ Some x)
filter_at test [] zero x e t = cc e
filter_at test [] (suc j) x e t = cc e
filter_at {A} test (y ∷ ys) zero x e t =
    let same : y ≡ x = cc e in
    let here : test y ≡ true = rw same t in
    (zero, rw here e)
filter_at {A} test (y ∷ ys) (suc j) x e t = go (test y) refl (filter_at test ys j x e t)
  where
    go : (b : Bool) → test y ≡ b → ((k : ℕ) × (slice_get (filter test ys) k ≡ Some x)) → (k : ℕ) × (slice_get (filter test (y ∷ ys)) k ≡ Some x)
    go true is h = (suc h.0, rw is h.1)
    go false is h = (h.0, rw is h.1)

not_true : (b : Bool) → (b ≡ true → ⊥) → not b ≡ true
not_true true h = absurd (h refl)
not_true false h = refl

-- a link that is not the failed one is up
pub other_link : (x l : ℕ) → (l ≡ x → ⊥) → is_link_up (Some (failures.Link x)) l ≡ true
other_link x l other = not_true (eqb l x) (λ t. other (eqb-true l x t))

pub failed_link : (x : ℕ) → is_link_up (Some (failures.Link x)) x ≡ true → ⊥
failed_link x up = let t : eqb x x ≡ true = eq-eqb x x refl in cc (up, t)

pub not_that : (x l : ℕ) → not (eqb l x) ≡ true → l ≡ x → ⊥
not_that x l t same = let e : eqb l x ≡ true = eq-eqb l x same in cc (t, e)

pub that_one : (x l : ℕ) → not (eqb l x) ≡ false → l ≡ x
that_one x l e = go (eqb l x) refl e
  where
    go : (b : Bool) → eqb l x ≡ b → not b ≡ false → l ≡ x
    go true is e = eqb-true l x is
    go false is e = cc e

pub other_router : (x r : ℕ) → (r ≡ x → ⊥) → is_router_up (Some (failures.Router x)) r ≡ true
other_router x r other = not_true (eqb r x) (λ t. other (eqb-true r x t))

pub failed_router : (x : ℕ) → is_router_up (Some (failures.Router x)) x ≡ true → ⊥
failed_router x up = let t : eqb x x ≡ true = eq-eqb x x refl in cc (up, t)

-- ---- interfaces

pub was_listed : (n : Network) (f : Option Failure) (j : ℕ) (x : Interface) → slice_get (network_left n f).interfaces j ≡ Some x →
    (i : ℕ) × (slice_get n.interfaces i ≡ Some x) × (is_router_up f x.router ≡ true) × (is_link_up f x.link ≡ true)
was_listed n None j x e = (j, e, refl, refl)
was_listed n (Some f) j x e =
    let h = filter_has (is_alive (Some f)) n.interfaces j x e in
    let up = and_parts (is_router_up (Some f) x.router) (is_link_up (Some f) x.link) h.2 in
    (h.0, h.1, up.0, up.1)

pub still_listed : (n : Network) (f : Option Failure) (i : ℕ) (x : Interface) → slice_get n.interfaces i ≡ Some x → is_router_up f x.router ≡ true → is_link_up f x.link ≡ true →
    (j : ℕ) × (slice_get (network_left n f).interfaces j ≡ Some x)
still_listed n None i x e r_up l_up = (i, e)
still_listed n (Some f) i x e r_up l_up = filter_at (is_alive (Some f)) n.interfaces i x e (and_from (is_router_up (Some f) x.router) (is_link_up (Some f) x.link) r_up l_up)

module _ (n : Network) (f : Option Failure) where
  -- an interface that is left was one, of a router and on a link that are up
  pub was_cost : (r l c : ℕ) → HasCost (network_left n f) r l c → HasCost n r l c × (is_router_up f r ≡ true) × (is_link_up f l ≡ true)
  was_cost r l c (j, is) =
      let (i, at, r_up, l_up) = was_listed n f j is.interface is.listed in
      ((i, record { interface = is.interface; listed = at; router = is.router; link = is.link; cost = is.cost }), rw is.router at r_up, rw is.link at l_up)

  pub still_cost : (r l c : ℕ) → HasCost n r l c → is_router_up f r ≡ true → is_link_up f l ≡ true → HasCost (network_left n f) r l c
  still_cost r l c (i, is) r_up l_up =
      let (j, at) = still_listed n f i is.interface is.listed (rw is.router r_up) (rw is.link l_up) in
      (j, record { interface = is.interface; listed = at; router = is.router; link = is.link; cost = is.cost })

  was_connected : (j r l d : ℕ) → IsConnected (network_left n f) j r l d → ((i : ℕ) × IsConnected n i r l d) × (is_router_up f r ≡ true) × (is_link_up f l ≡ true)
  was_connected j r l d is =
      let (i, at, r_up, l_up) = was_listed n f j is.interface is.listed in
      ((i, record { interface = is.interface; listed = at; router = is.router; link = is.link; direct = is.direct }), rw is.router at r_up, rw is.link at l_up)

  still_connected : (i r l d : ℕ) → IsConnected n i r l d → is_router_up f r ≡ true → is_link_up f l ≡ true → (j : ℕ) × IsConnected (network_left n f) j r l d
  still_connected i r l d is r_up l_up =
      let (j, at) = still_listed n f i is.interface is.listed (rw is.router r_up) (rw is.link l_up) in
      (j, record { interface = is.interface; listed = at; router = is.router; link = is.link; direct = is.direct })

-- ---- places

pub was_place : (n : Network) (f : Option Failure) (k p : ℕ) (seat : Seat) → IsPlace (network_left n f) k p seat → (j : ℕ) × IsPlace n j p seat × (is_alive_seat f seat ≡ true)
was_place n None k p seat is = (k, is, all_alive seat)
  where
    any_alive : (link : Option ℕ) → is_any_up None link ≡ true
    any_alive None = refl
    any_alive (Some l) = refl

    all_alive : (seat : Seat) → is_alive_seat None seat ≡ true
    all_alive (Link l) = refl
    all_alive (Own own) = any_alive own.link
was_place n (Some f) k p seat is =
    let h = filter_has (λ q. is_alive_seat (Some f) q.seat) n.places k (record { prefix = p; seat = seat }) is.listed in
    (h.0, record { listed = h.1 }, h.2)

pub still_place : (n : Network) (f : Option Failure) (k p : ℕ) (seat : Seat) → IsPlace n k p seat → is_alive_seat f seat ≡ true → (j : ℕ) × IsPlace (network_left n f) j p seat
still_place n None k p seat is up = (k, is)
still_place n (Some f) k p seat is up =
    let h = filter_at (λ q. is_alive_seat (Some f) q.seat) n.places k (record { prefix = p; seat = seat }) is.listed up in
    (h.0, record { listed = h.1 })

module _ (n : Network) (f : Option Failure) where
  -- what is attached after the failure was attached, by a router and to a link that are up
  pub was_attached : (r p l : ℕ) → IsAttached (network_left n f) r p l → IsAttached n r p l × (is_router_up f r ≡ true) × (is_link_up f l ≡ true)
  was_attached r p l at =
      let h = was_place n f at.0 p _ at.1.place in
      let up = and_parts (is_router_up f at.1.own.router) (is_any_up f at.1.own.link) h.2 in
      ((h.0, own_moved at.1 h.1), rw at.1.router at up.0, rw at.1.says at up.1)

  pub still_attached : (r p l : ℕ) → IsAttached n r p l → is_router_up f r ≡ true → is_link_up f l ≡ true → IsAttached (network_left n f) r p l
  still_attached r p l at r_up l_up =
      let own = at.1.own in
      let h = still_place n f at.0 p _ at.1.place (and_from (is_router_up f own.router) (is_any_up f own.link) (rw at.1.router r_up) (rw at.1.says l_up)) in
      (h.0, own_moved at.1 h.1)

  -- what a router has after the failure it had before, and is up
  pub was_direct : (r p c : ℕ) → IsDirect (network_left n f) r p c → IsDirect n r p c × (is_router_up f r ≡ true)
  was_direct r p c (k, inl at) =
      let h = was_place n f k p _ at.1 in
      let j = was_connected n f at.2.0 r at.0 c at.2.1 in
      ((h.0, inl (at.0, h.1, j.0)), j.1)
  was_direct r p c (k, inr own) =
      let h = was_place n f k p _ own.place in
      let up = and_parts (is_router_up f own.own.router) (is_any_up f own.own.link) h.2 in
      ((h.0, inr (own_moved own h.1)), rw own.router at up.0)

  pub any_up : (link : Option ℕ) → ((l : ℕ) → link ≡ Some l → is_link_up f l ≡ true) → is_any_up f link ≡ true
  any_up None up = refl
  any_up (Some l) up = up l refl

  -- a router that is up still has what is neither on a failed link nor attached to one
  pub still_direct : (r p c : ℕ) → is_router_up f r ≡ true → ((l : ℕ) → Carries n l p → IsOn n r l → is_link_up f l ≡ true) → ((l : ℕ) → IsAttached n r p l → is_link_up f l ≡ true) →
      IsDirect n r p c → IsDirect (network_left n f) r p c
  still_direct r p c r_up carried attached (k, inl at) =
      let on : IsOn n r at.0 = (at.2.1.interface.cost, (at.2.0, interface_of n at.2.0 r at.0 c at.2.1)) in
      let l_up = carried at.0 (k, at.1) on in
      let h = still_place n f k p _ at.1 l_up in
      (h.0, inl (at.0, h.1, still_connected n f at.2.0 r at.0 c at.2.1 r_up l_up))
  still_direct r p c r_up carried attached (k, inr own) =
      let up = any_up own.own.link (λ l is. attached l (k, own_says own is)) in
      let h = still_place n f k p _ own.place (and_from (is_router_up f own.own.router) (is_any_up f own.own.link) (rw own.router r_up) up) in
      (h.0, inr (own_moved own h.1))

  -- a router that keeps the prefix after the failure kept it, and is up
  pub was_kept : (r p : ℕ) → IsKept (network_left n f) r p → IsKept n r p × (is_router_up f r ≡ true)
  was_kept r p (inl kept) =
      let h = was_place n f kept.0 p _ kept.1.place in
      let up = and_parts (is_router_up f kept.1.own.router) (is_any_up f kept.1.own.link) h.2 in
      (inl (h.0, own_moved kept.1 h.1), rw kept.1.router at up.0)
  was_kept r p (inr at) = let h = was_attached r p at.0 at.1 in (inr (at.0, h.0), h.1)

  -- a router that is up still keeps what is not attached to a failed link
  pub still_kept : (r p : ℕ) → is_router_up f r ≡ true → ((l : ℕ) → IsAttached n r p l → is_link_up f l ≡ true) → IsKept n r p → IsKept (network_left n f) r p
  still_kept r p r_up attached (inl kept) =
      let own = kept.1.own in
      let up = any_up own.link (λ l is. attached l (kept.0, own_says kept.1 is)) in
      let h = still_place n f kept.0 p _ kept.1.place (and_from (is_router_up f own.router) (is_any_up f own.link) (rw kept.1.router r_up) up) in
      inl (h.0, own_moved kept.1 h.1)
  still_kept r p r_up attached (inr at) = inr (at.0, still_attached r p at.0 at.1 r_up (attached at.0 at.1))

-- ---- one place has what a router has of a prefix

module _ (n : Network) (plan : IsLawful n) where
  -- what touches a router twice is one seat
  one_touch : (k j p r c d : ℕ) (s t : Seat) → Touches n k p r c → Touches n j p r d → IsPlace n k p s → IsPlace n j p t → s ≡ t
  one_touch k j p r c d s t a b at bt =
      let same : k ≡ j = plan.touched_once k j p r c d a b in
      one_seat n j p s t (rw same at at) bt

  attached_touch : (r p l : ℕ) (at : IsAttached n r p l) → Touches n at.0 p r at.1.own.cost
  attached_touch r p l at = inr (own_says at.1 refl)

  own_same : (own other : OwnPrefix) → Own own ≡ Own other → own ≡ other
  own_same own other e = cc e

  link_clash : (m : ℕ) (own : OwnPrefix) → Link m ≡ Own own → ⊥
  link_clash m own e = cc e

  link_same : (l m : ℕ) → Link l ≡ Link m → l ≡ m
  link_same l m e = cc e

  module _ (f : Option Failure) where
    -- an own seat that is alive is that to which the prefix is attached
    own_up : {Says : OwnPrefix → Type 0} (k p r l : ℕ) (h : IsOwnWith n k p r Says) → is_any_up f h.own.link ≡ true → IsAttached n r p l → is_link_up f l ≡ true
    own_up k p r l h up at =
        let same = one_touch k at.0 p r h.own.cost at.1.own.cost _ _ (inr (own_says h refl)) (attached_touch r p l at) h.place at.1.place in
        let named : h.own.link ≡ Some l = ap (λ (o : OwnPrefix). o.link) (own_same h.own at.1.own same) ∙ at.1.says in
        rw named at up

    -- where a router keeps the prefix after the failure, no link that it was attached to has failed
    pub kept_up : (r p l : ℕ) → IsKept (network_left n f) r p → IsAttached n r p l → is_link_up f l ≡ true
    kept_up r p l (inl kept) at =
        let h = was_place n f kept.0 p _ kept.1.place in
        let up = and_parts (is_router_up f kept.1.own.router) (is_any_up f kept.1.own.link) h.2 in
        own_up h.0 p r l (own_moved kept.1 h.1) up.1 at
    kept_up r p l (inr still) at =
        let h = was_attached n f r p still.0 still.1 in
        own_up h.0.0 p r l h.0.1 (rw h.0.1.says h.2) at

    -- nor where it has it directly
    pub direct_up : (r p c l : ℕ) → IsDirect (network_left n f) r p c → IsAttached n r p l → is_link_up f l ≡ true
    direct_up r p c l (k, inl here) at =
        let h = was_place n f k p _ here.1 in
        let j = was_connected n f here.2.0 r here.0 c here.2.1 in
        let same = one_touch h.0 at.0 p r c at.1.own.cost _ _ (inl (here.0, h.1, j.0)) (attached_touch r p l at) h.1 at.1.place in
        absurd (link_clash here.0 at.1.own same)
    direct_up r p c l (k, inr own) at =
        let h = was_place n f k p _ own.place in
        let up = and_parts (is_router_up f own.own.router) (is_any_up f own.own.link) h.2 in
        own_up h.0 p r l (own_moved own h.1) up.1 at

    -- and no link of the router that carries the prefix has failed
    pub carried_up : (r p c l : ℕ) → IsDirect (network_left n f) r p c → Carries n l p → IsOn n r l → is_link_up f l ≡ true
    carried_up r p c l direct carried on = go direct
      where
        touch : Touches n carried.0 p r on.1.1.interface.direct
        touch = inl (l, carried.1, (on.1.0, its_direct n on.1.0 r l on.0 on.1.1))

        go : IsDirect (network_left n f) r p c → is_link_up f l ≡ true
        go (k, inl here) =
            let h = was_place n f k p _ here.1 in
            let j = was_connected n f here.2.0 r here.0 c here.2.1 in
            let same = one_touch h.0 carried.0 p r c on.1.1.interface.direct _ _ (inl (here.0, h.1, j.0)) touch h.1 carried.1 in
            let named : here.0 ≡ l = link_same here.0 l same in
            rw named at h.2
        go (k, inr own) =
            let h = was_place n f k p _ own.place in
            let same = one_touch carried.0 h.0 p r on.1.1.interface.direct c _ _ touch (inr (own_moved own h.1)) carried.1 h.1 in
            absurd (link_clash l own.own same)

    module _ (r p : ℕ) (o : Option ℕ) (exact : (l : ℕ) → (o ≡ Some l) ↔ IsAttached n r p l) where
      -- the test of the link to which the prefix is attached
      pub attached_up : is_any_up f o ≡ true → (l : ℕ) → IsAttached n r p l → is_link_up f l ≡ true
      attached_up up l at = let named : o ≡ Some l = (exact l).1 at in rw named at up

      pub any_attached_up : ((l : ℕ) → IsAttached n r p l → is_link_up f l ≡ true) → is_any_up f o ≡ true
      any_attached_up each = any_up n f o (λ l is. each l ((exact l).0 is))

  -- where a link has failed, a router has what is neither on it nor attached to it
  pub beside_left : (x r p c : ℕ) → (IsAttached n r p x → ⊥) → (Carries n x p → IsOn n r x → ⊥) → IsDirect n r p c → IsDirect (network_left n (Some (failures.Link x))) r p c
  beside_left x r p c off away direct =
      still_direct n (Some (failures.Link x)) r p c refl (λ l carried on. other_link x l (λ same. away (rw same at carried) (rw same at on)))
      (λ l at. other_link x l (λ same. off (rw same at at))) direct

  -- and nothing else
  pub beside_lost : (x r p c : ℕ) → IsAttached n r p x ⊎ (Carries n x p × IsOn n r x) → IsDirect (network_left n (Some (failures.Link x))) r p c → ⊥
  beside_lost x r p c (inl at) direct = failed_link x (direct_up (Some (failures.Link x)) r p c x direct at)
  beside_lost x r p c (inr h) direct = failed_link x (carried_up (Some (failures.Link x)) r p c x direct h.0 h.1)

  -- where a router has failed, the others have what they had
  pub others_left : (x r p c : ℕ) → (r ≡ x → ⊥) → IsDirect n r p c → IsDirect (network_left n (Some (failures.Router x))) r p c
  others_left x r p c other direct = still_direct n (Some (failures.Router x)) r p c (other_router x r other) (λ l carried on. refl) (λ l at. refl) direct

  pub own_lost : (x r p c : ℕ) → r ≡ x → IsDirect (network_left n (Some (failures.Router x))) r p c → ⊥
  own_lost x r p c same direct =
      let up = (was_direct n (Some (failures.Router x)) r p c direct).1 in
      failed_router x (rw same at up)

-- links, routers and prefixes are as many
pub left_routers : (n : Network) (f : Option Failure) → length (network_left n f).routers ≡ length n.routers
left_routers n None = refl
left_routers n (Some f) = refl

-- who has a prefix is a router of the plan
pub direct_known : (n : Network) → IsLawful n → (r p c : ℕ) → IsDirect n r p c → r < length n.routers
direct_known n plan r p c (k, inl at) = plan.router_known at.2.0 r at.0 at.2.1.interface.cost (interface_of n at.2.0 r at.0 c at.2.1)
direct_known n plan r p c (k, inr own) = plan.owner_known k p r c own

-- a path after the failure is one before it, where no router has the prefix attached to what has failed
pub path_was : (n : Network) (f : Option Failure) (p : ℕ) → ((s l : ℕ) → IsAttached n s p l → is_link_up f l ≡ true) → (r : ℕ) (hops : List Hop) (v : ℕ) →
    IsPath (network_left n f) p r hops v → IsPath n p r hops v
path_was n f p up r [] v direct = (was_direct n f r p v direct).0
path_was n f p up r (h ∷ hops) v path =
    let own = was_cost n f r h.link path.0 path.2 in
    let near = path.3.neighbour in
    let there = was_cost n f h.to h.link near.there.0 near.there.1 in (
      path.0,
      path.1,
      own.0,
      record {
        neighbour = record { other = near.other; here = (path.0, own.0); there = (near.there.0, there.0) };
        goes_on = λ kept. path.3.goes_on (still_kept n f r p own.1 (λ l at. up r l at) kept);
        tells = λ at. path.3.tells (still_attached n f h.to p h.link at there.1 there.2);
      },
      path_was n f p up h.to hops path.1 path.4,
      path.5,
    )

-- so no metric is smaller after it
pub never_nearer : (n : Network) (f : Option Failure) (p : ℕ) → ((s l : ℕ) → IsAttached n s p l → is_link_up f l ≡ true) → (r v w : ℕ) → IsLeast n p r v → IsLeast (network_left n f) p r w → v ≤ w
never_nearer n f p up r v w before after = go after.reached
  where
    go : (w ≡ 16) ⊎ ((w < 16) × ((hops : List Hop) × IsPath (network_left n f) p r hops w)) → v ≤ w
    go (inl e) = omega (arith, e, reached_most n p r v before.reached)
    go (inr h) = before.least h.1.0 w (path_was n f p up r h.1.0 w h.1.1)

-- ---- what is left to a prefix

-- a prefix of the list, by its number
block_there : (xs : List Block) (p : ℕ) → p < length xs → slice_get xs p ≡ Some (block_at xs p)
block_there [] p lt = absurd (omega (arith, lt))
block_there (x ∷ xs) zero lt = refl
block_there (x ∷ xs) (suc p) lt = block_there xs p (omega (arith, lt))

module _ (n : Network) (plan : IsLawful n) (f : Option Failure) (p : ℕ) where
  -- whether a link exchanges the prefix
  abbrev free : ℕ → Bool
  free = exchanges n (block_at n.prefixes p)

  -- an interface of a router of the plan that is left to the prefix is one of the plan
  pub cost_own : (r l c : ℕ) → r < length n.routers → HasCost (left_to n f p) r l c →
      HasCost n r l c × (free l ≡ true) × (is_router_up f r ≡ true) × (is_link_up f l ≡ true)
  cost_own r l c lt (i, at) =
      let (its, e) = nets.its_own (network_left n f) free i r l c (omega (arith, lt, left_routers n f)) at in
      let (was, r_up, l_up) = was_cost n f r l c (i, its) in
      (was, e, r_up, l_up)

  -- and was one for it before
  cost_was : (r l c : ℕ) → r < length n.routers → HasCost (left_to n f p) r l c →
      HasCost (network_at n n.prefixes p) r l c × (free l ≡ true) × (is_router_up f r ≡ true) × (is_link_up f l ≡ true)
  cost_was r l c lt has =
      let (was, e, r_up, l_up) = cost_own r l c lt has in
      ((was.0, nets.stays_interface n free was.0 r l c was.1 e), e, r_up, l_up)

  pub cost_left : (r l c : ℕ) → HasCost n r l c → free l ≡ true → is_router_up f r ≡ true → is_link_up f l ≡ true → HasCost (left_to n f p) r l c
  cost_left r l c has e r_up l_up =
      let (i, at) = still_cost n f r l c has r_up l_up in
      (i, nets.stays_interface (network_left n f) free i r l c at e)

  -- and who has one on a link that exchanges the prefix is a router of the plan
  pub there_was : (s l c : ℕ) → free l ≡ true → HasCost (left_to n f p) s l c → s < length n.routers
  there_was s l c e (i, at) =
      let (q, was, whose) = nets.was_interface (network_left n f) free i s l c at in
      elim whose [
        | inl (is, same) ↦
            let its : IsInterface (network_left n f) i s l c = subst (λ (q : ℕ). IsInterface (network_left n f) i q l c) same was in
            let has = (was_cost n f s l c (i, its)).0 in
            plan.router_known has.0 s l c has.1
        | inr (shut, past) ↦ absurd (both_ways (free l) shut e)
      ]

  -- a prefix that is carried is exchanged there
  carrier_free : (l : ℕ) → Carries n l p → free l ≡ true
  carrier_free l on = nets.carrier_open n plan (block_at n.prefixes p) l p (block_there n.prefixes p (plan.prefix_known on.0 p _ on.1)) on

  -- what a router has, keeps and has attached, for the prefix and without it
  pub direct_left : (r v : ℕ) → IsDirect (network_left n f) r p v → IsDirect (left_to n f p) r p v
  direct_left r v (k, inr own) = (k, inr (nets.stays_owned (network_left n f) free k p r v own))
  direct_left r v (k, inl (l, place, (i, at))) =
      let (j, is, up) = was_place n f k p _ place in
      (k, inl (l, nets.stays_carried (network_left n f) free k p l place, (i, nets.stays_connected (network_left n f) free i r l v at (carrier_free l (j, is)))))

  pub direct_own : (r v : ℕ) → r < length n.routers → IsDirect (left_to n f p) r p v → IsDirect (network_left n f) r p v
  direct_own r v lt direct = nets.was_direct (network_left n f) free r p v (omega (arith, lt, left_routers n f)) direct

  pub kept_left : (r : ℕ) → IsKept (left_to n f p) r p ↔ IsKept (network_left n f) r p
  kept_left r = (nets.was_kept (network_left n f) free r p, nets.stays_kept (network_left n f) free r p)

  pub attached_own : (r l : ℕ) → IsAttached (left_to n f p) r p l → IsAttached n r p l × (free l ≡ true) × (is_router_up f r ≡ true) × (is_link_up f l ≡ true)
  attached_own r l at =
      let (its, e) = nets.was_attached (network_left n f) free r p l at in
      let (was, r_up, l_up) = was_attached n f r p l its in
      (was, e, r_up, l_up)

  pub attached_left : (r l : ℕ) → IsAttached n r p l → free l ≡ true → is_router_up f r ≡ true → is_link_up f l ≡ true → IsAttached (left_to n f p) r p l
  attached_left r l at e r_up l_up = nets.stays_attached (network_left n f) free r p l (still_attached n f r p l at r_up l_up) e

  -- what is left to the prefix is sound
  pub sound_left : IsSound (left_to n f p)
  sound_left = record {
    costs = λ r l c (i, at).
        let (s, its, whose) = nets.was_interface (network_left n f) free i r l c at in
        let has = (was_cost n f s l c (i, its)).0 in
        plan.cost_least has.0 s l c has.1;
    known = λ r l s lt near.
        let at : r < length n.routers = omega (arith, lt, left_routers n f) in
        let mine = cost_own r l near.here.0 at near.here.1 in
        let there = there_was s l near.there.0 mine.1 near.there.1 in
        omega (arith, there, left_routers n f);
  }

  direct_was : (r v : ℕ) → r < length n.routers → IsDirect (left_to n f p) r p v → IsDirect (network_at n n.prefixes p) r p v
  direct_was r v lt direct =
      nets.kept_direct n (nets.plan_network n plan) plan.router_known free r p v (λ l on. carrier_free l on) (was_direct n f r p v (direct_own r v lt direct)).0

  -- a path after the failure is one before it, where no router has the prefix attached to what has failed
  pub path_left : ((s l : ℕ) → IsAttached n s p l → is_link_up f l ≡ true) → (r : ℕ) (hops : List Hop) (v : ℕ) → r < length n.routers →
      IsPath (left_to n f p) p r hops v → IsPath (network_at n n.prefixes p) p r hops v
  path_left up r [] v lt direct = direct_was r v lt direct
  path_left up r (h ∷ hops) v lt path =
      let own = cost_was r h.link path.0 lt path.2 in
      let near = path.3.neighbour in
      let known = there_was h.to h.link near.there.0 own.1 near.there.1 in
      let there = cost_was h.to h.link near.there.0 known near.there.1 in (
        path.0,
        path.1,
        own.0,
        record {
          neighbour = record { other = near.other; here = (path.0, own.0); there = (near.there.0, there.0) };
          goes_on = λ kept. path.3.goes_on (nets.stays_kept (network_left n f) free r p (still_kept n f r p own.2 (λ l at. up r l at) (nets.was_kept n free r p kept)));
          tells = λ at.
              let was = nets.was_attached n free h.to p h.link at in
              path.3.tells (nets.stays_attached (network_left n f) free h.to p h.link (still_attached n f h.to p h.link was.0 there.2 there.3) was.1);
        },
        path_left up h.to hops path.1 known path.4,
        path.5,
      )

  -- so no metric is smaller after it
  pub not_nearer : ((s l : ℕ) → IsAttached n s p l → is_link_up f l ≡ true) → (r v w : ℕ) → r < length n.routers →
      IsLeast (network_at n n.prefixes p) p r v → IsLeast (left_to n f p) p r w → v ≤ w
  not_nearer up r v w lt before after = go after.reached
    where
      go : (w ≡ 16) ⊎ ((w < 16) × ((hops : List Hop) × IsPath (left_to n f p) p r hops w)) → v ≤ w
      go (inl e) = omega (arith, e, reached_most (network_at n n.prefixes p) p r v before.reached)
      go (inr h) = before.least h.1.0 w (path_left up r h.1.0 w lt h.1.1)
