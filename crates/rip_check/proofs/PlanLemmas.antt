-- What a plan says of the prefixes of links and of those that routers keep.
use Rattle.std.proofs.Common.{◌≡◌, ℕ, zero, suc, length, slice_get, ◌<◌, ◌≤◌, ◌⊎◌, ◌↔◌, Decides, Bool, true, false, not, inl, inr, Option, None, Some, refl, sym, ◌∙◌, ap, arith}
use Rattle.rip_plan.proofs.LookupLemmas.{interface_of, one_seat, own_says}
use Rattle.std.specs.Option.{option_eq}
use Rattle.std.specs.Prelude.{eqb}
use Rattle.std.proofs.lemmas.Bool.{cases_eq, eqb-true, eq-eqb}
use Rattle.std.proofs.lemmas.Option.{slice_get_within, same_Some}
use Rattle.rip_plan.specs.declared.parts.OwnPrefix.{OwnPrefix}
use Rattle.rip_plan.specs.declared.parts.Seat.{Seat}
use Rattle.rip_plan.specs.declared.parts.Seat.TheVariants.{Link, Own}
use Rattle.rip_plan.specs.declared.parts.Place.{Place}
use Rattle.rip_plan.specs.Network.{Network}
use Rattle.rip_plan.specs.Relations.{Carries, HasCost, IsAttached, IsAttachedAt, IsConnected, IsDirect, IsInterface, IsKept, IsOn, IsOwnAt, IsOwnWith, IsPlace, Touches}
use Rattle.rip_plan.specs.PrefixNetworks.{IsNetwork}
use Rattle.rip_check.specs.Tables.{MayHoldBack}

-- a search below a bound
pub find_below : (P : ℕ → Type 0) → ((k : ℕ) → P k ⊎ (P k → ⊥)) → (bound : ℕ) → ((k : ℕ) × (k < bound) × P k) ⊎ ((k : ℕ) → k < bound → P k → ⊥)
find_below P test zero = inr (λ k lt h. absurd (omega arith))
find_below P test (suc b) = go (test b) (find_below P test b)
  where
    go : P b ⊎ (P b → ⊥) → ((k : ℕ) × (k < b) × P k) ⊎ ((k : ℕ) → k < b → P k → ⊥) → ((k : ℕ) × (k < suc b) × P k) ⊎ ((k : ℕ) → k < suc b → P k → ⊥)
    go (inl h) rest = inl (b, omega arith, h)
    go (inr not) (inl h) = inl (h.0, omega (arith, h.1), h.2)
    go (inr not) (inr none) = inr (λ k lt h. last k lt h (cases_eq k b))
      where
        last : (k : ℕ) → k < suc b → P k → (k ≡ b) ⊎ (k ≡ b → ⊥) → ⊥
        last k lt h (inl e) = not (rw e at h)
        last k lt h (inr differs) = none k (omega arith) h

-- a router's own prefix at another place
abbrev pub own_moved : {n m : Network} {k j p r : ℕ} {Says : OwnPrefix → Type 0} → (h : IsOwnWith n k p r Says) → IsPlace m j p (Own h.own) → IsOwnWith m j p r Says
own_moved h place = record { own = h.own; place = place; router = h.router; says = h.says }

-- whether a place has a seat on the link
place_case : (n : Network) (l p k : ℕ) (x : Place) (s : Seat) → slice_get n.places k ≡ Some x → x.seat ≡ s → (x.prefix ≡ p) ⊎ (x.prefix ≡ p → ⊥) →
    ((m : ℕ) → s ≡ Link m → (m ≡ l) ⊎ (m ≡ l → ⊥)) → IsPlace n k p (Link l) ⊎ (IsPlace n k p (Link l) → ⊥)
place_case n l p k x s at is (inr differs) test = inr (λ h. differs (ap (λ (y : Place). y.prefix) (same_Some _ _ (sym at ∙ h.listed))))
place_case n l p k x (Own own) at is (inl same) test =
    inr (λ h. let e : Own own ≡ Link l = sym is ∙ ap (λ (y : Place). y.seat) (same_Some _ _ (sym at ∙ h.listed)) in cc e)
place_case n l p k x (Link m) at is (inl same) test =
    elim (test m refl) [
      | inl e ↦
          let whole : x ≡ record { prefix = p; seat = Link l } = λ i. record { prefix = same i; seat = (is ∙ ap Link e) i } in
          inl (record { listed = at ∙ ap Some whole })
      | inr differs ↦
          inr (λ h. let e : Link m ≡ Link l = sym is ∙ ap (λ (y : Place). y.seat) (same_Some _ _ (sym at ∙ h.listed)) in differs (cc e))
    ]

place_or_not : (n : Network) (l p k : ℕ) → IsPlace n k p (Link l) ⊎ (IsPlace n k p (Link l) → ⊥)
place_or_not n l p k = go (slice_get n.places k) refl
  where
    go : (x : Option Place) → slice_get n.places k ≡ x → IsPlace n k p (Link l) ⊎ (IsPlace n k p (Link l) → ⊥)
    go None e = inr (λ h. cc (h.listed, e))
    go (Some x) e = place_case n l p k x x.seat e refl (cases_eq x.prefix p) (λ m is. cases_eq m l)

pub carries_or_not : (n : Network) (l p : ℕ) → Carries n l p ⊎ (Carries n l p → ⊥)
carries_or_not n l p =
    elim (find_below (λ k. IsPlace n k p (Link l)) (place_or_not n l p) (length n.places)) [
      | inl h ↦ inl (h.0, h.2)
      | inr none ↦ inr (λ h. none h.0 (slice_get_within n.places h.0 _ h.1.listed) h.1)
    ]

-- whether a place is the prefix as the router's own, attached to the link
attached_case : (n : Network) (r p l k : ℕ) (x : Place) (s : Seat) → slice_get n.places k ≡ Some x → x.seat ≡ s → (x.prefix ≡ p) ⊎ (x.prefix ≡ p → ⊥) →
    IsAttachedAt n k p r l ⊎ (IsAttachedAt n k p r l → ⊥)
attached_case n r p l k x s at is (inr differs) = inr (λ h. differs (ap (λ (y : Place). y.prefix) (same_Some _ _ (sym at ∙ h.place.listed))))
attached_case n r p l k x (Link m) at is (inl same) =
    inr (λ h. let e : Link m ≡ Own h.own = sym is ∙ ap (λ (y : Place). y.seat) (same_Some _ _ (sym at ∙ h.place.listed)) in cc e)
attached_case n r p l k x (Own own) at is (inl same) =
    elim (cases_eq own.router r) [
      | inl router ↦ elim (names own.link) [
        | inl link ↦
            let whole : x ≡ record { prefix = p; seat = Own own } = λ i. record { prefix = same i; seat = is i } in
            inl (record { own = own; place = record { listed = at ∙ ap Some whole }; router = router; says = link })
        | inr differs ↦ inr (λ h. differs (ap (λ (o : OwnPrefix). o.link) (the_own h) ∙ h.says))
      ]
      | inr differs ↦ inr (λ h. differs (ap (λ (o : OwnPrefix). o.router) (the_own h) ∙ h.router))
    ]
  where
    the_own : (h : IsAttachedAt n k p r l) → own ≡ h.own
    the_own h = let e : Own own ≡ Own h.own = sym is ∙ ap (λ (y : Place). y.seat) (same_Some _ _ (sym at ∙ h.place.listed)) in cc e

    names : (link : Option ℕ) → (link ≡ Some l) ⊎ (link ≡ Some l → ⊥)
    names None = inr (λ e. cc e)
    names (Some m) = elim (cases_eq m l) [ inl e ↦ inl (ap Some e) | inr differs ↦ inr (λ e. differs (same_Some _ _ e)) ]

attached_at_or_not : (n : Network) (r p l k : ℕ) → IsAttachedAt n k p r l ⊎ (IsAttachedAt n k p r l → ⊥)
attached_at_or_not n r p l k = go (slice_get n.places k) refl
  where
    go : (x : Option Place) → slice_get n.places k ≡ x → IsAttachedAt n k p r l ⊎ (IsAttachedAt n k p r l → ⊥)
    go None e = inr (λ h. cc (h.place.listed, e))
    go (Some x) e = attached_case n r p l k x x.seat e refl (cases_eq x.prefix p)

pub attached_or_not : (n : Network) (r p l : ℕ) → IsAttached n r p l ⊎ (IsAttached n r p l → ⊥)
attached_or_not n r p l =
    elim (find_below (λ k. IsAttachedAt n k p r l) (attached_at_or_not n r p l) (length n.places)) [
      | inl h ↦ inl (h.0, h.2)
      | inr none ↦ inr (λ h. none h.0 (slice_get_within n.places h.0 _ h.1.place.listed) h.1)
    ]

pub holds_back_or_not : (n : Network) (r p l : ℕ) → MayHoldBack n r p l ⊎ (MayHoldBack n r p l → ⊥)
holds_back_or_not n r p l = go (carries_or_not n l p) (attached_or_not n r p l)
  where
    go : Carries n l p ⊎ (Carries n l p → ⊥) → IsAttached n r p l ⊎ (IsAttached n r p l → ⊥) → MayHoldBack n r p l ⊎ (MayHoldBack n r p l → ⊥)
    go (inl on) second = inl (inl on)
    go (inr off) (inl at) = inl (inr at)
    go (inr off) (inr not) = inr (λ h. elim h [ inl on ↦ off on | inr at ↦ not at ])

-- the test for the link to which the prefix is attached
pub attached_test : (n : Network) (r p l : ℕ) (o : Option ℕ) (b : Bool) → ((k : ℕ) → (o ≡ Some k) ↔ IsAttached n r p k) → b ≡ option_eq eqb o (Some l) → Decides b (IsAttached n r p l)
attached_test n r p l None b exact e = (λ t. absurd (let clash : false ≡ true = sym e ∙ t in cc clash), λ at. absurd (let none : None ≡ Some l = (exact l).1 at in cc none))
attached_test n r p l (Some m) b exact e =
    (λ t. (exact l).0 (ap Some (eqb-true m l (sym e ∙ t))), λ at. e ∙ eq-eqb m l (same_Some _ _ ((exact l).1 at)))

-- and the test for any other link
pub attached_ne : (n : Network) (r p l : ℕ) (o : Option ℕ) (b : Bool) → ((k : ℕ) → (o ≡ Some k) ↔ IsAttached n r p k) → b ≡ not (option_eq eqb o (Some l)) →
    (b ≡ true → IsAttached n r p l → ⊥) × (b ≡ false → IsAttached n r p l)
attached_ne n r p l o b exact e = go (option_eq eqb o (Some l)) refl e
  where
    go : (x : Bool) → x ≡ option_eq eqb o (Some l) → b ≡ not x → (b ≡ true → IsAttached n r p l → ⊥) × (b ≡ false → IsAttached n r p l)
    go true f e = (λ t at. let clash : false ≡ true = sym e ∙ t in cc clash, λ t. (attached_test n r p l o true exact f).0 refl)
    go false f e = (
      λ t at. let clash : false ≡ true = (attached_test n r p l o false exact f).1 at in cc clash,
      λ t. absurd (let clash : true ≡ false = sym e ∙ t in cc clash),
    )

-- ---- direct metrics

-- the direct metric of an interface
pub its_direct : (n : Network) (i r l c : ℕ) → (h : IsInterface n i r l c) → IsConnected n i r l h.interface.direct
its_direct n i r l c h = record { interface = h.interface; listed = h.listed; router = h.router; link = h.link; direct = refl }

-- on a link of the prefix a router has it at no more than the link costs it
pub carried_direct : (n : Network) → IsNetwork n → (r l c p : ℕ) → HasCost n r l c → Carries n l p → (d : ℕ) × IsDirect n r p d × (d ≤ c)
carried_direct n plan r l c p has on =
    let there = its_direct n has.0 r l c has.1 in
    (has.1.interface.direct, (on.0, inl (l, on.1, (has.0, there))), plan.direct_most has.0 r l c has.1.interface.direct has.1 there)

pub attached_kept : (n : Network) (r p l : ℕ) → IsAttached n r p l → IsKept n r p
attached_kept n r p l at = inr (l, at)

-- what is kept is the router's own
pub kept_own : (n : Network) (r p : ℕ) → IsKept n r p → (k c : ℕ) × IsOwnAt n k p r c
kept_own n r p (inl h) = (h.0, h.1.own.cost, own_says h.1 refl)
kept_own n r p (inr h) = (h.1.0, h.1.1.own.cost, own_says h.1.1 refl)

module _ (n : Network) (plan : IsNetwork n) where
  -- a router on a link of the prefix does not keep it
  pub not_kept_there : (r l p : ℕ) → IsOn n r l → Carries n l p → IsKept n r p → ⊥
  not_kept_there r l p on carried kept =
      let own = kept_own n r p kept in
      let has = on.1 in
      let there = its_direct n has.0 r l on.0 has.1 in
      let same : carried.0 ≡ own.0 = plan.touched_once carried.0 own.0 p r has.1.interface.direct own.1 (inl (l, carried.1, (has.0, there))) (inr own.2) in
      let place : IsPlace n own.0 p (Link l) = rw same at carried.1 in
      let seats : Link l ≡ Own own.2.own = one_seat n own.0 p (Link l) _ place own.2.place in
      cc seats

  -- and a prefix is attached to one link
  pub attached_once : (r p l k : ℕ) → IsAttached n r p l → IsAttached n r p k → l ≡ k
  attached_once r p l k a b =
      let same : a.0 ≡ b.0 = plan.touched_once a.0 b.0 p r a.1.own.cost b.1.own.cost (inr (own_says a.1 refl)) (inr (own_says b.1 refl)) in
      let place : IsPlace n b.0 p (Own a.1.own) = rw same at a.1.place in
      let seats : Own a.1.own ≡ Own b.1.own = one_seat n b.0 p _ _ place b.1.place in
      let one : a.1.own ≡ b.1.own = cc seats in
      same_Some _ _ (sym a.1.says ∙ ap (λ (o : OwnPrefix). o.link) one ∙ b.1.says)

  -- one of a router's links at most carries a prefix
  carried_link : (r p l k : ℕ) → IsOn n r l → IsOn n r k → Carries n l p → Carries n k p → l ≡ k
  carried_link r p l k a b x y =
      let here = its_direct n a.1.0 r l a.0 a.1.1 in
      let there = its_direct n b.1.0 r k b.0 b.1.1 in
      let same : x.0 ≡ y.0 = plan.touched_once x.0 y.0 p r a.1.1.interface.direct b.1.1.interface.direct (inl (l, x.1, (a.1.0, here))) (inl (k, y.1, (b.1.0, there))) in
      let place : IsPlace n y.0 p (Link l) = rw same at x.1 in
      let seats : Link l ≡ Link k = one_seat n y.0 p (Link l) (Link k) place y.1 in
      cc seats

  -- on one of its links at most a router may hold back a route
  pub held_back_once : (r p l k : ℕ) → IsOn n r l → IsOn n r k → MayHoldBack n r p l → MayHoldBack n r p k → l ≡ k
  held_back_once r p l k a b (inl x) (inl y) = carried_link r p l k a b x y
  held_back_once r p l k a b (inl x) (inr y) = absurd (not_kept_there r l p a x (attached_kept n r p k y))
  held_back_once r p l k a b (inr x) (inl y) = absurd (not_kept_there r k p b y (attached_kept n r p l x))
  held_back_once r p l k a b (inr x) (inr y) = attached_once r p l k x y

  -- where a router may hold back its route, it has the prefix itself
  pub held_back_direct : (r p l : ℕ) → IsOn n r l → MayHoldBack n r p l → (d : ℕ) × IsDirect n r p d
  held_back_direct r p l on (inl x) = let h = carried_direct n plan r l on.0 p on.1 x in (h.0, h.1)
  held_back_direct r p l on (inr x) = (x.1.own.cost, (x.0, inr (own_says x.1 refl)))

  pub direct_least : (r p d : ℕ) → IsDirect n r p d → 1 ≤ d
  direct_least r p d h = go h.1
    where
      go : Touches n h.0 p r d → 1 ≤ d
      go (inl x) = plan.direct_least x.2.0 r x.0 d x.2.1
      go (inr x) = plan.own_cost_least h.0 p r d x

  pub direct_most : (r p d : ℕ) → IsDirect n r p d → d ≤ 15
  direct_most r p d h = go h.1
    where
      go : Touches n h.0 p r d → d ≤ 15
      go (inl x) =
          let its = interface_of n x.2.0 r x.0 d x.2.1 in
          omega (arith, plan.direct_most x.2.0 r x.0 x.2.1.interface.cost d its x.2.1, plan.cost_most x.2.0 r x.0 x.2.1.interface.cost its)
      go (inr x) = plan.own_cost_most h.0 p r d x
