-- Where a router shows something on each interface and no two metrics, and no route can be read, two interfaces show 16
-- and another a metric below.
use Rattle.std.proofs.Common.{◌≡◌, ◌≢◌, ℕ, length, slice_get, ◌<◌, ◌≤◌, ◌⊎◌, inl, inr, Option, None, Some, refl, sym, ◌∙◌, ap, arith}
use Rattle.std.proofs.lemmas.Bool.{cases_eq}
use Rattle.std.proofs.lemmas.Option.{slice_get_within, same_Some}
use Rattle.rip_plan.specs.declared.parts.Interface.{Interface}
use Rattle.rip_plan.specs.Network.{Network}
use Rattle.rip_plan.specs.Relations.{HasTwoInterfaces, IsAttached, IsInterface, IsLeaf}
use Rattle.rip_plan.specs.PrefixNetworks.{IsNetwork}
use Rattle.rip_table.specs.State.{State}
use Rattle.rip_check.specs.Firsts.{IsReadable, IsShownBelow, Shows16Twice, ShowsEach, ShowsTwo, ShowsTwoWays, ShowsWhereAttached}
use Rattle.rip_check.specs.Metrics.{IsInRange, metric_at}
use Rattle.rip_check.specs.Tables.{MayHoldBack, Route, Tells}
use Rattle.rip_check.specs.declared.way.Way.TheVariants.{Here, Over, Unreachable}
use Rattle.rip_check.proofs.ReadableLemmas.{fits_readable, two_fits}
use Rattle.rip_check.proofs.RouteLemmas.{kind_of}
use Rattle.rip_check.proofs.PlanLemmas.{find_below, held_back_once, holds_back_or_not}

-- interface i is router r's, and this holds
record IsOwn (n : Network) (r i : ℕ) (Q : Type 0) : Type 0 where
  own : Interface
  listed : slice_get n.interfaces i ≡ Some own
  its : own.router ≡ r
  shows : Q

-- it shows 16, or it does not
abbrev IsPoisoned : Network → State → ℕ → ℕ → ℕ → Type 0
IsPoisoned n shown r p i = IsOwn n r i (metric_at shown i p ≡ Some 16)

abbrev IsOther : Network → State → ℕ → ℕ → ℕ → Type 0
IsOther n shown r p i = IsOwn n r i (metric_at shown i p ≡ Some 16 → ⊥)

is_16 : (x : Option ℕ) → (x ≡ Some 16) ⊎ (x ≡ Some 16 → ⊥)
is_16 None = inr (λ e. cc e)
is_16 (Some m) = go (cases_eq m 16)
  where
    go : (m ≡ 16) ⊎ (m ≡ 16 → ⊥) → (Some m ≡ Some 16) ⊎ (Some m ≡ Some 16 → ⊥)
    go (inl e) = inl (ap Some e)
    go (inr differs) = inr (λ e. differs (same_Some _ _ e))

own_or_not : (n : Network) (r i : ℕ) (Q : Type 0) → Q ⊎ (Q → ⊥) → IsOwn n r i Q ⊎ (IsOwn n r i Q → ⊥)
own_or_not n r i Q s = go (slice_get n.interfaces i) refl s
  where
    go : (x : Option Interface) → slice_get n.interfaces i ≡ x → Q ⊎ (Q → ⊥) → IsOwn n r i Q ⊎ (IsOwn n r i Q → ⊥)
    go None e s = inr (λ h. cc (h.listed, e))
    go (Some x) e (inr not) = inr (λ h. not h.shows)
    go (Some x) e (inl shows) =
        elim (cases_eq x.router r) [
          | inl its ↦ inl (record { own = x; listed = e; its = its; shows = shows })
          | inr not ↦ inr (λ h. not (ap (λ (y : Interface). y.router) (same_Some _ _ (sym e ∙ h.listed)) ∙ h.its))
        ]

poisoned_or_not : (n : Network) (shown : State) (r p i : ℕ) → IsPoisoned n shown r p i ⊎ (IsPoisoned n shown r p i → ⊥)
poisoned_or_not n shown r p i = own_or_not n r i _ (is_16 (metric_at shown i p))

other_or_not : (n : Network) (shown : State) (r p i : ℕ) → IsOther n shown r p i ⊎ (IsOther n shown r p i → ⊥)
other_or_not n shown r p i = own_or_not n r i _ (turned (is_16 (metric_at shown i p)))
  where
    turned : {Q : Type 0} → Q ⊎ (Q → ⊥) → (Q → ⊥) ⊎ ((Q → ⊥) → ⊥)
    turned (inl h) = inr (λ not. not h)
    turned (inr not) = inl not

another_or_not : (n : Network) (shown : State) (r p i j : ℕ) → (IsPoisoned n shown r p j × (j ≢ i)) ⊎ (IsPoisoned n shown r p j × (j ≢ i) → ⊥)
another_or_not n shown r p i j = go (cases_eq j i) (poisoned_or_not n shown r p j)
  where
    go : (j ≡ i) ⊎ (j ≡ i → ⊥) → IsPoisoned n shown r p j ⊎ (IsPoisoned n shown r p j → ⊥) →
        (IsPoisoned n shown r p j × (j ≢ i)) ⊎ (IsPoisoned n shown r p j × (j ≢ i) → ⊥)
    go (inl same) x = inr (λ h. h.1 same)
    go (inr other) (inl h) = inl (h, other)
    go (inr other) (inr not) = inr (λ h. not h.0)

on_its_link : (n : Network) (shown : State) (r p i : ℕ) (h : IsPoisoned n shown r p i) → IsInterface n i r h.own.link h.own.cost
on_its_link n shown r p i h = record { interface = h.own; listed = h.listed; router = h.its; link = refl; cost = refl }

module _ (n : Network) (plan : IsNetwork n) (shown : State) (range : IsInRange n shown) (r p : ℕ)
    (no_two : ShowsTwo n shown r p → ⊥) (each : ShowsEach n shown r p) where
  said : (i l c : ℕ) → IsInterface n i r l c → (m : ℕ) × (metric_at shown i p ≡ Some m) × (1 ≤ m) × (m ≤ 16)
  said i l c has = go (metric_at shown i p) refl
    where
      go : (x : Option ℕ) → metric_at shown i p ≡ x → (m : ℕ) × (metric_at shown i p ≡ Some m) × (1 ≤ m) × (m ≤ 16)
      go None e = absurd (each i l c has e)
      go (Some m) e =
          let bounds = range i r l c p m has e in
          (m, e, bounds.0, bounds.1)

  -- an interface that does not show 16 shows a metric below
  below : (i l c : ℕ) → IsInterface n i r l c → (IsPoisoned n shown r p i → ⊥) → (m : ℕ) × (metric_at shown i p ≡ Some m) × (1 ≤ m) × (m < 16)
  below i l c has not =
      let h = said i l c has in
      elim (cases_eq h.0 16) [
        | inl e ↦ absurd (not (record { own = has.interface; listed = has.listed; its = has.router; shows = h.1 ∙ ap Some e }))
        | inr differs ↦ (h.0, h.1, h.2, strict h.0 h.3 differs)
      ]
    where
      strict : (m : ℕ) → m ≤ 16 → (m ≡ 16 → ⊥) → m < 16
      strict m most differs = omega (arith, most, differs)

  -- and all such show one metric
  same : (i j l k c d m v : ℕ) → IsInterface n i r l c → IsInterface n j r k d →
      metric_at shown i p ≡ Some m → m < 16 → metric_at shown j p ≡ Some v → v < 16 → v ≡ m
  same i j l k c d m v has there shows small shows' small' =
      elim (cases_eq v m) [
        | inl e ↦ e
        | inr differs ↦ absurd (no_two (
          j,
          i,
          v,
          m,
          record { link = k; cost = d; its = there; shows = shows'; below = small' },
          record { link = l; cost = c; its = has; shows = shows; below = small },
          differs,
        ))
      ]

  -- the route is the router's own, where each 16 stands where it may be held back, and nothing else does where the
  -- prefix is attached
  here_tells : (i l c m : ℕ) → IsInterface n i r l c → metric_at shown i p ≡ Some m → 1 ≤ m → m < 16 →
      ((j k d : ℕ) → IsInterface n j r k d → IsPoisoned n shown r p j → MayHoldBack n r p k) →
      ((j k d : ℕ) → IsInterface n j r k d → (IsPoisoned n shown r p j → ⊥) → IsAttached n r p k → ⊥) →
      Tells n shown r p (record { metric = m; way = Here })
  here_tells i l c m has shows least small held untold = record {
    way_fits = (least, small);
    as_told = λ j k d there.
        elim (poisoned_or_not n shown r p j) [
          | inl h ↦ inr (held j k d there h, inr h.shows)
          | inr not ↦
              let b = below j k d there not in
              inl (untold j k d there not, b.1 ∙ ap Some (same i j l k c d m b.0 has there shows small b.1 b.3))
        ];
  }

  -- or it goes over the one link with a 16, where it may not be held back
  over_tells : (i l c m o : ℕ) → IsInterface n i r l c → metric_at shown i p ≡ Some m → 1 ≤ m → m < 16 →
      (h : IsPoisoned n shown r p o) → ((j : ℕ) → IsPoisoned n shown r p j → j ≡ o) → (MayHoldBack n r p h.own.link → ⊥) →
      Tells n shown r p (record { metric = m; way = Over h.own.link })
  over_tells i l c m o has shows least small h only off =
      let its = on_its_link n shown r p o h in
      record {
        way_fits = (least, small, (h.own.cost, (o, its)), off);
        as_told = λ j k d there.
            elim (poisoned_or_not n shown r p j) [
              | inl g ↦
                  let there' : IsInterface n o r k d = rw (only j g) at there in
                  inl (ap (λ (y : Interface). y.link) (same_Some h.own _ (sym h.listed ∙ there'.listed)) ∙ there'.link, g.shows)
              | inr not ↦
                  let b = below j k d there not in
                  inr (λ e. not (moved j k d there e), b.1 ∙ ap Some (same i j l k c d m b.0 has there shows small b.1 b.3))
            ];
      }
    where
      moved : (j k d : ℕ) → IsInterface n j r k d → h.own.link ≡ k → IsPoisoned n shown r p j
      moved j k d there e =
          let its = on_its_link n shown r p o h in
          let its' : IsInterface n o r k h.own.cost = rw e at its in
          let number : o ≡ j = plan.one_on_link o j r k h.own.cost d its' there in
          rw number at h

  module _ (at : r < length n.routers) (two : HasTwoInterfaces n r) (unread : IsReadable n shown r p → ⊥)
      (apart : (l : ℕ) → ShowsWhereAttached n shown r p l → ⊥) where
    no_route : (t : Route) → Tells n shown r p t → ⊥
    no_route t tells = unread (fits_readable n plan shown range r p t at (two_fits n plan shown range r p t two tells))

    some_16 : ((j : ℕ) → IsPoisoned n shown r p j → ⊥) → ⊥
    some_16 none =
        let b = below two.0 two.2 two.4 two.6 (none two.0) in
        no_route _ (here_tells two.0 two.2 two.4 b.0 two.6 b.1 b.2 b.3 (λ j k d there h. absurd (none j h))
        (λ j k d there not on. apart k (on, λ i l c its. let s = below i l c its (none i) in (s.0, s.1, s.3))))

    -- an interface that shows a metric, where one alone shows 16
    other : (o : ℕ) → ((j : ℕ) → IsPoisoned n shown r p j → j ≡ o) → (i l c m : ℕ) × IsInterface n i r l c × (metric_at shown i p ≡ Some m) × (1 ≤ m) × (m < 16)
    other o only =
        elim (cases_eq two.0 o) [
          | inl e ↦
              let b = below two.1 two.3 two.5 two.7 (λ h. two.8 (e ∙ sym (only two.1 h))) in
              (two.1, two.3, two.5, b.0, two.7, b.1, b.2, b.3)
          | inr differs ↦
              let b = below two.0 two.2 two.4 two.6 (λ h. differs (only two.0 h)) in
              (two.0, two.2, two.4, b.0, two.6, b.1, b.2, b.3)
        ]

    another_16 : (o : ℕ) → (h : IsPoisoned n shown r p o) → ((j : ℕ) → IsPoisoned n shown r p j → j ≡ o) → ⊥
    another_16 o h only =
        let x = other o only in
        elim (holds_back_or_not n r p h.own.link) [
          | inl on ↦ no_route _ (here_tells x.0 x.1 x.2 x.3 x.4 x.5 x.6 x.7 (λ j k d there g. held j k d there g on) (λ j k d there not attached. elsewhere j k d there not attached on))
          | inr off ↦ no_route _ (over_tells x.0 x.1 x.2 x.3 o x.4 x.5 x.6 x.7 h only off)
        ]
      where
        elsewhere : (j k d : ℕ) → IsInterface n j r k d → (IsPoisoned n shown r p j → ⊥) → IsAttached n r p k → MayHoldBack n r p h.own.link → ⊥
        elsewhere j k d there not attached on =
            let its = on_its_link n shown r p o h in
            let link : h.own.link ≡ k = held_back_once n plan r p h.own.link k (h.own.cost, (o, its)) (d, (j, there)) on (inr attached) in
            let its' : IsInterface n o r k h.own.cost = rw link at its in
            let number : o ≡ j = plan.one_on_link o j r k h.own.cost d its' there in
            not (rw number at h)

        held : (j k d : ℕ) → IsInterface n j r k d → IsPoisoned n shown r p j → MayHoldBack n r p h.own.link → MayHoldBack n r p k
        held j k d there g on =
            let there' : IsInterface n o r k d = rw (only j g) at there in
            let link : h.own.link ≡ k = ap (λ (y : Interface). y.link) (same_Some h.own _ (sym h.listed ∙ there'.listed)) ∙ there'.link in
            rw link at on

    two_shown : Shows16Twice n shown r p
    two_shown =
        elim (find_below (IsPoisoned n shown r p) (poisoned_or_not n shown r p) (length n.interfaces)) [
          | inr none ↦ absurd (some_16 (λ j g. none j (slice_get_within n.interfaces j _ g.listed) g))
          | inl h ↦ second h.0 h.2
        ]
      where
        second : (o : ℕ) → IsPoisoned n shown r p o → Shows16Twice n shown r p
        second o h =
            elim (find_below (λ j. IsPoisoned n shown r p j × (j ≢ o)) (another_or_not n shown r p o) (length n.interfaces)) [
              | inl g ↦
                  let there = g.2.0 in (
                    o,
                    g.0,
                    h.own.link,
                    there.own.link,
                    h.own.cost,
                    there.own.cost,
                    λ e. g.2.1 (sym e),
                    on_its_link n shown r p o h,
                    on_its_link n shown r p g.0 there,
                    h.shows,
                    there.shows,
                  )
              | inr none ↦ absurd (another_16 o h (λ j g. only j g none))
            ]
          where
            only : (j : ℕ) → IsPoisoned n shown r p j → ((k : ℕ) → k < length n.interfaces → IsPoisoned n shown r p k × (k ≢ o) → ⊥) → j ≡ o
            only j g none =
                elim (cases_eq j o) [
                  | inl e ↦ e
                  | inr differs ↦ absurd (none j (slice_get_within n.interfaces j _ g.listed) (g, differs))
                ]

    -- where each shows 16, the route is unreachable
    all_tell : ((j k d : ℕ) → IsInterface n j r k d → metric_at shown j p ≡ Some 16) → Tells n shown r p (record { metric = 16; way = Unreachable })
    all_tell each_16 = record {
      way_fits = refl;
      as_told = λ j k d there. inr (each_16 j k d there);
    }

    below_shown : (i m : ℕ) × IsShownBelow n shown r p i m
    below_shown =
        elim (find_below (IsOther n shown r p) (other_or_not n shown r p) (length n.interfaces)) [
          | inl h ↦
              let o = h.2 in
              let there : IsInterface n h.0 r o.own.link o.own.cost = record { interface = o.own; listed = o.listed; router = o.its; link = refl; cost = refl } in
              let b = below h.0 o.own.link o.own.cost there (λ g. o.shows g.shows) in
              (h.0, b.0, record { link = o.own.link; cost = o.own.cost; its = there; shows = b.1; below = b.3 })
          | inr none ↦ absurd (no_route _ (all_tell (λ j k d there. each_16 j k d there none)))
        ]
      where
        each_16 : (j k d : ℕ) → IsInterface n j r k d → ((i : ℕ) → i < length n.interfaces → IsOther n shown r p i → ⊥) → metric_at shown j p ≡ Some 16
        each_16 j k d there none =
            elim (is_16 (metric_at shown j p)) [
              | inl is ↦ is
              | inr not ↦ absurd (none j (slice_get_within n.interfaces j _ there.listed) (record { own = there.interface; listed = there.listed; its = there.router; shows = not }))
            ]

  -- a leaf shows its route, or that it has none
  leaf_read : (i l c : ℕ) → IsLeaf n r i l c → ((l : ℕ) → ShowsWhereAttached n shown r p l → ⊥) → IsReadable n shown r p
  leaf_read i l c leaf apart =
      elim (poisoned_or_not n shown r p i) [
        | inl h ↦ (
          record { metric = 16; way = Unreachable },
          record { way_fits = refl; as_told = λ j k d there. inr (let e : j ≡ i = leaf.only j k d there in rw e h.shows) },
          inr (inl (i, l, c, leaf)),
        )
        | inr not ↦
            let b = below i l c leaf.has not in (
              record { metric = b.0; way = Here },
              here_tells i l c b.0 leaf.has b.1 b.2 b.3 (λ j k d there h. absurd (not (let e : j ≡ i = leaf.only j k d there in rw e at h)))
                  (λ j k d there other attached. apart k (attached, λ x y z its. let s = below x y z its (λ h. not (let e : x ≡ i = leaf.only x y z its in rw e at h)) in (s.0, s.1, s.3))),
              inr (inl (i, l, c, leaf)),
            )
      ]

  pub two_ways_shown : r < length n.routers → ((l : ℕ) → ShowsWhereAttached n shown r p l → ⊥) → (IsReadable n shown r p → ⊥) → ShowsTwoWays n shown r p
  two_ways_shown at apart unread =
      elim (kind_of n r) [
        | inl two ↦ (two_shown at two unread apart, below_shown at two unread apart)
        | inr (inl (i, l, c, leaf)) ↦ absurd (unread (leaf_read i l c leaf apart))
        | inr (inr off) ↦ absurd (unread (record { metric = 16; way = Unreachable }, record { way_fits = refl; as_told = λ i l d h. absurd (off i l d h) }, inr (inr off)))
      ]
