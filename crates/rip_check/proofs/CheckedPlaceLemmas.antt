-- Tests of tables that are written out, and what they tell: that they are shown, and which places hold.
use Rattle.std.proofs.Common.{◌≡◌, ℕ, ◌+◌, ◌<◌, ◌≤◌, ◌⊎◌, inl, inr, min, unwrap_or, Bool, true, false, not, ◌&&◌, ◌||◌, ◌==◌, nat_le, nat_lt, length, Option, None, Some, slice_get, refl, sym, ◌∙◌, ap, arith}
use Rattle.std.proofs.lemmas.Bool.{and_parts, and_from, or_cases, or_left, or_right, not-true, not_from_false, both_ways, eqb-true, eqb-false, false_from_ne_true, leb-true, ltb-true, eq-eqb, ne_eqb}
use Rattle.rip_plan.specs.declared.parts.Seat.{Seat}
use Rattle.rip_plan.specs.declared.parts.Seat.TheVariants.{Link, Own}
use Rattle.rip_plan.specs.declared.parts.Place.{Place}
use Rattle.rip_plan.specs.Network.{Network}
use Rattle.rip_plan.specs.PrefixNetworks.{exchanges}
use Rattle.rip_plan.specs.Relations.{Carries, IsAttached, IsAttachedAt, IsConnected, IsDirect, IsInterface, IsKept, IsLawful, IsPlace, Touches}
use Rattle.rip_plan.proofs.PrefixNetworkLemmas.{exchange}
use Rattle.rip_table.specs.State.{State}
use Rattle.rip_check.specs.Networks.{block_at, network_at}
use Rattle.rip_check.specs.declared.way.Way.{Way}
use Rattle.rip_check.specs.declared.way.Way.TheVariants.{Unreachable, Here, Over}
use Rattle.rip_check.specs.Tables.{Tables, Route, FitsWay, IsSilent, MayHoldBack, MayShow, Offers, IsLeastOffer, IsHiddenRoute, FitsShown, FitsThere, IsHeard, IsQuiet, Shows}
use Rattle.rip_check.specs.Settled.{IsChoice, IsGiven, Holds, HoldsAll}
use Rattle.rip_check.proofs.CheckingLemmas.{each, each_gives, some, some_gives, some_holds, below, below_gives, when, when_gives, is_link, link_of}
use Rattle.rip_check.specs.Metrics.{metric_at}

same : (a : ℕ) → (a == a) ≡ true
same a = eq-eqb a a refl

-- ---- direct costs

abbrev each_cost : Network → ℕ → (ℕ → Bool) → Seat → Bool
each_cost n r test (Link l) = each (λ i x. when ((x.router == r) && (x.link == l)) (test x.direct)) n.interfaces
each_cost n r test (Own own) = when (own.router == r) (test own.cost)

abbrev pub each_direct : Network → ℕ → ℕ → (ℕ → Bool) → Bool
each_direct n r p test = each (λ k q. when (q.prefix == p) (each_cost n r test q.seat)) n.places

each_direct_gives : (n : Network) (r p : ℕ) (test : ℕ → Bool) → each_direct n r p test ≡ true → (v : ℕ) → IsDirect n r p v → test v ≡ true
each_direct_gives n r p test ok v d = go d.0 d.1
  where
    at : (k : ℕ) (s : Seat) → IsPlace n k p s → each_cost n r test s ≡ true
    at k s place = when_gives (p == p) (each_cost n r test s) (each_gives (λ k q. when (q.prefix == p) (each_cost n r test q.seat)) n.places ok k _ place.listed) (same p)

    go : (k : ℕ) → Touches n k p r v → test v ≡ true
    go k (inl (l, place, (i, on))) =
        let x = on.interface in
        let holds = when_gives ((x.router == r) && (x.link == l)) (test x.direct)
        (each_gives (λ i x. when ((x.router == r) && (x.link == l)) (test x.direct)) n.interfaces (at k (Link l) place) i x on.listed)
        (and_from _ _ (eq-eqb x.router r on.router) (eq-eqb x.link l on.link)) in
        rw on.direct at holds
    go k (inr h) = rw h.says at (when_gives (h.own.router == r) (test h.own.cost) (at k (Own h.own) h.place) (eq-eqb _ _ h.router))

-- no place of the prefix touches the router
pub no_direct : (n : Network) (r p : ℕ) → each_direct n r p (λ v. false) ≡ true → (v : ℕ) → IsDirect n r p v → ⊥
no_direct n r p ok v d = let e = each_direct_gives n r p (λ v. false) ok v d in cc e

abbrev some_cost : Network → ℕ → ℕ → Seat → Bool
some_cost n r m (Link l) = some (λ i x. ((x.router == r) && (x.link == l)) && (x.direct == m)) n.interfaces
some_cost n r m (Own own) = (own.router == r) && (own.cost == m)

abbrev is_direct : Network → ℕ → ℕ → ℕ → Bool
is_direct n r p m = some (λ k q. (q.prefix == p) && some_cost n r m q.seat) n.places

is_direct_gives : (n : Network) (r p m : ℕ) → is_direct n r p m ≡ true → IsDirect n r p m
is_direct_gives n r p m ok =
    let h = some_gives (λ k q. (q.prefix == p) && some_cost n r m q.seat) n.places ok in
    let parts = and_parts _ _ h.3 in
    go h.0 h.1 h.1.seat h.2 refl (eqb-true _ _ parts.0) parts.1
  where
    place_at : (k : ℕ) (q : Place) (s : Seat) → slice_get n.places k ≡ Some q → q.seat ≡ s → q.prefix ≡ p → IsPlace n k p s
    place_at k q s at e is =
        let there : IsPlace n k q.prefix s = record { listed = at ∙ ap (λ (t : Seat). Some (record { prefix = q.prefix; seat = t })) e } in
        rw is at there

    go : (k : ℕ) (q : Place) (s : Seat) → slice_get n.places k ≡ Some q → q.seat ≡ s → q.prefix ≡ p → some_cost n r m s ≡ true → IsDirect n r p m
    go k q (Link l) at e is costs =
        let h = some_gives (λ i x. ((x.router == r) && (x.link == l)) && (x.direct == m)) n.interfaces costs in
        let parts = and_parts _ _ h.3 in
        let where_ = and_parts _ _ parts.0 in
        let its : IsConnected n h.0 r l m = record { interface = h.1; listed = h.2; router = eqb-true _ _ where_.0; link = eqb-true _ _ where_.1; direct = eqb-true _ _ parts.1 } in
        (k, inl (l, place_at k q (Link l) at e is, (h.0, its)))
    go k q (Own own) at e is costs =
        let parts = and_parts (own.router == r) (own.cost == m) costs in
        (k, inr (record { own = own; place = place_at k q (Own own) at e is; router = eqb-true _ _ parts.0; says = eqb-true _ _ parts.1 }))

-- ---- what is kept

-- the prefix is the router's own, attached to the link
abbrev names_link : ℕ → Option ℕ → Bool
names_link l None = false
names_link l (Some m) = m == l

abbrev attaches : ℕ → ℕ → Seat → Bool
attaches r l (Link m) = false
attaches r l (Own own) = (own.router == r) && names_link l own.link

abbrev attached : Network → ℕ → ℕ → ℕ → Bool
attached n r p l = some (λ k q. (q.prefix == p) && attaches r l q.seat) n.places

attached_gives : (n : Network) (r p l : ℕ) → attached n r p l ≡ true → IsAttached n r p l
attached_gives n r p l ok =
    let h = some_gives (λ k q. (q.prefix == p) && attaches r l q.seat) n.places ok in
    let parts = and_parts (h.1.prefix == p) _ h.3 in
    let there : IsPlace n h.0 h.1.prefix h.1.seat = record { listed = h.2 } in
    (h.0, go h.0 h.1.seat (rw (eqb-true _ _ parts.0) at there) parts.1)
  where
    named : (link : Option ℕ) → names_link l link ≡ true → link ≡ Some l
    named None e = cc e
    named (Some m) e = ap Some (eqb-true m l e)

    go : (k : ℕ) (s : Seat) → IsPlace n k p s → attaches r l s ≡ true → IsAttachedAt n k p r l
    go k (Link m) there e = cc e
    go k (Own own) there e =
        let h = and_parts (own.router == r) (names_link l own.link) e in
        record { own = own; place = there; router = eqb-true _ _ h.0; says = named own.link h.1 }

attached_holds : (n : Network) (r p l : ℕ) → IsAttached n r p l → attached n r p l ≡ true
attached_holds n r p l at =
    some_holds (λ k q. (q.prefix == p) && attaches r l q.seat) n.places at.0 _ at.1.place.listed (and_from _ _ (same p) (and_from _ _ (eq-eqb _ _ at.1.router) (rw at.1.says (same l))))

pub not_attached : (n : Network) (r p l : ℕ) → not (attached n r p l) ≡ true → IsAttached n r p l → ⊥
not_attached n r p l ok at = both_ways (attached n r p l) (not-true _ ok) (attached_holds n r p l at)

-- the router keeps the prefix
abbrev is_some_link : Option ℕ → Bool
is_some_link None = false
is_some_link (Some l) = true

abbrev keeps_seat : ℕ → Seat → Bool
keeps_seat r (Link l) = false
keeps_seat r (Own own) = (own.router == r) && (own.kept || is_some_link own.link)

abbrev pub keeps : Network → ℕ → ℕ → Bool
keeps n r p = some (λ k q. (q.prefix == p) && keeps_seat r q.seat) n.places

keeps_holds : (n : Network) (r p : ℕ) → IsKept n r p → keeps n r p ≡ true
keeps_holds n r p (inl (k, h)) =
    some_holds (λ k q. (q.prefix == p) && keeps_seat r q.seat) n.places k _ h.place.listed (and_from _ _ (same p) (and_from _ _ (eq-eqb _ _ h.router) (or_left _ _ h.says)))
keeps_holds n r p (inr (l, (k, h))) =
    some_holds (λ k q. (q.prefix == p) && keeps_seat r q.seat) n.places k _ h.place.listed (and_from _ _ (same p) (and_from _ _ (eq-eqb _ _ h.router) (or_right h.own.kept _ (rw h.says refl))))

keeps_gives : (n : Network) (r p : ℕ) → keeps n r p ≡ true → IsKept n r p
keeps_gives n r p ok =
    let h = some_gives (λ k q. (q.prefix == p) && keeps_seat r q.seat) n.places ok in
    let parts = and_parts (h.1.prefix == p) _ h.3 in
    let there : IsPlace n h.0 h.1.prefix h.1.seat = record { listed = h.2 } in
    go h.0 h.1.seat (rw (eqb-true _ _ parts.0) at there) parts.1
  where
    the_link : (link : Option ℕ) → is_some_link link ≡ true → (l : ℕ) × (link ≡ Some l)
    the_link None e = cc e
    the_link (Some l) e = (l, refl)

    go : (k : ℕ) (s : Seat) → IsPlace n k p s → keeps_seat r s ≡ true → IsKept n r p
    go k (Link m) there e = cc e
    go k (Own own) there e =
        let h = and_parts (own.router == r) _ e in
        let router = eqb-true own.router r h.0 in
        elim (or_cases own.kept (is_some_link own.link) h.1) [
          | inl kept ↦ inl (k, record { own = own; place = there; router = router; says = kept })
          | inr some ↦ let (l, is) = the_link own.link some in inr (l, (k, record { own = own; place = there; router = router; says = is }))
        ]

pub takes : (n : Network) (r p : ℕ) → not (keeps n r p) ≡ true → IsKept n r p → ⊥
takes n r p ok kept = both_ways (keeps n r p) (not-true _ ok) (keeps_holds n r p kept)

-- ---- offers

abbrev offer : State → ℕ → ℕ → ℕ → ℕ
offer shown c j p = min 16 (c + unwrap_or (metric_at shown j p) 16)

abbrev each_offer : Network → State → ℕ → ℕ → (ℕ → Bool) → Bool
each_offer n shown r p test =
    each (λ i x. when (x.router == r) (each (λ j y. when ((y.link == x.link) && not (y.router == r)) (test (offer shown x.cost j p))) n.interfaces)) n.interfaces

each_offer_gives : (n : Network) (shown : State) (r p : ℕ) (test : ℕ → Bool) → each_offer n shown r p test ≡ true → (l s v : ℕ) → Offers n shown r l s p v → test v ≡ true
each_offer_gives n shown r p test ok l s v o =
    let own = o.here.1 in
    let x = own.interface in
    let y = o.there.interface in
    let here = when_gives (x.router == r) _
    (each_gives (λ i x. when (x.router == r) (each (λ j y. when ((y.link == x.link) && not (y.router == r)) (test (offer shown x.cost j p))) n.interfaces)) n.interfaces ok o.here.0 x own.listed)
    (eq-eqb x.router r own.router) in
    let there = when_gives ((y.link == x.link) && not (y.router == r)) (test (offer shown x.cost o.interface p))
    (each_gives (λ j y. when ((y.link == x.link) && not (y.router == r)) (test (offer shown x.cost j p))) n.interfaces here o.interface y o.there.listed)
    (and_from _ _ (eq-eqb y.link x.link (o.there.link ∙ sym own.link)) (not_from_false _ (ne_eqb y.router r (λ e. o.neighbour.other (sym o.there.router ∙ e))))) in
    rw (o.value, ← own.cost) there

abbrev some_offer : Network → State → ℕ → ℕ → ℕ → ℕ → Bool
some_offer n shown r l p m =
    some (λ i x. ((x.router == r) && (x.link == l)) && some (λ j y. ((y.link == l) && not (y.router == r)) && (offer shown x.cost j p == m)) n.interfaces) n.interfaces

some_offer_gives : (n : Network) (shown : State) (r l p m : ℕ) → some_offer n shown r l p m ≡ true → (s : ℕ) × Offers n shown r l s p m
some_offer_gives n shown r l p m ok =
    let h = some_gives (λ i x. ((x.router == r) && (x.link == l)) && some (λ j y. ((y.link == l) && not (y.router == r)) && (offer shown x.cost j p == m)) n.interfaces) n.interfaces ok in
    let parts = and_parts _ _ h.3 in
    let mine = and_parts _ _ parts.0 in
    let g = some_gives (λ j y. ((y.link == l) && not (y.router == r)) && (offer shown h.1.cost j p == m)) n.interfaces parts.1 in
    let its = and_parts _ _ g.3 in
    let near = and_parts _ _ its.0 in
    let here : IsInterface n h.0 r l h.1.cost = record { interface = h.1; listed = h.2; router = eqb-true _ _ mine.0; link = eqb-true _ _ mine.1; cost = refl } in
    let there : IsInterface n g.0 g.1.router l g.1.cost = record { interface = g.1; listed = g.2; router = refl; link = eqb-true _ _ near.0; cost = refl } in (
      g.1.router,
      record {
        neighbour = record { other = eqb-false g.1.router r (not-true _ near.1); here = (h.1.cost, (h.0, here)); there = (g.1.cost, (g.0, there)) };
        cost = h.1.cost;
        here = (h.0, here);
        interface = g.0;
        its_cost = g.1.cost;
        there = there;
        value = sym (eqb-true _ _ its.1);
      },
    )

-- where the router does not keep the prefix, its offers pass
offers_pass : (n : Network) (shown : State) (r p : ℕ) (test : ℕ → Bool) → (keeps n r p || each_offer n shown r p test) ≡ true → (IsKept n r p → ⊥) → each_offer n shown r p test ≡ true
offers_pass n shown r p test ok off =
    elim (or_cases (keeps n r p) (each_offer n shown r p test) ok) [
      | inl kept ↦ absurd (off (keeps_gives n r p kept))
      | inr pass ↦ pass
    ]

-- ---- places that hold

abbrev is_least : Network → State → ℕ → ℕ → ℕ → Bool
is_least n shown r p m = nat_le m 16 && (each_direct n r p (nat_le m) && (keeps n r p || each_offer n shown r p (nat_le m)))

is_least_gives : (n : Network) (shown : State) (r p m : ℕ) → is_least n shown r p m ≡ true → (v : ℕ) → IsChoice n shown r p v → m ≤ v
is_least_gives n shown r p m ok v choice =
    let h = and_parts _ _ ok in
    let g = and_parts (each_direct n r p (nat_le m)) (keeps n r p || each_offer n shown r p (nat_le m)) h.1 in
    go choice (leb-true m 16 h.0) (λ d. leb-true m v (each_direct_gives n r p (nat_le m) g.0 v d))
    (λ off l s o. leb-true m v (each_offer_gives n shown r p (nat_le m) (offers_pass n shown r p (nat_le m) g.1 off) l s v o))
  where
    go : IsChoice n shown r p v → m ≤ 16 → (IsDirect n r p v → m ≤ v) → ((IsKept n r p → ⊥) → (l s : ℕ) → Offers n shown r l s p v → m ≤ v) → m ≤ v
    go (inl e) most direct offers = omega (arith, e, most)
    go (inr (inl d)) most direct offers = direct d
    go (inr (inr h)) most direct offers = offers h.0 h.1.0 h.1.1 h.1.2

abbrev is_given : Network → State → ℕ → ℕ → ℕ → Way → Bool
is_given n shown r p m Unreachable = m == 16
is_given n shown r p m Here = is_direct n r p m
is_given n shown r p m (Over l) = not (keeps n r p) && some_offer n shown r l p m

is_given_gives : (n : Network) (shown : State) (r p m : ℕ) (w : Way) → is_given n shown r p m w ≡ true → IsChoice n shown r p m × IsGiven n shown r p m w
is_given_gives n shown r p m Unreachable ok = (inl (eqb-true m 16 ok), tt)
is_given_gives n shown r p m Here ok = let d = is_direct_gives n r p m ok in (inr (inl d), d)
is_given_gives n shown r p m (Over l) ok =
    let h = and_parts (not (keeps n r p)) (some_offer n shown r l p m) ok in
    let off = takes n r p h.0 in
    let o = some_offer_gives n shown r l p m h.1 in
    (inr (inr (off, (l, o.0, o.1))), (off, o))

abbrev pub holds_at : Network → State → ℕ → ℕ → Route → Bool
holds_at n shown r p t = is_least n shown r p t.metric && is_given n shown r p t.metric t.way

pub holds_gives : (n : Network) (shown : State) (r p : ℕ) (t : Route) → holds_at n shown r p t ≡ true → Holds n shown r p t
holds_gives n shown r p t ok =
    let h = and_parts (is_least n shown r p t.metric) (is_given n shown r p t.metric t.way) ok in
    let given = is_given_gives n shown r p t.metric t.way h.1 in
    record { choice = record { chosen = given.0; least = is_least_gives n shown r p t.metric h.0 }; given = given.1 }

-- no choice is this metric
abbrev pub is_no_choice : Network → State → ℕ → ℕ → ℕ → Bool
is_no_choice n shown r p m = not (m == 16) && (each_direct n r p (λ v. not (v == m)) && (keeps n r p || each_offer n shown r p (λ v. not (v == m))))

pub no_choice : (n : Network) (shown : State) (r p m : ℕ) → is_no_choice n shown r p m ≡ true → IsChoice n shown r p m → ⊥
no_choice n shown r p m ok choice =
    let h = and_parts _ _ ok in
    let g = and_parts (each_direct n r p (λ v. not (v == m))) (keeps n r p || each_offer n shown r p (λ v. not (v == m))) h.1 in
    go choice h.0 (λ d. each_direct_gives n r p (λ v. not (v == m)) g.0 m d)
    (λ off l s o. each_offer_gives n shown r p (λ v. not (v == m)) (offers_pass n shown r p (λ v. not (v == m)) g.1 off) l s m o)
  where
    differs : (a b : ℕ) → not (a == b) ≡ true → a ≡ b → ⊥
    differs a b h = eqb-false a b (not-true _ h)

    go : IsChoice n shown r p m → not (m == 16) ≡ true → (IsDirect n r p m → not (m == m) ≡ true) → ((IsKept n r p → ⊥) → (l s : ℕ) → Offers n shown r l s p m → not (m == m) ≡ true) → ⊥
    go (inl e) most direct offers = differs m 16 most e
    go (inr (inl d)) most direct offers = differs m m (direct d) refl
    go (inr (inr h)) most direct offers = differs m m (offers h.0 h.1.0 h.1.1 h.1.2) refl

-- ---- tables that are shown

abbrev is_shown : Option ℕ → ℕ → Bool
is_shown None m = false
is_shown (Some v) m = v == m

is_shown_gives : (x : Option ℕ) (m : ℕ) → is_shown x m ≡ true → x ≡ Some m
is_shown_gives None m ok = cc ok
is_shown_gives (Some v) m ok = ap Some (eqb-true v m ok)

is_shown_holds : (x : Option ℕ) (m : ℕ) → x ≡ Some m → is_shown x m ≡ true
is_shown_holds x m e = rw e (same m)

abbrev is_silent : Option ℕ → Bool
is_silent None = true
is_silent (Some v) = v == 16

is_silent_gives : (x : Option ℕ) → is_silent x ≡ true → IsSilent x
is_silent_gives None ok = inl refl
is_silent_gives (Some v) ok = inr (ap Some (eqb-true v 16 ok))

is_silent_holds : (x : Option ℕ) → IsSilent x → is_silent x ≡ true
is_silent_holds x (inl e) = rw e refl
is_silent_holds x (inr e) = rw e refl

abbrev carries : Network → ℕ → ℕ → Bool
carries n l p = some (λ k q. is_link l q.seat && (q.prefix == p)) n.places

carries_gives : (n : Network) (l p : ℕ) → carries n l p ≡ true → Carries n l p
carries_gives n l p ok =
    let h = some_gives (λ k q. is_link l q.seat && (q.prefix == p)) n.places ok in
    let parts = and_parts _ _ h.3 in
    let there : IsPlace n h.0 h.1.prefix (Link l) = record { listed = h.2 ∙ ap (λ (t : Seat). Some (record { prefix = h.1.prefix; seat = t })) (link_of l h.1.seat parts.0) } in
    (h.0, rw (eqb-true _ _ parts.1) at there)

carries_holds : (n : Network) (l p : ℕ) → Carries n l p → carries n l p ≡ true
carries_holds n l p c = some_holds (λ k q. is_link l q.seat && (q.prefix == p)) n.places c.0 _ c.1.listed (and_from _ _ (same l) (same p))

-- a router may hold back its route on a link
abbrev holds_back : Network → ℕ → ℕ → ℕ → Bool
holds_back n r p l = carries n l p || attached n r p l

holds_back_gives : (n : Network) (r p l : ℕ) → holds_back n r p l ≡ true → MayHoldBack n r p l
holds_back_gives n r p l ok =
    elim (or_cases (carries n l p) (attached n r p l) ok) [
      | inl h ↦ inl (carries_gives n l p h)
      | inr h ↦ inr (attached_gives n r p l h)
    ]

holds_back_holds : (n : Network) (r p l : ℕ) → MayHoldBack n r p l → holds_back n r p l ≡ true
holds_back_holds n r p l (inl on) = or_left (carries n l p) _ (carries_holds n l p on)
holds_back_holds n r p l (inr at) = or_right (carries n l p) _ (attached_holds n r p l at)

not_held_back : (n : Network) (r p l : ℕ) → not (holds_back n r p l) ≡ true → MayHoldBack n r p l → ⊥
not_held_back n r p l ok h = both_ways (holds_back n r p l) (not-true _ ok) (holds_back_holds n r p l h)

abbrev may_show : Network → ℕ → ℕ → ℕ → ℕ → Way → Option ℕ → Bool
may_show n r l p m Unreachable x = is_silent x
may_show n r l p m Here x = (not (attached n r p l) && is_shown x m) || (holds_back n r p l && is_silent x)
may_show n r l p m (Over k) x = ((k == l) && is_shown x 16) || (not (k == l) && is_shown x m)

may_show_gives : (n : Network) (r l p m : ℕ) (w : Way) (x : Option ℕ) → may_show n r l p m w x ≡ true → MayShow n r l p m w x
may_show_gives n r l p m Unreachable x ok = is_silent_gives x ok
may_show_gives n r l p m Here x ok =
    elim (or_cases (not (attached n r p l) && is_shown x m) (holds_back n r p l && is_silent x) ok) [
      | inl h ↦ let g = and_parts (not (attached n r p l)) (is_shown x m) h in inl (not_attached n r p l g.0, is_shown_gives x m g.1)
      | inr h ↦ let g = and_parts (holds_back n r p l) (is_silent x) h in inr (holds_back_gives n r p l g.0, is_silent_gives x g.1)
    ]
may_show_gives n r l p m (Over k) x ok =
    elim (or_cases ((k == l) && is_shown x 16) (not (k == l) && is_shown x m) ok) [
      | inl h ↦ let g = and_parts (k == l) (is_shown x 16) h in inl (eqb-true k l g.0, is_shown_gives x 16 g.1)
      | inr h ↦ let g = and_parts (not (k == l)) (is_shown x m) h in inr (eqb-false k l (not-true _ g.0), is_shown_gives x m g.1)
    ]

abbrev is_metric : ℕ → Bool
is_metric m = nat_le 1 m && nat_lt m 16

abbrev fits_way : Network → ℕ → ℕ → ℕ → Way → Bool
fits_way n r p m Unreachable = m == 16
fits_way n r p m Here = is_metric m
fits_way n r p m (Over l) = is_metric m && (some (λ i x. (x.router == r) && (x.link == l)) n.interfaces && not (holds_back n r p l))

fits_way_gives : (n : Network) (r p m : ℕ) (w : Way) → fits_way n r p m w ≡ true → FitsWay n r p m w
fits_way_gives n r p m Unreachable ok = eqb-true m 16 ok
fits_way_gives n r p m Here ok = let h = and_parts _ _ ok in (leb-true 1 m h.0, ltb-true m 16 h.1)
fits_way_gives n r p m (Over l) ok =
    let h = and_parts (is_metric m) _ ok in
    let metric = and_parts _ _ h.0 in
    let g = and_parts (some (λ i x. (x.router == r) && (x.link == l)) n.interfaces) (not (holds_back n r p l)) h.1 in
    let f = some_gives (λ i x. (x.router == r) && (x.link == l)) n.interfaces g.0 in
    let mine = and_parts _ _ f.3 in
    let its : IsInterface n f.0 r l f.1.cost = record { interface = f.1; listed = f.2; router = eqb-true _ _ mine.0; link = eqb-true _ _ mine.1; cost = refl } in
    (leb-true 1 m metric.0, ltb-true m 16 metric.1, (f.1.cost, (f.0, its)), not_held_back n r p l g.1)

-- what a leaf learned over link l, where it shows 16 there
abbrev is_learned_way : Network → State → ℕ → ℕ → ℕ → ℕ → Way → Bool
is_learned_way n shown r l p m Unreachable = m == 16
is_learned_way n shown r l p m Here = false
is_learned_way n shown r l p m (Over k) = (k == l) && (nat_lt m 16 && some_offer n shown r l p m)

abbrev is_learned : Network → State → ℕ → ℕ → ℕ → Route → Bool
is_learned n shown r l p t = (nat_le t.metric 16 && each_offer n shown r p (nat_le t.metric)) && is_learned_way n shown r l p t.metric t.way

learned_way_gives : (n : Network) (shown : State) (r l p m : ℕ) (w : Way) → is_learned_way n shown r l p m w ≡ true →
    ((m ≡ 16) ⊎ ((k s : ℕ) × Offers n shown r k s p m)) × (m < 16 → w ≡ Over l) × (m ≡ 16 → w ≡ Unreachable)
learned_way_gives n shown r l p m Unreachable ok = let e = eqb-true m 16 ok in (inl e, λ small. absurd (omega (arith, e, small)), λ is. refl)
learned_way_gives n shown r l p m Here ok = cc ok
learned_way_gives n shown r l p m (Over k) ok =
    let h = and_parts (k == l) _ ok in
    let g = and_parts (nat_lt m 16) (some_offer n shown r l p m) h.1 in
    let o = some_offer_gives n shown r l p m g.1 in
    let small = ltb-true m 16 g.0 in
    (inr (l, o.0, o.1), λ _. ap Over (eqb-true k l h.0), λ is. absurd (omega (arith, is, small)))

is_learned_gives : (n : Network) (shown : State) (r l p : ℕ) (t : Route) → is_learned n shown r l p t ≡ true →
    IsLeastOffer n shown r p t.metric × (t.metric < 16 → t.way ≡ Over l) × (t.metric ≡ 16 → t.way ≡ Unreachable)
is_learned_gives n shown r l p t ok =
    let h = and_parts _ (is_learned_way n shown r l p t.metric t.way) ok in
    let g = and_parts (nat_le t.metric 16) (each_offer n shown r p (nat_le t.metric)) h.0 in
    let way = learned_way_gives n shown r l p t.metric t.way h.1 in
    (record { reached = way.0; most = leb-true _ _ g.0; least = λ k s v o. leb-true _ _ (each_offer_gives n shown r p (nat_le t.metric) g.1 k s v o) }, way.1, way.2)

abbrev is_here : Way → Bool
is_here Unreachable = false
is_here Here = true
is_here (Over l) = false

is_here_gives : (w : Way) → is_here w ≡ true → w ≡ Here
is_here_gives Unreachable ok = cc ok
is_here_gives Here ok = refl
is_here_gives (Over l) ok = cc ok

abbrev fits_hidden : Network → State → ℕ → ℕ → ℕ → ℕ → Route → Bool
fits_hidden n shown r i l p t =
    when (holds_back n r p l && is_silent (metric_at shown i p)) (is_here t.way && is_direct n r p t.metric)
    && when (not (holds_back n r p l) && is_shown (metric_at shown i p) 16) (is_learned n shown r l p t)

fits_hidden_gives : (n : Network) (shown : State) (r i l p : ℕ) (t : Route) → fits_hidden n shown r i l p t ≡ true → IsHiddenRoute n shown r i l p t
fits_hidden_gives n shown r i l p t ok =
    let h = and_parts (when (holds_back n r p l && is_silent (metric_at shown i p)) (is_here t.way && is_direct n r p t.metric)) _ ok in
    record {
      held_back = λ on silent.
          let g = and_parts (is_here t.way) (is_direct n r p t.metric) (when_gives _ _ h.0 (and_from _ _ (holds_back_holds n r p l on) (is_silent_holds _ silent))) in
          (is_here_gives t.way g.0, is_direct_gives n r p t.metric g.1);
      learned = λ off sixteen.
          is_learned_gives n shown r l p t (when_gives (not (holds_back n r p l) && is_shown (metric_at shown i p) 16) (is_learned n shown r l p t) h.1
          (and_from _ _ (not_from_false _ (unless (holds_back n r p l) (λ on. off (holds_back_gives n r p l on)))) (is_shown_holds _ 16 sixteen)));
    }
  where
    unless : (b : Bool) → (b ≡ true → ⊥) → b ≡ false
    unless true h = absurd (h refl)
    unless false h = refl

abbrev is_told : Network → State → ℕ → ℕ → Route → Bool
is_told n shown r p t = each (λ i x. when (x.router == r) (may_show n r x.link p t.metric t.way (metric_at shown i p))) n.interfaces

-- the interface is not the only one, or the route is what is hidden there
abbrev is_alone_fit : Network → State → ℕ → ℕ → Route → Bool
is_alone_fit n shown r p t =
    each (λ i x. when (x.router == r) (some (λ j y. (y.router == r) && not (j == i)) n.interfaces || fits_hidden n shown r i x.link p t)) n.interfaces

abbrev pub fits_at : Network → State → ℕ → ℕ → Route → Bool
fits_at n shown r p t = some (λ j y. y.router == r) n.interfaces && ((fits_way n r p t.metric t.way && is_told n shown r p t) && is_alone_fit n shown r p t)

pub fits_gives : (n : Network) (shown : State) (r p : ℕ) (t : Route) → fits_at n shown r p t ≡ true → FitsShown n shown r p t
fits_gives n shown r p t ok =
    let whole = and_parts (some (λ j y. y.router == r) n.interfaces) _ ok in
    let h = and_parts _ (is_alone_fit n shown r p t) whole.1 in
    let g = and_parts (fits_way n r p t.metric t.way) (is_told n shown r p t) h.0 in
    record {
      told = record {
        way_fits = fits_way_gives n r p t.metric t.way g.0;
        as_told = λ i l c its.
            let shows = when_gives (its.interface.router == r) _
            (each_gives (λ i x. when (x.router == r) (may_show n r x.link p t.metric t.way (metric_at shown i p))) n.interfaces g.1 i its.interface its.listed)
            (eq-eqb its.interface.router r its.router) in
            may_show_gives n r l p t.metric t.way (metric_at shown i p) (rw its.link at shows);
      };
      hidden = λ i l c leaf.
          let x = leaf.has.interface in
          let a = when_gives (x.router == r) _
          (each_gives (λ i x. when (x.router == r) (some (λ j y. (y.router == r) && not (j == i)) n.interfaces || fits_hidden n shown r i x.link p t)) n.interfaces h.1 i x leaf.has.listed)
          (eq-eqb x.router r leaf.has.router) in
          elim (or_cases _ (fits_hidden n shown r i l p t) (rw leaf.has.link at a)) [
            | inl other ↦
                let f = some_gives (λ j y. (y.router == r) && not (j == i)) n.interfaces other in
                let parts = and_parts _ _ f.3 in
                let its : IsInterface n f.0 r f.1.link f.1.cost = record { interface = f.1; listed = f.2; router = eqb-true _ _ parts.0; link = refl; cost = refl } in
                absurd (eqb-false f.0 i (not-true _ parts.1) (leaf.only f.0 f.1.link f.1.cost its))
            | inr fit ↦ fits_hidden_gives n shown r i l p t fit
          ];
      lone = λ off.
          let f = some_gives (λ j y. y.router == r) n.interfaces whole.0 in
          absurd (off f.0 f.1.link f.1.cost (record { interface = f.1; listed = f.2; router = eqb-true _ _ f.3; link = refl; cost = refl }));
    }

-- ---- a router without an interface

abbrev is_off : Network → ℕ → Bool
is_off n r = each (λ i x. not (x.router == r)) n.interfaces

off_gives : (n : Network) (r : ℕ) → is_off n r ≡ true → (i l c : ℕ) → IsInterface n i r l c → ⊥
off_gives n r ok i l c its =
    let test = each_gives (λ i x. not (x.router == r)) n.interfaces ok i its.interface its.listed in
    both_ways (its.interface.router == r) (not-true (its.interface.router == r) test) (eq-eqb its.interface.router r its.router)

abbrev is_no_way : Way → Bool
is_no_way Unreachable = true
is_no_way Here = false
is_no_way (Over l) = false

no_way_gives : (w : Way) → is_no_way w ≡ true → w ≡ Unreachable
no_way_gives Unreachable ok = refl
no_way_gives Here ok = cc ok
no_way_gives (Over l) ok = cc ok

-- it has not the prefix itself, and no route
abbrev fits_lone : Network → ℕ → ℕ → Route → Bool
fits_lone n r p t = (is_off n r && each_direct n r p (λ v. false)) && ((t.metric == 16) && (is_no_way t.way && fits_way n r p t.metric t.way))

lone_gives : (n : Network) (shown : State) (r p : ℕ) (t : Route) → fits_lone n r p t ≡ true → FitsShown n shown r p t
lone_gives n shown r p t ok =
    let h = and_parts (is_off n r && each_direct n r p (λ v. false)) _ ok in
    let where_ = and_parts (is_off n r) (each_direct n r p (λ v. false)) h.0 in
    let what = and_parts (t.metric == 16) _ h.1 in
    let way = and_parts (is_no_way t.way) (fits_way n r p t.metric t.way) what.1 in
    let off = off_gives n r where_.0 in
    record {
      told = record { way_fits = fits_way_gives n r p t.metric t.way way.1; as_told = λ i l c its. absurd (off i l c its) };
      hidden = λ i l c leaf. absurd (off i l c leaf.has);
      lone = λ none. record {
        own = λ c direct. absurd (no_direct n r p where_.1 c direct);
        none = λ bare. (no_way_gives t.way way.0, eqb-true t.metric 16 what.0);
      };
    }

-- ---- every place

-- nothing is shown where the prefix is not exchanged
abbrev is_quiet : Network → State → ℕ → ℕ → Bool
is_quiet n shown r p = each (λ i x. when ((x.router == r) && not (exchanges n (block_at shown.prefixes p) x.link)) (is_silent (metric_at shown i p))) n.interfaces

quiet_gives : (n : Network) (shown : State) (r p : ℕ) → IsLawful n → is_quiet n shown r p ≡ true → IsQuiet n shown r p
quiet_gives n shown r p laws ok i l c its closed =
    let b = block_at shown.prefixes p in
    let test = each_gives (λ i x. when ((x.router == r) && not (exchanges n b x.link)) (is_silent (metric_at shown i p))) n.interfaces ok i its.interface its.listed in
    let shut : exchanges n b l ≡ false = false_from_ne_true (exchanges n b l) (λ t. closed ((exchange n laws b l).0 t)) in
    let shut_here : exchanges n b its.interface.link ≡ false = rw its.link shut in
    is_silent_gives (metric_at shown i p) (when_gives _ (is_silent (metric_at shown i p)) test (and_from _ _ (eq-eqb its.interface.router r its.router) (not_from_false _ shut_here)))

-- what is shown of a place fits
abbrev fits_there : Network → State → ℕ → ℕ → Route → Bool
fits_there n shown r p t = (fits_at (network_at n shown.prefixes p) shown r p t || fits_lone (network_at n shown.prefixes p) r p t) && is_quiet n shown r p

fits_there_gives : (n : Network) (shown : State) (r p : ℕ) (t : Route) → IsLawful n → fits_there n shown r p t ≡ true → FitsThere n shown r p t
fits_there_gives n shown r p t laws ok =
    let net = network_at n shown.prefixes p in
    let h = and_parts (fits_at net shown r p t || fits_lone net r p t) (is_quiet n shown r p) ok in
    record {
      quiet = quiet_gives n shown r p laws h.1;
      fits = elim (or_cases (fits_at net shown r p t) (fits_lone net r p t) h.0) [ inl fits ↦ fits_gives net shown r p t fits | inr lone ↦ lone_gives net shown r p t lone ];
    }

abbrev pub all_fit : Network → State → Tables → Bool
all_fit n shown T = below (λ r. below (λ p. fits_there n shown r p (T r p)) (length shown.prefixes)) (length n.routers)

pub shows : (n : Network) (shown : State) (T : Tables) → IsLawful n → IsHeard n shown → all_fit n shown T ≡ true → Shows n shown T
shows n shown T laws heard ok = record {
  heard = heard;
  fits = λ r p at known.
      fits_there_gives n shown r p (T r p) laws
      (below_gives (λ p. fits_there n shown r p (T r p)) (length shown.prefixes) (below_gives (λ r. below (λ p. fits_there n shown r p (T r p)) (length shown.prefixes)) (length n.routers) ok r at) p known);
}

abbrev pub all_hold : Network → State → Tables → Bool
all_hold n shown T = below (λ r. below (λ p. holds_at (network_at n shown.prefixes p) shown r p (T r p)) (length shown.prefixes)) (length n.routers)

pub holds_all : (n : Network) (shown : State) (T : Tables) → all_hold n shown T ≡ true → HoldsAll n shown T
holds_all n shown T ok r p at known =
    holds_gives (network_at n shown.prefixes p) shown r p (T r p)
    (below_gives (λ p. holds_at (network_at n shown.prefixes p) shown r p (T r p)) (length shown.prefixes)
    (below_gives (λ r. below (λ p. holds_at (network_at n shown.prefixes p) shown r p (T r p)) (length shown.prefixes)) (length n.routers) ok r at) p known)
