-- A leaf has a route that fits where any could be behind what it shows.
use Rattle.std.proofs.Common.{◌≡◌, ◌≢◌, ℕ, zero, suc, ◌<◌, ◌≤◌, ◌⊎◌, inl, inr, Option, None, Some, List, slice_get, length, refl, sym, ◌∙◌, ap, arith}
use Rattle.std.proofs.lemmas.Bool.{cases_lt, cases_eq}
use Rattle.std.proofs.lemmas.Option.{slice_get_within, same_Some}
use Rattle.rip_plan.specs.declared.parts.Interface.{Interface}
use Rattle.rip_plan.specs.Network.{Network}
use Rattle.rip_plan.specs.Relations.{IsAttached, IsDirect, IsInterface, IsLeaf}
use Rattle.rip_plan.specs.PrefixNetworks.{IsNetwork}
use Rattle.rip_table.specs.State.{State}
use Rattle.rip_check.specs.declared.way.Way.{Way}
use Rattle.rip_check.specs.declared.way.Way.TheVariants.{Unreachable, Here, Over}
use Rattle.rip_check.specs.Tables.{Route, FitsShown, FitsWay, MayHoldBack, MayShow, IsSilent, Offers, IsLeastOffer, IsHiddenRoute, Tells}
use Rattle.rip_check.proofs.PlanLemmas.{attached_or_not, direct_least, direct_most, held_back_direct, holds_back_or_not}
use Rattle.rip_check.specs.Metrics.{IsInRange, metric_at}
use Rattle.rip_check.specs.Verdicts.{IsHidden}
use Rattle.rip_check.proofs.AcrossLemmas.{heard_from}
use Rattle.rip_check.proofs.OwnedLemmas.{its_link}

-- x is the interface of another router on own's link
record IsAcross (own x : Interface) : Type 0 where
  pub link : x.link ≡ own.link
  pub other : x.router ≢ own.router

-- v is no more than what any of the interfaces before the bound offers to own
abbrev IsBelowOffers : List Interface → State → Interface → ℕ → ℕ → ℕ → Type 0
IsBelowOffers interfaces shown own p bound v =
    (j : ℕ) (x : Interface) → j < bound → slice_get interfaces j ≡ Some x → IsAcross own x → v ≤ heard_from shown own.cost j p

-- v is what one of the interfaces offers to own
record IsOfferAt (interfaces : List Interface) (shown : State) (own : Interface) (p v : ℕ) : Type 0 where
  pub number : ℕ
  pub its : Interface
  pub listed : slice_get interfaces number ≡ Some its
  pub across : IsAcross own its
  pub value : v ≡ heard_from shown own.cost number p

-- the least of what is offered to one interface
record LeastAt (xs : List Interface) (shown : State) (own : Interface) (p bound : ℕ) : Type 0 where
  value : ℕ
  most : value ≤ 16
  below : IsBelowOffers xs shown own p bound value
  reached : (value ≡ 16) ⊎ IsOfferAt xs shown own p value

across_or_not : (own x : Interface) → IsAcross own x ⊎ (IsAcross own x → ⊥)
across_or_not own x =
    elim (cases_eq x.link own.link) [
      | inl e ↦ elim (cases_eq x.router own.router) [
        | inl same ↦ inr (λ h. h.other same)
        | inr other ↦ inl (record { link = e; other = other })
      ]
      | inr not ↦ inr (λ h. not h.link)
    ]

module _ (xs : List Interface) (shown : State) (own : Interface) (p : ℕ) where
  one_more : (k v : ℕ) → IsBelowOffers xs shown own p k v → ((x : Interface) → slice_get xs k ≡ Some x → IsAcross own x → v ≤ heard_from shown own.cost k p) →
      IsBelowOffers xs shown own p (suc k) v
  one_more k v before here j x lt listed across =
      elim (cases_lt j k) [
        | inl less ↦ before j x less listed across
        | inr big ↦
            let e : j ≡ k = omega arith in
            rw e (here x (rw e at listed) across)
      ]

  least_at : (bound : ℕ) → LeastAt xs shown own p bound
  least_at zero = record { value = 16; most = omega arith; below = λ j x lt. absurd (omega (arith, lt)); reached = inl refl }
  least_at (suc k) = go (slice_get xs k) refl (least_at k)
    where
      go : (o : Option Interface) → slice_get xs k ≡ o → LeastAt xs shown own p k → LeastAt xs shown own p (suc k)
      go None e so = record { value = so.value; most = so.most; below = one_more k so.value so.below (λ x listed. cc (e, listed)); reached = so.reached }
      go (Some y) e so =
          let v = heard_from shown own.cost k p in
          let keep : ((x : Interface) → slice_get xs k ≡ Some x → IsAcross own x → so.value ≤ v) → LeastAt xs shown own p (suc k) =
          λ f. record { value = so.value; most = so.most; below = one_more k so.value so.below f; reached = so.reached } in
          elim (across_or_not own y) [
            | inl across ↦ elim (cases_lt v so.value) [
              | inl less ↦ record {
                value = v;
                most = omega (arith, so.most);
                below = one_more k v (λ j x lt listed a. omega (arith, so.below j x lt listed a)) (λ x listed a. omega arith);
                reached = inr (record { number = k; its = y; listed = e; across = across; value = refl });
              }
              | inr more ↦ keep (λ x listed a. more)
            ]
            | inr not ↦ keep (λ x listed a.
                let same : x ≡ y = same_Some x y (sym listed ∙ e) in
                absurd (not (rw same at a)))
          ]

module _ (n : Network) (shown : State) (r i p : ℕ) (own : Interface) (mine : own.router ≡ r) (leaf : IsLeaf n r i own.link own.cost) where
  -- what is so of its interface is so of each
  pub only_one : (Q : ℕ → ℕ → Type 0) → Q i own.link → (j k d : ℕ) → IsInterface n j r k d → Q j k
  only_one Q q j k d at =
      let e = leaf.only j k d at in
      let at' : IsInterface n i r k d = rw e at at in
      let e' : k ≡ own.link = (its_link n i r k d r own.link own.cost at' leaf.has).1 in
      rw e (rw e' q)

  -- the least of what is offered to its interface is the least offer
  is_least : (v : ℕ) → v ≤ 16 → IsBelowOffers n.interfaces shown own p (length n.interfaces) v → (v ≡ 16) ⊎ IsOfferAt n.interfaces shown own p v → IsLeastOffer n shown r p v
  is_least v most below chosen = record { reached = reached chosen; most = most; least = least }
    where
      reached : (v ≡ 16) ⊎ IsOfferAt n.interfaces shown own p v → (v ≡ 16) ⊎ ((l s : ℕ) × Offers n shown r l s p v)
      reached (inl e) = inl e
      reached (inr o) =
          let there : IsInterface n o.number o.its.router own.link o.its.cost = record { interface = o.its; listed = o.listed; router = refl; link = o.across.link; cost = refl } in
          inr (
            own.link,
            o.its.router,
            record {
              neighbour = record { other = λ e. o.across.other (e ∙ sym mine); here = (own.cost, (i, leaf.has)); there = (o.its.cost, (o.number, there)) };
              cost = own.cost;
              here = (i, leaf.has);
              interface = o.number;
              its_cost = o.its.cost;
              there = there;
              value = o.value;
            },
          )

      least : (k s w : ℕ) → Offers n shown r k s p w → v ≤ w
      least k s w o =
          let e = leaf.only o.here.0 k o.cost o.here.1 in
          let at : IsInterface n i r k o.cost = rw e at o.here.1 in
          let same = its_link n i r k o.cost r own.link own.cost at leaf.has in
          let its = o.there.interface in
          let other : its.router ≢ own.router = λ e. o.neighbour.other (sym o.there.router ∙ e ∙ mine) in
          let le : v ≤ heard_from shown own.cost o.interface p =
          below o.interface its (slice_get_within n.interfaces o.interface its o.there.listed) o.there.listed (record { link = o.there.link ∙ same.1; other = other }) in
          omega (arith, le, o.value, same.2)

  -- the same, told by the offers over its link
  pub least_offer : (v : ℕ) → v ≤ 16 → ((s w : ℕ) → Offers n shown own.router own.link s p w → v ≤ w) → (v ≡ 16) ⊎ ((s : ℕ) × Offers n shown own.router own.link s p v) → IsLeastOffer n shown r p v
  least_offer v most below chosen = record { reached = reached chosen; most = most; least = least }
    where
      reached : (v ≡ 16) ⊎ ((s : ℕ) × Offers n shown own.router own.link s p v) → (v ≡ 16) ⊎ ((l s : ℕ) × Offers n shown r l s p v)
      reached (inl e) = inl e
      reached (inr o) = inr (own.link, o.0, rw mine at o.1)

      least : (k s w : ℕ) → Offers n shown r k s p w → v ≤ w
      least k s w o =
          let e' : k ≡ own.link = only_one (λ x y. y ≡ own.link) refl o.here.0 k o.cost o.here.1 in
          let o' : Offers n shown own.router own.link s p w = rw mine (rw e' at o) in
          below s w o'

  made : (t : Route) → FitsWay n r p t.metric t.way → MayShow n r own.link p t.metric t.way (metric_at shown i p) → IsHiddenRoute n shown r i own.link p t → FitsShown n shown r p t
  made t way told hidden =
      record {
        told = record {
          way_fits = way;
          as_told = only_one (λ j k. MayShow n r k p t.metric t.way (metric_at shown j p)) told;
        };
        hidden = λ j k d other. only_one (λ x y. IsHiddenRoute n shown r x y p t) hidden j k d other.has;
        lone = λ off. absurd (off i own.link own.cost leaf.has);
      }

  not_small : (m : ℕ) → m < 16 → metric_at shown i p ≡ Some m → IsSilent (metric_at shown i p) → ⊥
  not_small m less e (inl none) = cc (e, none)
  not_small m less e (inr big) =
      let is : m ≡ 16 = same_Some m 16 (sym e ∙ big) in
      omega (arith, less, is)

  -- it shows a metric below 16
  pub low_fits : (m : ℕ) → 1 ≤ m → m < 16 → metric_at shown i p ≡ Some m → (IsAttached n r p own.link → ⊥) → FitsShown n shown r p (record { metric = m; way = Here })
  low_fits m one less e off = made (record { metric = m; way = Here }) (one, less) (inl (off, e))
      (record { held_back = λ on silent. absurd (not_small m less e silent); learned = λ off is. absurd (not_small m less e (inr is)) })

  -- it has the prefix itself, and may hold that back on its link
  pub here_fits : IsNetwork n → IsSilent (metric_at shown i p) → MayHoldBack n r p own.link → (d : ℕ) → IsDirect n r p d → FitsShown n shown r p (record { metric = d; way = Here })
  here_fits plan silent held_back d direct =
      let most = direct_most n plan r p d direct in
      made (record { metric = d; way = Here }) (direct_least n plan r p d direct, omega (arith, most)) (inr (held_back, silent))
      (record { held_back = λ on is. (refl, direct); learned = λ off is. absurd (off held_back) })

  -- it shows nothing, or 16 where no offer is below 16
  pub nowhere_fits : IsSilent (metric_at shown i p) → (MayHoldBack n r p own.link → ⊥) → (metric_at shown i p ≡ Some 16 → IsLeastOffer n shown r p 16) →
      FitsShown n shown r p (record { metric = 16; way = Unreachable })
  nowhere_fits silent off least = made (record { metric = 16; way = Unreachable }) refl silent
      (record { held_back = λ on is. absurd (off on); learned = λ off' is. (least is, λ lt. absurd (omega (arith, lt)), λ is'. refl) })

  -- it shows 16, and the least offer is below that
  pub over_fits : IsNetwork n → metric_at shown i p ≡ Some 16 → (MayHoldBack n r p own.link → ⊥) → (h : ℕ) → IsLeastOffer n shown r p h → h < 16 →
      FitsShown n shown r p (record { metric = h; way = Over own.link })
  over_fits plan e off h so less =
      made (record { metric = h; way = Over own.link }) (at_least so.reached, less, (own.cost, (i, leaf.has)), off) (inl (refl, e))
      (record { held_back = λ on is. absurd (off on); learned = λ off' is. (so, λ lt. refl, λ is'. absurd (omega (arith, less, is'))) })
    where
      at_least : (h ≡ 16) ⊎ ((l s : ℕ) × Offers n shown r l s p h) → 1 ≤ h
      at_least (inl is) = omega (arith, is)
      at_least (inr o) =
          let offer = o.2 in
          let one = plan.cost_least offer.here.0 r o.0 offer.cost offer.here.1 in
          omega (arith, offer.value, one)

  -- where it shows a metric below 16 on the link to which the prefix is attached, no route could be behind it
  pub not_told : (m : ℕ) → m < 16 → metric_at shown i p ≡ Some m → IsAttached n r p own.link → (u : Route) → Tells n shown r p u → ⊥
  not_told m less e at u tells = go u.way tells.way_fits (tells.as_told i own.link own.cost leaf.has)
    where
      go : (w : Way) → FitsWay n r p u.metric w → MayShow n r own.link p u.metric w (metric_at shown i p) → ⊥
      go Unreachable f told = not_small m less e told
      go Here f (inl is) = is.0 at
      go Here f (inr h) = not_small m less e h.1
      go (Over k) f (inl h) = not_small m less e (inr h.1)
      go (Over k) f (inr h) =
          let on = f.2 in
          h.0 (only_one (λ x y. y ≡ own.link) refl on.1.0 k on.0 on.1.1)

  a_route : IsNetwork n → IsInRange n shown → (u : Route) → Tells n shown r p u → (t : Route) × FitsShown n shown r p t
  a_route plan range u tells = go (metric_at shown i p) refl (holds_back_or_not n r p own.link)
    where
      so : LeastAt n.interfaces shown own p (length n.interfaces)
      so = least_at n.interfaces shown own p (length n.interfaces)

      least : IsLeastOffer n shown r p so.value
      least = is_least so.value so.most so.below so.reached

      held : IsSilent (metric_at shown i p) → MayHoldBack n r p own.link → (t : Route) × FitsShown n shown r p t
      held silent on =
          let direct = held_back_direct n plan r p own.link (own.cost, (i, leaf.has)) on in
          (record { metric = direct.0; way = Here }, here_fits plan silent on direct.0 direct.1)

      go : (x : Option ℕ) → metric_at shown i p ≡ x → MayHoldBack n r p own.link ⊎ (MayHoldBack n r p own.link → ⊥) → (t : Route) × FitsShown n shown r p t
      go None e (inl on) = held (inl e) on
      go None e (inr off) = (record { metric = 16; way = Unreachable }, nowhere_fits (inl e) off (λ is. cc (e, is)))
      go (Some m) e holds_back =
          elim (cases_lt m 16) [
            | inl less ↦ elim (attached_or_not n r p own.link) [
              | inl at ↦ absurd (not_told m less e at u tells)
              | inr off ↦ (record { metric = m; way = Here }, low_fits m (range i r own.link own.cost p m leaf.has e).0 less e off)
            ]
            | inr more ↦
                let is : m ≡ 16 = omega (arith, more, (range i r own.link own.cost p m leaf.has e).1) in
                let e' : metric_at shown i p ≡ Some 16 = e ∙ ap Some is in
                elim holds_back [
                  | inl on ↦ held (inr e') on
                  | inr off ↦ elim (cases_lt so.value 16) [
                    | inl less ↦ (record { metric = so.value; way = Over own.link }, over_fits plan e' off so.value least less)
                    | inr big ↦
                        let at : so.value ≡ 16 = omega (arith, big, so.most) in
                        (record { metric = 16; way = Unreachable }, nowhere_fits (inr e') off (λ same. rw at at least))
                  ]
                ]
          ]

  -- hidden is told from its interface
  pub hidden_at : IsHidden n shown r p → (MayHoldBack n r p own.link × IsSilent (metric_at shown i p)) ⊎ ((MayHoldBack n r p own.link → ⊥) × (metric_at shown i p ≡ Some 16))
  hidden_at (inr off) = absurd (off i own.link own.cost leaf.has)
  hidden_at (inl h) =
      let e : h.0 ≡ i = leaf.only h.0 h.1 h.2 h.3.has in
      let at : IsInterface n i r h.1 h.2 = rw e at h.3.has in
      let e' : h.1 ≡ own.link = (its_link n i r h.1 h.2 r own.link own.cost at leaf.has).1 in
      rw e' at (rw e at h.4)

  pub low_shows : (m : ℕ) → m < 16 → metric_at shown i p ≡ Some m → IsHidden n shown r p → ⊥
  low_shows m less e h = elim (hidden_at h) [ inl x ↦ not_small m less e x.1 | inr x ↦ not_small m less e (inr x.1) ]

  pub nowhere_shows : metric_at shown i p ≡ None → (MayHoldBack n r p own.link → ⊥) → IsHidden n shown r p → ⊥
  nowhere_shows e off h = elim (hidden_at h) [ inl x ↦ off x.0 | inr x ↦ cc (e, x.1) ]

  -- the same route
  same_route : (t u : Route) → t.metric ≡ u.metric → t.way ≡ u.way → t ≡ u
  same_route t u e f = λ x. record { metric = e x; way = f x }

  -- where it shows its route, only that one fits
  pub low_one : (m : ℕ) → m < 16 → metric_at shown i p ≡ Some m → (u : Route) → Tells n shown r p u → u ≡ record { metric = m; way = Here }
  low_one m less e u tells =
      let both = go u.way tells.way_fits (tells.as_told i own.link own.cost leaf.has) in
      same_route u (record { metric = m; way = Here }) both.0 both.1
    where
      go : (w : Way) → FitsWay n r p u.metric w → MayShow n r own.link p u.metric w (metric_at shown i p) → (u.metric ≡ m) × (w ≡ Here)
      go Unreachable f told = absurd (not_small m less e told)
      go Here f (inl is) = (same_Some u.metric m (sym is.1 ∙ e), refl)
      go Here f (inr h) = absurd (not_small m less e h.1)
      go (Over k) f (inl h) = absurd (not_small m less e (inr h.1))
      go (Over k) f (inr h) =
          let on = f.2 in
          absurd (h.0 (only_one (λ x y. y ≡ own.link) refl on.1.0 k on.0 on.1.1))

  -- and where it shows nothing on a link where it may not hold back its route
  pub nowhere_one : metric_at shown i p ≡ None → (MayHoldBack n r p own.link → ⊥) → (u : Route) → Tells n shown r p u → u ≡ record { metric = 16; way = Unreachable }
  nowhere_one e off u tells =
      let both = go u.way tells.way_fits (tells.as_told i own.link own.cost leaf.has) in
      same_route u (record { metric = 16; way = Unreachable }) both.0 both.1
    where
      go : (w : Way) → FitsWay n r p u.metric w → MayShow n r own.link p u.metric w (metric_at shown i p) → (u.metric ≡ 16) × (w ≡ Unreachable)
      go Unreachable f told = (f, refl)
      go Here f (inl is) = cc (e, is.1)
      go Here f (inr h) = absurd (off h.0)
      go (Over k) f (inl h) = cc (e, h.1)
      go (Over k) f (inr h) = cc (e, h.1)

-- a leaf has a route that fits where one could be behind what it shows
pub leaf_route : (n : Network) (shown : State) (r i l c p : ℕ) → IsLeaf n r i l c → IsNetwork n → IsInRange n shown → (u : Route) → Tells n shown r p u → (t : Route) × FitsShown n shown r p t
leaf_route n shown r i l c p leaf plan range =
    a_route n shown r i p leaf.has.interface leaf.has.router (rw (leaf.has.link, leaf.has.cost) leaf) plan range
