-- Routes that a log shows, told as the routers' own.
use Rattle.std.proofs.Common.{◌≡◌, ◌≢◌, ℕ, zero, suc, ◌+◌, ◌<◌, ◌⊎◌, inl, inr, min, unwrap_or, true, Contains, get_or, slice_get, Option, None, Some, List, [], ◌∷◌, length, refl, sym, ap, subst, ◌∙◌, arith}
use Rattle.rip_wire.specs.Prefix.{Block}
use Rattle.rip_plan.specs.Network.{Network}
use Rattle.rip_plan.specs.Relations.{Carries, IsAttached, IsDirect, IsInterface, IsLawful}
use Rattle.rip_plan.specs.PrefixNetworks.{IsNetwork}
use Rattle.rip_plan.proofs.PrefixNetworkLemmas.{prefix_network}
use Rattle.rip_table.specs.State.{State}
use Rattle.rip_routes.specs.OwnTables.{OwnRoute, OwnTables, route_at}
use Rattle.rip_routes.specs.declared.next_hop.NextHop.{NextHop}
use Rattle.rip_routes.specs.declared.next_hop.NextHop.TheVariants.{Over as IsOver}
use Rattle.rip_check.specs.Laws.{ShowsRightTables}
use Rattle.rip_check.specs.Metrics.{metric_at}
use Rattle.rip_check.specs.Networks.{block_at, network_at}
use Rattle.rip_check.specs.Firsts.{IsBefore, IsFirst}
use Rattle.rip_check.specs.OwnLaws.{AreRightAlike, HaveOneEquation, HoldAlike, IsSamePlace, NameAlike, RoundTrip, TellsRoutes, own_by, own_of, wrong_way}
use Rattle.rip_check.specs.OwnSettled.{AreRightTables, HopGoesRight, IsEachGiven, IsHopGiven, IsOwnRight, OwnHolds}
use Rattle.rip_check.specs.OwnTells.{IsOver as HopIsOver, IsToldBy, TellsThere}
use Rattle.rip_check.specs.OwnVerdicts.{IsNextWrong, IsOwnFailing, IsOwnSound, IsWrong, IsWrongHop, IsWrongWay}
use Rattle.rip_check.specs.Settled.{Holds, IsChoice, IsGiven, IsLeastChoice, IsRight}
use Rattle.rip_check.specs.Tables.{FitsWay, MayShow, Offers, Route, Shows, Tables}
use Rattle.rip_check.specs.Verdicts.{IsFailing, IsNextUnsettled, IsSound}
use Rattle.rip_check.specs.declared.own_verdict.OwnPlace.{OwnPlace}
use Rattle.rip_check.specs.declared.own_verdict.Wrong.{Wrong}
use Rattle.rip_check.specs.declared.own_verdict.Wrong.TheVariants as wrongs
use Rattle.rip_check.specs.declared.verdict.Place2.{Place2}
use Rattle.rip_check.specs.declared.way.Way.{Way}
use Rattle.rip_check.specs.declared.way.Way.TheVariants.{Unreachable, Here, Over}
use Rattle.rip_check.proofs.OrderLemmas.{one_first}
use Rattle.rip_check.proofs.PlanLemmas.{carried_direct, direct_most}
use Rattle.rip_check.proofs.ReadableLemmas.{one_there}
use Rattle.rip_check.proofs.ShownLemmas.{metric_least, silent_is_16, some_is}

none_listed : (h : NextHop) → Contains [] h → ⊥
none_listed h listed = omega (arith, listed.1)

one_listed : (h : NextHop) → Contains (h ∷ []) h
one_listed h = (0, omega arith, refl)

the_one : (x h : NextHop) → Contains (x ∷ []) h → h ≡ x
the_one x h c = go c.0 c.1 c.2
  where
    go : (k : ℕ) → k < 1 → get_or (x ∷ []) k h ≡ h → h ≡ x
    go zero lt e = sym e
    go (suc k) lt e = absurd (omega (arith, lt))

-- what router s with this route tells of prefix p on link l, as `IsMute` and `TellsThere` say
abbrev MuteBy : Network → ℕ → ℕ → ℕ → OwnRoute → Type 0
MuteBy n s l p route =
    (route.metric ≡ 16)
    ⊎ (((h : NextHop) × Contains route.hops h × HopIsOver n s p h l) ⊎ (IsAttached n s p l × (route.here ≡ true)))

abbrev TellsBy : Network → ℕ → ℕ → ℕ → OwnRoute → Option ℕ → Type 0
TellsBy n s l p route None = MuteBy n s l p route
TellsBy n s l p route (Some m) = (MuteBy n s l p route → ⊥) × (m ≡ route.metric)

tells_by : (n : Network) (t : OwnTables) (s l p : ℕ) (y : Option ℕ) → TellsThere n t s l p y → TellsBy n s l p (route_at t s p) y
tells_by n t s l p None tells = tells
tells_by n t s l p (Some m) tells = tells

-- An interface shows and tells the same, where silence counts as 16; or it holds back its router's
-- own route, which is told.
abbrev IsOneTelling : Network → ℕ → ℕ → ℕ → Option ℕ → Option ℕ → Type 0
IsOneTelling n l p m x y = (unwrap_or y 16 ≡ unwrap_or x 16) ⊎ (Carries n l p × (unwrap_or x 16 ≡ 16) × (unwrap_or y 16 ≡ m))

one_telling : (n : Network) (s l p m : ℕ) (w : Way) (x y : Option ℕ) → FitsWay n s p m w → MayShow n s l p m w x → TellsBy n s l p (own_by m w) y →
    IsOneTelling n l p m x y
one_telling n s l p m Unreachable x None fits shows tells = inl (sym (silent_is_16 x shows))
one_telling n s l p m Unreachable x (Some v) fits shows tells = absurd (tells.0 (inl fits))
one_telling n s l p m Here x None fits shows (inl e) = absurd (omega (arith, e, fits.1))
one_telling n s l p m Here x None fits shows (inr (inl h)) = absurd (none_listed h.0 h.1)
one_telling n s l p m Here x None fits (inl e) (inr (inr at)) = absurd (e.0 at.0)
one_telling n s l p m Here x None fits (inr h) (inr (inr at)) = inl (sym (silent_is_16 x h.1))
one_telling n s l p m Here x (Some v) fits (inl e) tells = inl (tells.1 ∙ sym (some_is x m e.1))
one_telling n s l p m Here x (Some v) fits (inr (inl on, silent)) tells = inr (on, silent_is_16 x silent, tells.1)
one_telling n s l p m Here x (Some v) fits (inr (inr at, silent)) tells = absurd (tells.0 (inr (inr (at, refl))))
one_telling n s l p m (Over k) x None fits (inl h) tells = inl (sym (some_is x 16 h.1))
one_telling n s l p m (Over k) x None fits (inr h) (inl e) = absurd (omega (arith, e, fits.1))
one_telling n s l p m (Over k) x None fits (inr h) (inr (inl g)) =
    absurd (h.0 (subst (λ (x : NextHop). HopIsOver n s p x l) (the_one (IsOver k) g.0 g.1) g.2))
one_telling n s l p m (Over k) x None fits (inr h) (inr (inr at)) = absurd (cc at.1)
one_telling n s l p m (Over k) x (Some v) fits (inl h) tells = absurd (tells.0 (inr (inl (IsOver k, one_listed (IsOver k), h.0))))
one_telling n s l p m (Over k) x (Some v) fits (inr h) tells = inl (tells.1 ∙ sym (some_is x m h.1))

module _ (n : Network) (shown : State) (T : Tables) (plan : IsLawful n) (shows : Shows n shown T) (t : OwnTables) (told : State) (tells : TellsRoutes n shown T t) (by : IsToldBy n t told) where
  -- the network of a prefix, and the laws that it keeps
  abbrev net : ℕ → Network
  net p = network_at n shown.prefixes p

  its : (p : ℕ) → IsNetwork (net p)
  its p = prefix_network n plan (block_at shown.prefixes p)

  known_there : (p : ℕ) → p < length t.prefixes → p < length shown.prefixes
  known_there p known = rw tells.prefixes at known

  tells_at : (j s l d p : ℕ) → s < length n.routers → p < length t.prefixes → IsInterface (net p) j s l d → TellsThere (net p) t s l p (metric_at told j p)
  tells_at j s l d p at known there =
      subst (λ (b : List Block). TellsThere (network_at n b p) t s l p (metric_at told j p)) tells.prefixes
      (by.tells j s l d p at known (subst (λ (b : List Block). IsInterface (network_at n b p) j s l d) (sym tells.prefixes) there))

  -- what an interface shows and tells
  both : (j s l d p : ℕ) → s < length n.routers → IsInterface (net p) j s l d → p < length t.prefixes → IsOneTelling (net p) l p (T s p).metric (metric_at shown j p) (metric_at told j p)
  both j s l d p at there known =
      let fits = (shows.fits s p at (known_there p known)).fits.told in
      let here = tells_by (net p) t s l p (metric_at told j p) (tells_at j s l d p at known there) in
      let here' : TellsBy (net p) s l p (own_of (T s p)) (metric_at told j p) =
      subst (λ (x : OwnRoute). TellsBy (net p) s l p x (metric_at told j p)) (tells.routes s p at known) here in
      one_telling (net p) s l p (T s p).metric (T s p).way (metric_at shown j p) (metric_at told j p) fits.way_fits (fits.as_told j l d there) here'

  -- an offer by the routers' own tables is one of the log, or the router has the prefix itself for less
  told_offer : (r l s p v : ℕ) → r < length n.routers → p < length t.prefixes → Offers (net p) told r l s p v → Offers (net p) shown r l s p v ⊎ ((d : ℕ) × IsDirect (net p) r p d × (d < v))
  told_offer r l s p v at known o =
      elim (both o.interface s l o.its_cost p ((its p).neighbour_known r l s at o.neighbour) o.there known) [
        | inl e ↦ inl (record {
          neighbour = o.neighbour;
          cost = o.cost;
          here = o.here;
          interface = o.interface;
          its_cost = o.its_cost;
          there = o.there;
          value = o.value ∙ ap (λ (x : ℕ). min 16 (o.cost + x)) e;
        })
        | inr h ↦
            let direct = carried_direct (net p) (its p) r l o.cost p o.here h.0 in
            let s_at = (its p).neighbour_known r l s at o.neighbour in
            let least = metric_least (net p) s p (T s p).metric (T s p).way (shows.fits s p s_at (known_there p known)).fits.told.way_fits in
            let most = direct_most (net p) (its p) r p direct.0 direct.1 in
            inr (direct.0, direct.1, omega (arith, direct.2, least, most, o.value, h.2))
      ]

  -- an offer of the log is one by the routers' own tables, or 16
  shown_offer : (r l s p v : ℕ) → r < length n.routers → p < length t.prefixes → Offers (net p) shown r l s p v → Offers (net p) told r l s p v ⊎ (v ≡ 16)
  shown_offer r l s p v at known o =
      elim (both o.interface s l o.its_cost p ((its p).neighbour_known r l s at o.neighbour) o.there known) [
        | inl e ↦ inl (record {
          neighbour = o.neighbour;
          cost = o.cost;
          here = o.here;
          interface = o.interface;
          its_cost = o.its_cost;
          there = o.there;
          value = o.value ∙ ap (λ (x : ℕ). min 16 (o.cost + x)) (sym e);
        })
        | inr h ↦ inr (omega (arith, o.value, h.1))
      ]

  told_choice : (r p v : ℕ) → r < length n.routers → p < length t.prefixes → IsChoice (net p) told r p v → IsChoice (net p) shown r p v ⊎ ((d : ℕ) × IsDirect (net p) r p d × (d < v))
  told_choice r p v at known (inl e) = inl (inl e)
  told_choice r p v at known (inr (inl direct)) = inl (inr (inl direct))
  told_choice r p v at known (inr (inr h)) =
      elim (told_offer r h.1.0 h.1.1 p v at known h.1.2) [
        | inl o ↦ inl (inr (inr (h.0, (h.1.0, h.1.1, o))))
        | inr less ↦ inr less
      ]

  shown_choice : (r p v : ℕ) → r < length n.routers → p < length t.prefixes → IsChoice (net p) shown r p v → IsChoice (net p) told r p v
  shown_choice r p v at known (inl e) = inl e
  shown_choice r p v at known (inr (inl direct)) = inr (inl direct)
  shown_choice r p v at known (inr (inr h)) =
      elim (shown_offer r h.1.0 h.1.1 p v at known h.1.2) [
        | inl o ↦ inr (inr (h.0, (h.1.0, h.1.1, o)))
        | inr e ↦ inl e
      ]

  told_least : (r p v : ℕ) → r < length n.routers → p < length t.prefixes → IsLeastChoice (net p) told r p v → IsLeastChoice (net p) shown r p v
  told_least r p v at known least = record {
    chosen = elim (told_choice r p v at known least.chosen) [
      | inl chosen ↦ chosen
      | inr less ↦ absurd (omega (arith, least.least less.0 (inr (inl less.1)), less.2))
    ];
    least = λ w choice. least.least w (shown_choice r p w at known choice);
  }

  shown_least : (r p v : ℕ) → r < length n.routers → p < length t.prefixes → IsLeastChoice (net p) shown r p v → IsLeastChoice (net p) told r p v
  shown_least r p v at known least = record {
    chosen = shown_choice r p v at known least.chosen;
    least = λ w choice. elim (told_choice r p w at known choice) [
      | inl other ↦ least.least w other
      | inr less ↦ omega (arith, least.least less.0 (inr (inl less.1)), less.2)
    ];
  }

  -- each way of the route gives its metric by the one exactly where it does by the other
  told_given : (r p m : ℕ) (w : Way) → r < length n.routers → p < length t.prefixes → IsLeastChoice (net p) told r p m → IsEachGiven (net p) told r p (own_by m w) → IsGiven (net p) shown r p m w
  told_given r p m Unreachable at known least given = tt
  told_given r p m Here at known least given = given.here refl
  told_given r p m (Over l) at known least given =
      let hop = given.hops (IsOver l) (one_listed (IsOver l)) in
      elim (told_offer r l hop.1.0 p m at known hop.1.1) [
        | inl o ↦ (hop.0, (hop.1.0, o))
        | inr less ↦ absurd (omega (arith, least.least less.0 (inr (inl less.1)), less.2))
      ]

  shown_given : (r p m : ℕ) (w : Way) → r < length n.routers → p < length t.prefixes → FitsWay (net p) r p m w → IsGiven (net p) shown r p m w → IsEachGiven (net p) told r p (own_by m w)
  shown_given r p m Unreachable at known fits given = record { here = λ is. absurd (cc is); hops = λ h listed. absurd (none_listed h listed) }
  shown_given r p m Here at known fits given = record { here = λ is. given; hops = λ h listed. absurd (none_listed h listed) }
  shown_given r p m (Over l) at known fits given = record { here = λ is. absurd (cc is); hops = λ h listed. by_hop h (the_one (IsOver l) h listed) }
    where
      over : IsHopGiven (net p) told r p m (IsOver l)
      over = elim (shown_offer r l given.1.0 p m at known given.1.1) [
        | inl o ↦ (given.0, (given.1.0, o))
        | inr e ↦ absurd (omega (arith, e, fits.1))
      ]

      by_hop : (h : NextHop) → h ≡ IsOver l → IsHopGiven (net p) told r p m h
      by_hop h is = subst (λ (x : NextHop). IsHopGiven (net p) told r p m x) (sym is) over

  own_holds : (r p : ℕ) → r < length n.routers → p < length t.prefixes → Holds (net p) shown r p (T r p) → OwnHolds (net p) told r p (own_of (T r p))
  own_holds r p at known holds = record {
    choice = own_choice (T r p).way;
    given = shown_given r p (T r p).metric (T r p).way at known (shows.fits r p at (known_there p known)).fits.told.way_fits holds.given;
  }
    where
      own_choice : (w : Way) → IsLeastChoice (net p) told r p (own_by (T r p).metric w).metric
      own_choice Unreachable = shown_least r p (T r p).metric at known holds.choice
      own_choice Here = shown_least r p (T r p).metric at known holds.choice
      own_choice (Over l) = shown_least r p (T r p).metric at known holds.choice

  log_holds : (r p : ℕ) → r < length n.routers → p < length t.prefixes → OwnHolds (net p) told r p (own_of (T r p)) → Holds (net p) shown r p (T r p)
  log_holds r p at known holds =
      let least = choice_by (T r p).way holds.choice in
      record { choice = told_least r p (T r p).metric at known least; given = told_given r p (T r p).metric (T r p).way at known least holds.given }
    where
      choice_by : (w : Way) → IsLeastChoice (net p) told r p (own_by (T r p).metric w).metric → IsLeastChoice (net p) told r p (T r p).metric
      choice_by Unreachable choice = choice
      choice_by Here choice = choice
      choice_by (Over l) choice = choice

  pub own_sound : (r p : ℕ) → r < length n.routers → p < length t.prefixes → IsOwnSound n told t r p → IsSound n shown r p
  own_sound r p at known sound =
      let holds : OwnHolds (net p) told r p (own_of (T r p)) = subst (λ (x : OwnRoute). OwnHolds (net p) told r p x) (tells.routes r p at known)
      (subst (λ (b : List Block). OwnHolds (network_at n b p) told r p (route_at t r p)) tells.prefixes sound) in
      let here = log_holds r p at known holds in
      λ u fits. subst (λ (x : Route). Holds (net p) shown r p x) (one_there n plan shown r p (T r p) u at (shows.fits r p at (known_there p known)) fits) here

  pub sound_own : (r p : ℕ) → r < length n.routers → p < length t.prefixes → IsSound n shown r p → IsOwnSound n told t r p
  sound_own r p at known sound =
      subst (λ (b : List Block). OwnHolds (network_at n b p) told r p (route_at t r p)) (sym tells.prefixes)
      (subst (λ (x : OwnRoute). OwnHolds (net p) told r p x) (sym (tells.routes r p at known)) (own_holds r p at known (sound (T r p) (shows.fits r p at (known_there p known)))))

  right_by : (r p : ℕ) (w : Way) → IsOwnRight (net p) r p (own_by (T r p).metric w) → IsRight (net p) r p (record { metric = (T r p).metric; way = w })
  right_by r p Unreachable right = record { least = right.least; goes = tt }
  right_by r p Here right = record { least = right.least; goes = right.here refl }
  right_by r p (Over l) right = record { least = right.least; goes = right.hops (IsOver l) (one_listed (IsOver l)) }

  by_right : (r p : ℕ) (w : Way) → IsRight (net p) r p (record { metric = (T r p).metric; way = w }) → IsOwnRight (net p) r p (own_by (T r p).metric w)
  by_right r p Unreachable right = record { least = right.least; here = λ is. absurd (cc is); hops = λ h listed. absurd (none_listed h listed) }
  by_right r p Here right = record { least = right.least; here = λ is. right.goes; hops = λ h listed. absurd (none_listed h listed) }
  by_right r p (Over l) right = record {
    least = right.least;
    here = λ is. absurd (cc is);
    hops = λ h listed. subst (λ (x : NextHop). HopGoesRight (net p) p r (T r p).metric x) (sym (the_one (IsOver l) h listed)) right.goes;
  }

  pub own_shows : AreRightTables n t → ShowsRightTables n shown
  own_shows own = (T, shows, λ r p at known. right_at r p at (rw (sym tells.prefixes) at known))
    where
      right_at : (r p : ℕ) → r < length n.routers → p < length t.prefixes → IsRight (net p) r p (T r p)
      right_at r p at known = right_by r p (T r p).way (subst (λ (x : OwnRoute). IsOwnRight (net p) r p x) (tells.routes r p at known)
          (subst (λ (b : List Block). IsOwnRight (network_at n b p) r p (route_at t r p)) tells.prefixes (own.right r p at known)))

  pub shows_own : ShowsRightTables n shown → AreRightTables n t
  shows_own h = record { listed = tells.listed; right = right_at }
    where
      right_at : (r p : ℕ) → r < length n.routers → p < length t.prefixes → IsOwnRight (network_at n t.prefixes p) r p (route_at t r p)
      right_at r p at known =
          let there = known_there p known in
          let e : h.0 r p ≡ T r p = one_there n plan shown r p (h.0 r p) (T r p) at (h.1.fits r p at there) (shows.fits r p at there) in
          let right : IsRight (net p) r p (T r p) = subst (λ (x : Route). IsRight (net p) r p x) e (h.2 r p at there) in
          subst (λ (b : List Block). IsOwnRight (network_at n b p) r p (route_at t r p)) (sym tells.prefixes)
          (subst (λ (x : OwnRoute). IsOwnRight (net p) r p x) (sym (tells.routes r p at known)) (by_right r p (T r p).way right))

  -- the metric that is told is that of the route
  own_metric : (m : ℕ) (w : Way) → (own_by m w).metric ≡ m
  own_metric m Unreachable = refl
  own_metric m Here = refl
  own_metric m (Over l) = refl

  -- who is least is one
  one_least : (r p v w : ℕ) → IsLeastChoice (net p) shown r p v → IsLeastChoice (net p) shown r p w → v ≡ w
  one_least r p v w least other = omega (arith, least.least w other.chosen, other.least v least.chosen)

  nothing_listed : (i : ℕ) (h : NextHop) → slice_get [] i ≡ Some h → ⊥
  nothing_listed i h listed = cc listed

  one_hop : (x h : NextHop) (i : ℕ) → slice_get (x ∷ []) i ≡ Some h → x ≡ h
  one_hop x h zero listed = cc listed
  one_hop x h (suc i) listed = absurd (nothing_listed i h listed)

  -- what is wrong with a route whose metric is the equation is its way
  way_wrong : (r p m : ℕ) (w : Way) (wrong : Wrong) → (w ≡ Unreachable → ⊥) → IsWrongWay n told r p (own_by m w) wrong → wrong ≡ wrong_way w
  way_wrong r p m Unreachable wrong way is = absurd (way refl)
  way_wrong r p m Here wrong way (inl h) = h.2
  way_wrong r p m Here wrong way (inr h) = absurd (nothing_listed h.1.number h.1.hop h.1.listed)
  way_wrong r p m (Over l) wrong way (inl h) = absurd (cc h.0)
  way_wrong r p m (Over l) wrong way (inr h) = by_hop h.1.hop (one_hop (IsOver l) h.1.hop h.1.number h.1.listed) h.1.wrong
    where
      by_hop : (h : NextHop) → IsOver l ≡ h → IsWrongHop n told r p m h wrong → wrong ≡ wrongs.Over l
      by_hop h is at = subst (λ (x : NextHop). IsWrongHop n told r p m x wrong) (sym is) at

  choice_there : (r p v : ℕ) → IsLeastChoice (network_at n told.prefixes p) told r p v → IsLeastChoice (net p) told r p v
  choice_there r p v least = subst (λ (b : List Block). IsLeastChoice (network_at n b p) told r p v) (by.prefixes ∙ tells.prefixes) least

  -- what is wrong at a place, by both
  wrong_at : (r p m e : ℕ) (w : Way) (wrong : Wrong) → r < length n.routers → p < length t.prefixes → (Holds (net p) shown r p (record { metric = m; way = w }) → ⊥) → IsLeastChoice (net p) shown r p e
      → IsWrong n told r p (own_by m w) wrong → ((m ≢ e) × (wrong ≡ wrongs.Metric e)) ⊎ ((m ≡ e) × (wrong ≡ wrong_way w))
  wrong_at r p m e w wrong at known fails least (inl h) =
      let same : h.0 ≡ e = one_least r p h.0 e (told_least r p h.0 at known (choice_there r p h.0 h.1)) least in
      inl (λ is. h.2 (own_metric m w ∙ is ∙ sym same), h.3 ∙ ap wrongs.Metric same)
  wrong_at r p m e w wrong at known fails least (inr h) =
      let own : IsLeastChoice (net p) told r p m = choice_there r p m (rw (own_metric m w) at h.0) in
      let here : IsLeastChoice (net p) shown r p m = told_least r p m at known own in
      inr (one_least r p m e here least, way_wrong r p m w wrong (λ is. fails (unreachable_holds here w is)) h.1)
    where
      unreachable_holds : IsLeastChoice (net p) shown r p m → (x : Way) → x ≡ Unreachable → Holds (net p) shown r p (record { metric = m; way = x })
      unreachable_holds here Unreachable is = record { choice = here; given = tt }
      unreachable_holds here Here is = absurd (cc is)
      unreachable_holds here (Over l) is = absurd (cc is)

  -- the first place that does not hold is the same
  same_first : (after : Option (ℕ × ℕ)) (r p : ℕ) → IsFirst n (length t.prefixes) after (IsOwnSound n told t) r p → IsFirst n (length shown.prefixes) after (IsSound n shown) r p
  same_first after r p first = record {
    router = first.router;
    prefix = known_there p first.prefix;
    behind = first.behind;
    before = λ s q known later sooner.
        let known' : q < length t.prefixes = rw (sym tells.prefixes) at known in
        own_sound s q (before_known s q r p first.router sooner) known' (first.before s q known' later sooner);
    fails = λ sound. first.fails (sound_own r p first.router first.prefix sound);
  }
    where
      before_known : (s q r p : ℕ) → r < length n.routers → IsBefore s q r p → s < length n.routers
      before_known s q r p at (inl less) = omega (arith, at, less)
      before_known s q r p at (inr same) = omega (arith, at, same.0)

  pub same_place : (after : Option (ℕ × ℕ)) (place : Place2) (own : OwnPlace) → IsNextUnsettled n shown after place → IsNextWrong n told t after own → IsSamePlace place own
  same_place after place own next wrong =
      let one = one_first n (length shown.prefixes) after (IsSound n shown) own.router own.prefix place.router place.prefix
      (same_first after own.router own.prefix wrong.first) next.first in
      same_values place own next.first.router (rw (sym tells.prefixes) at next.first.prefix) next.values wrong.values one.0 one.1
    where
      same_values : (place : Place2) (own : OwnPlace) → place.router < length n.routers → place.prefix < length t.prefixes → IsFailing n shown place → IsOwnFailing n told t own
          → own.router ≡ place.router → own.prefix ≡ place.prefix → IsSamePlace place own
      same_values place own at known log is router prefix =
          let r = place.router in
          let p = place.prefix in
          let route : Route = record { metric = place.metric; way = place.way } in
          let e : T r p ≡ route = one_there n plan shown r p (T r p) route at (shows.fits r p at (known_there p known)) log.fits in
          let told_as : route_at t own.router own.prefix ≡ own_by place.metric place.way =
          ap (λ (x : ℕ). route_at t x own.prefix) router ∙ ap (λ (x : ℕ). route_at t r x) prefix ∙ tells.routes r p at known ∙ ap own_of e in
          let fails : IsWrong n told r p (own_by place.metric place.way) own.wrong =
          subst (λ (x : OwnRoute). IsWrong n told r p x own.wrong) told_as
          (subst (λ (x : ℕ). IsWrong n told r x (route_at t own.router own.prefix) own.wrong) prefix
          (subst (λ (x : ℕ). IsWrong n told x own.prefix (route_at t own.router own.prefix) own.wrong) router is.wrong)) in
          record {
            router = router;
            prefix = prefix;
            metric = is.metric ∙ ap (λ (x : OwnRoute). x.metric) told_as ∙ own_metric place.metric place.way;
            wrong = wrong_at r p place.metric place.equation place.way own.wrong at known log.fails log.equation fails;
          }

module _ (k : RoundTrip) where
  pub one_equation : HaveOneEquation k
  one_equation r p v at known = (
    told_least k.log.net k.log.shown k.log.tables k.log.plan k.log.shows k.own k.told k.tells k.by r p v at known,
    shown_least k.log.net k.log.shown k.log.tables k.log.plan k.log.shows k.own k.told k.tells k.by r p v at known,
  )

  pub hold_alike : HoldAlike k
  hold_alike r p at known = (
    own_sound k.log.net k.log.shown k.log.tables k.log.plan k.log.shows k.own k.told k.tells k.by r p at known,
    sound_own k.log.net k.log.shown k.log.tables k.log.plan k.log.shows k.own k.told k.tells k.by r p at known,
  )

  pub name_alike : NameAlike k
  name_alike after place own =
      same_place k.log.net k.log.shown k.log.tables k.log.plan k.log.shows k.own k.told k.tells k.by after place own

  pub right_alike : AreRightAlike k
  right_alike = (
    own_shows k.log.net k.log.shown k.log.tables k.log.plan k.log.shows k.own k.told k.tells k.by,
    shows_own k.log.net k.log.shown k.log.tables k.log.plan k.log.shows k.own k.told k.tells k.by,
  )
