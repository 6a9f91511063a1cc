-- Right tables satisfy every equation, although routes are poisoned.
use Rattle.std.proofs.Common.{◌≡◌, ℕ, ◌+◌, ◌<◌, ◌≤◌, ◌⊎◌, inl, inr, unwrap_or, List, [], ◌∷◌, refl, arith, length}
use Rattle.std.proofs.lemmas.Bool.{cases_eq, cases_lt}
use Rattle.rip_plan.specs.Network.{Network}
use Rattle.rip_plan.specs.PrefixNetworks.{IsNetwork}
use Rattle.rip_plan.specs.Relations.{IsAttached, IsKept, IsLawful, IsInterface, HasCost, IsOn}
use Rattle.rip_plan.proofs.PrefixNetworkLemmas.{prefix_network}
use Rattle.rip_table.specs.State.{State}
use Rattle.rip_check.specs.Networks.{block_at, network_at}
use Rattle.rip_check.specs.Paths.{Hop, IsPath, MayHop}
use Rattle.rip_check.specs.Tables.{Tables, Shows, FitsWay, MayShow}
use Rattle.rip_check.specs.declared.way.Way.{Way}
use Rattle.rip_check.specs.declared.way.Way.TheVariants.{Unreachable, Here, Over}
use Rattle.rip_check.specs.Settled.{HoldsAll, IsGiven, IsChoice, AllRight, GoesRight}
use Rattle.rip_check.proofs.ShownLemmas.{some_is, metric_most, offer_below, offer_tells}
use Rattle.rip_check.proofs.PlanLemmas.{carried_direct}
use Rattle.rip_check.specs.Metrics.{metric_at}

module _ (n : Network) (shown : State) (T : Tables) (plan : IsLawful n) (shows : Shows n shown T) (right : AllRight n shown.prefixes T) where
  -- the network of a prefix, and the laws that it keeps
  abbrev net : ℕ → Network
  net p = network_at n shown.prefixes p

  its : (p : ℕ) → IsNetwork (net p)
  its p = prefix_network n plan (block_at shown.prefixes p)

  -- a metric below 16 has a path
  path_below : (r p : ℕ) → r < length n.routers → p < length shown.prefixes → (T r p).metric < 16 → (hops : List Hop) × IsPath (net p) p r hops (T r p).metric
  path_below r p at known small =
      elim (right r p at known).least.reached [
        | inl e ↦ absurd (omega (arith, e, small))
        | inr h ↦ h.1
      ]

  -- the metric and the cost to a neighbour are no less than the metric
  step_least : (r l c s p : ℕ) → r < length n.routers → p < length shown.prefixes → HasCost (net p) r l c → MayHop (net p) p r l s → (T s p).metric < 16 →
      (T r p).metric ≤ c + (T s p).metric
  step_least r l c s p at known has hop small =
      let path = path_below s p ((its p).neighbour_known r l s at hop.neighbour) known small in
      (right r p at known).least.least (record { link = l; to = s } ∷ path.0) (c + (T s p).metric)
      (c, (T s p).metric, has, hop, path.1, refl)

  -- a router that goes over a link does not keep the prefix
  takes_case : (r p m k : ℕ) (w : Way) → w ≡ Over k → GoesRight (net p) p r m w → IsKept (net p) r p → ⊥
  takes_case r p m k Unreachable is goes kept = cc is
  takes_case r p m k Here is goes kept = cc is
  takes_case r p m k (Over l) is goes kept = goes.2.3.goes_on kept

  takes : (r p k : ℕ) → r < length n.routers → p < length shown.prefixes → (T r p).way ≡ Over k → IsKept (net p) r p → ⊥
  takes r p k at known is kept = takes_case r p (T r p).metric k (T r p).way is (right r p at known).goes kept

  -- no choice is less than the metric
  choice_least : (r p : ℕ) → r < length n.routers → p < length shown.prefixes → (v : ℕ) → IsChoice (net p) shown r p v → (T r p).metric ≤ v
  choice_least r p at known v (inl e) = omega (arith, e, metric_most (net p) r p (T r p).metric (T r p).way (shows.fits r p at known).fits.told.way_fits)
  choice_least r p at known v (inr (inl d)) = (right r p at known).least.least [] v d
  choice_least r p at known v (inr (inr h)) =
      let most = metric_most (net p) r p (T r p).metric (T r p).way (shows.fits r p at known).fits.told.way_fits in
      let l = h.1.0 in
      let s = h.1.1 in
      let o = h.1.2 in
      let split : (v < 16) ⊎ (16 ≤ v) = cases_lt v 16 in
      elim split [
        | inl small ↦
            let e = offer_below n shown T plan shows r l s p v o at known small in
            let less : (T s p).metric < 16 = omega (arith, e, small) in
            let tells = offer_tells n shown T plan shows r l s p v o at known small (λ k is. takes s p k ((its p).neighbour_known r l s at o.neighbour) known is) in
            let hop : MayHop (net p) p r l s = record { neighbour = o.neighbour; goes_on = h.0; tells = tells } in
            omega (arith, e, step_least r l o.cost s p at known o.here hop less)
        | inr big ↦ omega (arith, most, big)
      ]

  -- a router that is next on a least path shows its metric: it does not point back over the link
  shows_metric : (r l c s p j d : ℕ) → r < length n.routers → p < length shown.prefixes → HasCost (net p) r l c → MayHop (net p) p r l s → IsInterface (net p) j s l d →
      (T r p).metric ≡ c + (T s p).metric → (T r p).metric < 16 →
      (w : Way) → FitsWay (net p) s p (T s p).metric w → GoesRight (net p) p s (T s p).metric w → MayShow (net p) s l p (T s p).metric w (metric_at shown j p) →
      unwrap_or (metric_at shown j p) 16 ≡ (T s p).metric
  shows_metric r l c s p j d at known has hop there e small Unreachable fits goes told = absurd (omega (arith, e, small, fits))
  shows_metric r l c s p j d at known has hop there e small Here fits goes (inl is) = some_is (metric_at shown j p) _ is.1
  shows_metric r l c s p j d at known has hop there e small Here fits goes (inr (inr attached, silent)) = absurd (hop.tells attached)
  shows_metric r l c s p j d at known has hop there e small Here fits goes (inr (inl on, silent)) =
      let direct = carried_direct (net p) (its p) r l c p has on in
      let le = (right r p at known).least.least [] direct.0 direct.1 in
      absurd (omega (arith, le, direct.2, e, fits))
  shows_metric r l c s p j d at known has hop there e small (Over k) fits goes (inr h) = some_is (metric_at shown j p) _ h.1
  shows_metric r l c s p j d at known has hop there e small (Over k) fits goes (inl h) =
      -- s goes over this very link: to r, or to one that is r's neighbour too; either way r has a cheaper path
      let t = goes.0 in
      let path = goes.2 in
      let same : (t ≡ r) ⊎ (t ≡ r → ⊥) = cases_eq t r in
      let cost = (its p).cost_least path.2.0 s k path.0 path.2.1 in
      elim same [
        | inl is ↦
            let from_r : IsPath (net p) p r goes.1 path.1 = rw is at path.4 in
            let le = (right r p at known).least.least goes.1 path.1 from_r in
            absurd (omega (arith, le, e, path.5, cost))
        | inr not ↦
            let on : IsOn (net p) t l = rw h.0 at path.3.neighbour.there in
            let tells : IsAttached (net p) t p l → ⊥ = rw h.0 at path.3.tells in
            let near_too : MayHop (net p) p r l t = record { neighbour = record { other = not; here = hop.neighbour.here; there = on }; goes_on = hop.goes_on; tells = tells } in
            let le = (right r p at known).least.least (record { link = l; to = t } ∷ goes.1) (c + path.1) (c, path.1, has, near_too, path.4, refl) in
            absurd (omega (arith, le, e, path.5, cost))
      ]

  -- what the way gives is the metric
  given_case : (r p : ℕ) → r < length n.routers → p < length shown.prefixes → (w : Way) → FitsWay (net p) r p (T r p).metric w → GoesRight (net p) p r (T r p).metric w →
      IsGiven (net p) shown r p (T r p).metric w
  given_case r p at known Unreachable fits goes = tt
  given_case r p at known Here fits goes = goes
  given_case r p at known (Over l) fits goes =
      let s = goes.0 in
      let path = goes.2 in
      let hop = path.3 in
      let on = hop.neighbour.there in
      let s_at = (its p).neighbour_known r l s at hop.neighbour in
      let le = (right s p s_at known).least.least goes.1 path.1 path.4 in
      let cost = (its p).cost_least path.2.0 r l path.0 path.2.1 in
      let less : (T s p).metric < 16 = omega (arith, le, path.5, fits.1, cost) in
      let up = step_least r l path.0 s p at known path.2 hop less in
      let e : (T r p).metric ≡ path.0 + (T s p).metric = omega (arith, le, up, path.5) in
      let told = shows_metric r l path.0 s p on.1.0 on.0 at known path.2 hop on.1.1 e fits.1 (T s p).way
      (shows.fits s p s_at known).fits.told.way_fits (right s p s_at known).goes ((shows.fits s p s_at known).fits.told.as_told on.1.0 l on.0 on.1.1) in
      (hop.goes_on, (s, record { neighbour = hop.neighbour; cost = path.0; here = path.2; interface = on.1.0; its_cost = on.0; there = on.1.1; value = omega (arith, e, told, fits.1) }))

  -- the metric is a choice
  chosen_case : (r p : ℕ) (w : Way) → FitsWay (net p) r p (T r p).metric w → IsGiven (net p) shown r p (T r p).metric w → IsChoice (net p) shown r p (T r p).metric
  chosen_case r p Unreachable fits given = inl fits
  chosen_case r p Here fits given = inr (inl given)
  chosen_case r p (Over l) fits given = inr (inr (given.0, (l, given.1.0, given.1.1)))

  pub holds : HoldsAll n shown T
  holds r p at known =
      let fits = (shows.fits r p at known).fits.told.way_fits in
      let given = given_case r p at known (T r p).way fits (right r p at known).goes in
      record {
        choice = record { chosen = chosen_case r p (T r p).way fits given; least = choice_least r p at known };
        given = given;
      }
