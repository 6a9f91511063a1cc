-- Where every equation holds, the metrics are the least costs of paths.
use Rattle.std.proofs.Common.{◌≡◌, ℕ, zero, suc, ◌<◌, ◌≤◌, ◌⊎◌, inl, inr, List, [], ◌∷◌, arith, length}
use Rattle.std.proofs.lemmas.Bool.{cases_lt}
use Rattle.rip_plan.specs.Network.{Network}
use Rattle.rip_plan.specs.PrefixNetworks.{IsNetwork}
use Rattle.rip_plan.specs.Relations.{IsKept, IsLawful}
use Rattle.rip_plan.proofs.PrefixNetworkLemmas.{prefix_network}
use Rattle.rip_table.specs.State.{State}
use Rattle.rip_check.specs.Networks.{block_at, network_at}
use Rattle.rip_check.specs.Paths.{Hop, IsPath}
use Rattle.rip_check.specs.Tables.{Tables, Shows, FitsWay}
use Rattle.rip_check.specs.declared.way.Way.{Way}
use Rattle.rip_check.specs.declared.way.Way.TheVariants.{Unreachable, Here, Over}
use Rattle.rip_check.specs.Settled.{HoldsAll, IsGiven, AllRight, GoesRight}
use Rattle.rip_check.proofs.ShownLemmas.{metric_most, offer_below, offer_tells}
use Rattle.rip_check.proofs.PoisonLemmas.{poison}

-- a way that begins a path of the metric has a path of the metric
pub path_of : (n : Network) (r p m : ℕ) (w : Way) → FitsWay n r p m w → m < 16 → GoesRight n p r m w → (hops : List Hop) × IsPath n p r hops m
path_of n r p m Unreachable fits small goes = absurd (omega (arith, fits, small))
path_of n r p m Here fits small goes = ([], goes)
path_of n r p m (Over l) fits small goes = (record { link = l; to = goes.0 } ∷ goes.1, goes.2)

module _ (n : Network) (shown : State) (T : Tables) (plan : IsLawful n) (shows : Shows n shown T) (holds : HoldsAll n shown T) where
  -- the network of a prefix, and the laws that it keeps
  abbrev net : ℕ → Network
  net p = network_at n shown.prefixes p

  its : (p : ℕ) → IsNetwork (net p)
  its p = prefix_network n plan (block_at shown.prefixes p)

  -- a router that goes over a link does not keep the prefix
  takes_case : (r p k : ℕ) (w : Way) → w ≡ Over k → IsGiven (net p) shown r p (T r p).metric w → IsKept (net p) r p → ⊥
  takes_case r p k Unreachable is given kept = cc is
  takes_case r p k Here is given kept = cc is
  takes_case r p k (Over l) is given kept = given.0 kept

  takes : (r p k : ℕ) → r < length n.routers → p < length shown.prefixes → (T r p).way ≡ Over k → IsKept (net p) r p → ⊥
  takes r p k at known is kept = takes_case r p k (T r p).way is (holds r p at known).given kept

  -- a route whose next routers have paths of their metrics has one
  goes_case : (r p : ℕ) → r < length n.routers → p < length shown.prefixes → (w : Way) → FitsWay (net p) r p (T r p).metric w → IsGiven (net p) shown r p (T r p).metric w →
      ((s : ℕ) → s < length n.routers → (T s p).metric < (T r p).metric → (hops : List Hop) × IsPath (net p) p s hops (T s p).metric) →
      GoesRight (net p) p r (T r p).metric w
  goes_case r p at known Unreachable fits given ih = tt
  goes_case r p at known Here fits given ih = given
  goes_case r p at known (Over l) fits given ih =
      let s = given.1.0 in
      let o = given.1.1 in
      let s_known = (its p).neighbour_known r l s at o.neighbour in
      let e = offer_below n shown T plan shows r l s p (T r p).metric o at known fits.1 in
      let least = (its p).cost_least o.here.0 r l o.cost o.here.1 in
      let falls : (T s p).metric < (T r p).metric = omega (arith, e, least) in
      let rest = ih s s_known falls in
      let tells = offer_tells n shown T plan shows r l s p (T r p).metric o at known fits.1 (λ k is. takes s p k s_known known is) in
      (s, rest.0, (o.cost, (T s p).metric, o.here, record { neighbour = o.neighbour; goes_on = given.0; tells = tells }, rest.1, e))

  -- by descent on the metric
  goes_below : (bound r p : ℕ) → r < length n.routers → p < length shown.prefixes → (T r p).metric < bound → GoesRight (net p) p r (T r p).metric (T r p).way
  goes_below zero r p at known below = absurd (omega arith)
  goes_below (suc bound) r p at known below =
      goes_case r p at known (T r p).way (shows.fits r p at known).fits.told.way_fits (holds r p at known).given
      (λ s s_at falls.
      let small : (T s p).metric < bound = omega (arith, falls, below) in
      let less : (T s p).metric < 16 = omega (arith, falls, metric_most (net p) r p (T r p).metric (T r p).way (shows.fits r p at known).fits.told.way_fits) in
      path_of (net p) s p (T s p).metric (T s p).way (shows.fits s p s_at known).fits.told.way_fits less (goes_below bound s p s_at known small))

  pub goes_right : (r p : ℕ) → r < length n.routers → p < length shown.prefixes → GoesRight (net p) p r (T r p).metric (T r p).way
  goes_right r p at known = goes_below (suc (T r p).metric) r p at known (omega arith)

  -- by induction on the path
  pub no_path_is_cheaper : (r p : ℕ) (hops : List Hop) (v : ℕ) → r < length n.routers → p < length shown.prefixes → IsPath (net p) p r hops v → (T r p).metric ≤ v
  no_path_is_cheaper r p [] v at known path = (holds r p at known).choice.least v (inr (inl path))
  no_path_is_cheaper r p (h ∷ hops) v at known path =
      let hop = path.3 in
      let le = poison n shown T plan shows holds r h.link path.0 h.to p at known path.2 hop in
      let ih = no_path_is_cheaper h.to p hops path.1 ((its p).neighbour_known r h.link h.to at hop.neighbour) known path.4 in
      omega (arith, le, ih, path.5)

  pub reached : (r p : ℕ) → r < length n.routers → p < length shown.prefixes → (T r p).metric < 16 →
      GoesRight (net p) p r (T r p).metric (T r p).way × ((hops : List Hop) × IsPath (net p) p r hops (T r p).metric)
  reached r p at known small =
      let goes = goes_right r p at known in
      (goes, path_of (net p) r p (T r p).metric (T r p).way (shows.fits r p at known).fits.told.way_fits small goes)

  pub right : AllRight n shown.prefixes T
  right r p at known =
      let most = metric_most (net p) r p (T r p).metric (T r p).way (shows.fits r p at known).fits.told.way_fits in
      let goes = goes_right r p at known in
      let split : ((T r p).metric < 16) ⊎ (16 ≤ (T r p).metric) = cases_lt (T r p).metric 16 in
      record {
        least = record {
          reached = elim split [
            | inl small ↦ inr (small, (reached r p at known small).1)
            | inr big ↦ inl (omega (arith, most, big))
          ];
          least = λ hops w path. no_path_is_cheaper r p hops w at known path;
        };
        goes = goes;
      }
