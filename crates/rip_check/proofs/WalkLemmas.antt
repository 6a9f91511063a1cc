-- Walks come down, and end where the prefix is.
use Rattle.std.proofs.Common.{◌≡◌, ℕ, ◌<◌, ◌≤◌, List, [], ◌∷◌, ◌++◌, length, map, refl, arith}
use Rattle.rip_plan.specs.Network.{Network}
use Rattle.rip_plan.specs.PrefixNetworks.{IsNetwork}
use Rattle.rip_plan.specs.Relations.{IsLawful}
use Rattle.rip_plan.proofs.PrefixNetworkLemmas.{prefix_network}
use Rattle.rip_table.specs.State.{State}
use Rattle.rip_check.specs.Networks.{block_at, network_at}
use Rattle.rip_check.specs.Tables.{Tables, Shows, FitsWay}
use Rattle.rip_check.specs.declared.way.Way.{Way}
use Rattle.rip_check.specs.declared.way.Way.TheVariants.{Unreachable, Here, Over}
use Rattle.rip_check.specs.Settled.{HoldsAll, IsGiven}
use Rattle.rip_check.specs.Walks.{EachCanGoOn, EachEndsThere, EachGoesOn, EachIsShort, GoesTo, HasArrived, IsFalling, IsWalk}
use Rattle.rip_check.proofs.ShownLemmas.{metric_least, offer_below}

module _ (n : Network) (shown : State) (T : Tables) (plan : IsLawful n) (shows : Shows n shown T) where
  -- the network of a prefix, and the laws that it keeps
  abbrev net : ℕ → Network
  net p = network_at n shown.prefixes p

  its : (p : ℕ) → IsNetwork (net p)
  its p = prefix_network n plan (block_at shown.prefixes p)

  -- the next router is known, and its metric is less
  next : (p r s : ℕ) → p < length shown.prefixes → r < length n.routers → (T r p).metric < 16 → GoesTo n shown T p r s → (s < length n.routers) × ((T s p).metric < (T r p).metric)
  next p r s known at small g =
      let e = offer_below n shown T plan shows r g.link s p (T r p).metric g.offer at known small in
      let least = (its p).cost_least g.offer.here.0 r g.link g.offer.cost g.offer.here.1 in
      ((its p).neighbour_known r g.link s at g.offer.neighbour, omega (arith, e, least))

  falls_from : (p r : ℕ) (rest : List ℕ) → p < length shown.prefixes → r < length n.routers → (T r p).metric < 16 → EachGoesOn n shown T p r rest →
      IsFalling (map (λ x. (T x p).metric) (r ∷ rest))
  falls_from p r [] known at small goes = metric_least (net p) r p (T r p).metric (T r p).way (shows.fits r p at known).fits.told.way_fits
  falls_from p r (s ∷ rest) known at small goes =
      let down = next p r s known at small goes.0 in
      (down.1, falls_from p s rest known down.0 (omega (arith, down.1, small)) goes.1)

  pub walks_fall : (p : ℕ) (walk : List ℕ) → p < length shown.prefixes → IsWalk n shown T p walk → IsFalling (map (λ r. (T r p).metric) walk)
  walks_fall p [] known walk = absurd walk
  walks_fall p (r ∷ rest) known walk = falls_from p r rest known walk.0 walk.1 walk.2

  ends_from : (p r : ℕ) (rest : List ℕ) → p < length shown.prefixes → r < length n.routers → (T r p).metric < 16 → EachGoesOn n shown T p r rest →
      length (r ∷ rest) ≤ (T r p).metric
  ends_from p r [] known at small goes = metric_least (net p) r p (T r p).metric (T r p).way (shows.fits r p at known).fits.told.way_fits
  ends_from p r (s ∷ rest) known at small goes =
      let down = next p r s known at small goes.0 in
      let ih : length (s ∷ rest) ≤ (T s p).metric = ends_from p s rest known down.0 (omega (arith, down.1, small)) goes.1 in
      omega (arith, ih, down.1)

  pub walks_end : EachIsShort n shown T
  walks_end p r rest known walk =
      let short = ends_from p r rest known walk.0 walk.1 walk.2 in
      (short, omega (arith, short, walk.1))

  -- who comes after a router that has not arrived
  goes_case : (p z : ℕ) (w : Way) → (T z p).way ≡ w → FitsWay (net p) z p (T z p).metric w → IsGiven (net p) shown z p (T z p).metric w → (T z p).metric < 16 →
      (HasArrived T p z → ⊥) → (s : ℕ) × GoesTo n shown T p z s
  goes_case p z Unreachable is fits given small on = absurd (omega (arith, fits, small))
  goes_case p z Here is fits given small on = absurd (on is)
  goes_case p z (Over l) is fits given small on = (given.1.0, record { link = l; way = is; offer = given.1.1 })

  -- the last router is known
  last_from : (p z r : ℕ) (before : List ℕ) → p < length shown.prefixes → r < length n.routers → (T r p).metric < 16 → EachGoesOn n shown T p r (before ++ z ∷ []) →
      z < length n.routers
  last_from p z r [] known at small goes = (next p r z known at small goes.0).0
  last_from p z r (s ∷ before) known at small goes =
      let down = next p r s known at small goes.0 in
      last_from p z s before known down.0 (omega (arith, down.1, small)) goes.1

  last : (p z : ℕ) (before : List ℕ) → p < length shown.prefixes → IsWalk n shown T p (before ++ z ∷ []) → z < length n.routers
  last p z [] known walk = walk.0
  last p z (r ∷ before) known walk = last_from p z r before known walk.0 walk.1 walk.2

  module _ (holds : HoldsAll n shown T) where
    goes_on_from : (p z r : ℕ) (before : List ℕ) → p < length shown.prefixes → r < length n.routers → (T r p).metric < 16 → EachGoesOn n shown T p r (before ++ z ∷ []) →
        (HasArrived T p z → ⊥) → (s : ℕ) × EachGoesOn n shown T p r (before ++ z ∷ s ∷ [])
    goes_on_from p z r [] known at small goes on =
        let down = next p r z known at small goes.0 in
        let more = goes_case p z (T z p).way refl (shows.fits z p down.0 known).fits.told.way_fits (holds z p down.0 known).given (omega (arith, down.1, small)) on in
        (more.0, (goes.0, (more.1, tt)))
    goes_on_from p z r (s ∷ before) known at small goes on =
        let down = next p r s known at small goes.0 in
        let more = goes_on_from p z s before known down.0 (omega (arith, down.1, small)) goes.1 on in
        (more.0, (goes.0, more.1))

    pub walks_go_on : EachCanGoOn n shown T
    walks_go_on p z [] known walk on =
        let more = goes_case p z (T z p).way refl (shows.fits z p walk.0 known).fits.told.way_fits (holds z p walk.0 known).given walk.1 on in
        (more.0, (walk.0, walk.1, (more.1, tt)))
    walks_go_on p z (r ∷ before) known walk on =
        let more = goes_on_from p z r before known walk.0 walk.1 walk.2 on in
        (more.0, (walk.0, walk.1, more.1))

    pub walks_end_there : EachEndsThere n shown T
    walks_end_there p z before known walk there =
        let given = (holds z p (last p z before known walk) known).given in
        rw there at given
