-- Walks over the routers' own tables come down, and end where the prefix is.
use Rattle.std.proofs.Common.{ℕ, ◌<◌, ◌≤◌, inl, inr, List, [], ◌∷◌, ◌++◌, length, arith}
use Rattle.rip_plan.specs.Network.{Network}
use Rattle.rip_plan.specs.Relations.{IsLawful}
use Rattle.rip_plan.specs.PrefixNetworks.{IsNetwork}
use Rattle.rip_plan.proofs.PrefixNetworkLemmas.{prefix_network}
use Rattle.rip_table.specs.State.{State}
use Rattle.rip_routes.specs.OwnTables.{AreOwnTables, OwnTables, route_at}
use Rattle.rip_routes.specs.declared.next_hop.NextHop.{NextHop}
use Rattle.rip_routes.specs.declared.next_hop.NextHop.TheVariants.{Over, Via}
use Rattle.rip_check.specs.Networks.{block_at, network_at}
use Rattle.rip_check.specs.OwnTells.{IsToldBy}
use Rattle.rip_check.specs.OwnSettled.{IsHopGiven, OwnHoldsAll}
use Rattle.rip_check.specs.Tables.{Offers}
use Rattle.rip_check.specs.OwnWalks.{EachOwnCanGoOn, EachOwnEndsThere, EachOwnGoesOn, EachOwnHasWay, EachOwnIsShort, IsOwnWalk, LeadsTo, OwnGoesTo, OwnPacketsArrive}
use Rattle.rip_check.proofs.OwnRouteLemmas.{route_is}
use Rattle.rip_check.proofs.OwnOfferLemmas.{own_offer_below}

module _ (n : Network) (told : State) (t : OwnTables) (plan : IsLawful n) (are : AreOwnTables t) (by : IsToldBy n t told) (holds : OwnHoldsAll n told t) where
  -- the network of a prefix, and the laws that it keeps
  abbrev net : ℕ → Network
  net p = network_at n t.prefixes p

  its : (p : ℕ) → IsNetwork (net p)
  its p = prefix_network n plan (block_at t.prefixes p)

  -- to whom a next hop leads that gives the metric, it is offered by
  offered : (r p s m : ℕ) (h : NextHop) → IsHopGiven (net p) told r p m h → LeadsTo (net p) told r p m h s → (l : ℕ) × Offers (net p) told r l s p m
  offered r p s m (Over l) given leads = (l, leads)
  offered r p s m (Via a) given (inl (l, holder)) = let (k, its, offer) = given.holders l s holder in (k, offer)
  offered r p s m (Via a) given (inr (l, has, offer)) = (l, offer)

  -- the next router is known, and its metric is less
  next : (p r s : ℕ) → r < length n.routers → p < length t.prefixes → (route_at t r p).metric < 16 → OwnGoesTo n told t p r s → (s < length n.routers) × ((route_at t s p).metric < (route_at t r p).metric)
  next p r s at known small g =
      let (l, o) = offered r p s (route_at t r p).metric g.hop ((holds r p at known).given.hops g.hop g.listed) g.leads in
      let s_at = (its p).neighbour_known r l s at o.neighbour in
      let e = own_offer_below n told t by r l s p (route_at t r p).metric s_at known o small in
      let least = (its p).cost_least o.here.0 r l o.cost o.here.1 in
      (s_at, omega (arith, e.0, least))

  ends_from : (p r : ℕ) (rest : List ℕ) → r < length n.routers → p < length t.prefixes → (route_at t r p).metric < 16 → EachOwnGoesOn n told t p r rest →
      length (r ∷ rest) ≤ (route_at t r p).metric
  ends_from p r [] at known small goes = (route_is t are r p).least
  ends_from p r (s ∷ rest) at known small goes =
      let down = next p r s at known small goes.0 in
      let ih : length (s ∷ rest) ≤ (route_at t s p).metric = ends_from p s rest down.0 known (omega (arith, down.1, small)) goes.1 in
      omega (arith, ih, down.1)

  short : EachOwnIsShort n told t
  short p r rest known walk =
      let most = ends_from p r rest walk.0 known walk.1 walk.2 in
      (most, omega (arith, most, walk.1))

  -- the last router of a walk is known, and its metric is below 16
  last_from : (p z r : ℕ) (before : List ℕ) → r < length n.routers → p < length t.prefixes → (route_at t r p).metric < 16 → EachOwnGoesOn n told t p r (before ++ z ∷ []) →
      (z < length n.routers) × ((route_at t z p).metric < 16)
  last_from p z r [] at known small goes =
      let down = next p r z at known small goes.0 in
      (down.0, omega (arith, down.1, small))
  last_from p z r (s ∷ before) at known small goes =
      let down = next p r s at known small goes.0 in
      last_from p z s before down.0 known (omega (arith, down.1, small)) goes.1

  last : (p z : ℕ) (before : List ℕ) → p < length t.prefixes → IsOwnWalk n told t p (before ++ z ∷ []) → (z < length n.routers) × ((route_at t z p).metric < 16)
  last p z [] known walk = (walk.0, walk.1)
  last p z (r ∷ before) known walk = last_from p z r before walk.0 known walk.1 walk.2

  -- one step more
  more_from : (p z s r : ℕ) (before : List ℕ) → EachOwnGoesOn n told t p r (before ++ z ∷ []) → OwnGoesTo n told t p z s → EachOwnGoesOn n told t p r (before ++ z ∷ s ∷ [])
  more_from p z s r [] goes step = (goes.0, (step, tt))
  more_from p z s r (q ∷ before) goes step = (goes.0, more_from p z s q before goes.1 step)

  more : (p z s : ℕ) (before : List ℕ) → IsOwnWalk n told t p (before ++ z ∷ []) → OwnGoesTo n told t p z s → IsOwnWalk n told t p (before ++ z ∷ s ∷ [])
  more p z s [] walk step = (walk.0, walk.1, (step, tt))
  more p z s (r ∷ before) walk step = (walk.0, walk.1, more_from p z s r before walk.2 step)

  -- to whom a next hop leads that gives the metric
  led : (p z m : ℕ) (h : NextHop) → IsHopGiven (net p) told z p m h → (s : ℕ) × LeadsTo (net p) told z p m h s
  led p z m (Over l) given = given.1
  led p z m (Via a) given = (given.neighbour, inr (given.link, given.has, given.offer))

  has_way : EachOwnHasWay n told t
  has_way p z before known walk = (route_is t are z p).way (last p z before known walk).1

  goes_on : EachOwnCanGoOn n told t
  goes_on p z before h known walk listed =
      let at = last p z before known walk in
      let (s, leads) = led p z (route_at t z p).metric h ((holds z p at.0 known).given.hops h listed) in
      (s, leads, more p z s before walk (record { hop = h; listed = listed; leads = leads }))

  there : EachOwnEndsThere n told t
  there p z before known walk here = (holds z p (last p z before known walk).0 known).given.here here

  pub own_arrive : OwnPacketsArrive n told t
  own_arrive = record { short = short; has_way = has_way; go_on = goes_on; there = there }
