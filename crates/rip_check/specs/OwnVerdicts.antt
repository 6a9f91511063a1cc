-- Verdicts on the routers' own tables.
use Rattle.std.specs.Prelude.{◌≡◌, ◌≢◌, ℕ, ◌≤◌, ◌<◌, ◌⊎◌, true, Option, None, Some, length, slice_get}
use Rattle.rip_plan.specs.Network.{Network}
use Rattle.rip_plan.specs.Relations.{IsDirect, IsInterface}
use Rattle.rip_table.specs.State.{State}
use Rattle.rip_routes.specs.OwnTables.{OwnRoute, OwnTables, route_at}
use Rattle.rip_routes.specs.declared.next_hop.NextHop.{NextHop}
use Rattle.rip_routes.specs.declared.next_hop.NextHop.TheVariants.{Over as IsOver, Via as IsVia}
use Rattle.rip_check.specs.Firsts.{IsBefore, IsFirst}
use Rattle.rip_check.specs.Networks.{network_at}
use Rattle.rip_check.specs.OwnSettled.{AreRightTables, DoHoldersOffer, IsEachListed, IsHopGiven, OffersAsHolder, OwnHolds}
use Rattle.rip_check.specs.OwnTells.{HasHop, HasHopAt, IsHolder}
use Rattle.rip_check.specs.Settled.{IsLeastChoice}
use Rattle.rip_check.specs.declared.own_verdict.OwnPlace.{OwnPlace}
use Rattle.rip_check.specs.declared.own_verdict.Wrong.{Wrong}
use Rattle.rip_check.specs.declared.own_verdict.Wrong.TheVariants.{Metric, Here, Over, Neighbour, Nobody}
use Rattle.rip_check.specs.declared.own_verdict.OwnVerdict.{OwnVerdict}
use Rattle.rip_check.specs.declared.own_verdict.OwnVerdict.TheVariants.{Settled, Unsettled, NoRoutes}

-- interface i of router r and interface j of neighbour s are on link l, and the latter has
-- address a for prefix p
pub record IsHadAt (n : Network) (r p a i j l s : ℕ) : Type 0 where
  pub here : (c : ℕ) × IsInterface n i r l c
  pub there : HasHopAt n j s l p a
  pub other : s ≢ r

-- neighbour s on link l is the first that has address a for prefix p: by the interfaces of router
-- r, and then by those of the link
pub record IsFirstHad (n : Network) (r p a l s : ℕ) : Type 0 where
  pub own : ℕ
  pub across : ℕ
  pub had : IsHadAt n r p a own across l s
  pub before : (i j k u : ℕ) → IsHadAt n r p a i j k u → IsBefore i j own across → ⊥

-- interface i of router r is on link l, where address a is neighbour s's own, and s does not offer
-- the metric on any link on which it is
pub record IsLackingAt (n : Network) (told : State) (r p m a i l s : ℕ) : Type 0 where
  pub here : (c : ℕ) × IsInterface n i r l c
  pub holder : IsHolder n r l s a
  pub lacks : OffersAsHolder n told r s p m a → ⊥

-- neighbour s on link l is the first such, by the interfaces of router r
pub record IsFirstLacking (n : Network) (told : State) (r p m a l s : ℕ) : Type 0 where
  pub own : ℕ
  pub lacking : IsLackingAt n told r p m a own l s
  pub before : (i k u : ℕ) → i < own → IsLackingAt n told r p m a i k u → ⊥

-- what is wrong with next hop a of router r: the first neighbour whose own address it is, in the
-- network of the prefix, that does not offer the metric; where there is none, the first neighbour
-- that has it in the plan; or nobody has it there
abbrev pub IsWrongAddress : Network → State → ℕ → ℕ → ℕ → ℕ → Wrong → Type 0
IsWrongAddress n told r p m a w =
    ((l s : ℕ) × IsFirstLacking (network_at n told.prefixes p) told r p m a l s
    × (w ≡ Neighbour s l))
    ⊎ (DoHoldersOffer (network_at n told.prefixes p) told r p m a
    × (((l s : ℕ) × IsFirstHad n r p a l s × (w ≡ Neighbour s l))
    ⊎ (((l s : ℕ) → HasHop n r l s p a → ⊥) × (w ≡ Nobody a))))

-- what is wrong with a next hop that does not give the metric: its link, or by its address
abbrev pub IsWrongHop : Network → State → ℕ → ℕ → ℕ → NextHop → Wrong → Type 0
IsWrongHop n told r p m (IsOver l) w = w ≡ Over l
IsWrongHop n told r p m (IsVia a) w = IsWrongAddress n told r p m a w

-- the first next hop of the route that does not give its metric, in the network of the prefix, is
-- wrong in this way
pub record IsFirstWrongHop
    (n : Network) (told : State) (r p : ℕ) (route : OwnRoute) (w : Wrong)
    : Type 0 where
  pub number : ℕ
  pub hop : NextHop
  pub listed : slice_get route.hops number ≡ Some hop
  pub fails : IsHopGiven (network_at n told.prefixes p) told r p route.metric hop → ⊥
  pub before : (j : ℕ) (h : NextHop) → j < number → slice_get route.hops j ≡ Some h
      → IsHopGiven (network_at n told.prefixes p) told r p route.metric h
  pub wrong : IsWrongHop n told r p route.metric hop w

-- the first way of the route that does not give its metric is wrong in this way
abbrev pub IsWrongWay : Network → State → ℕ → ℕ → OwnRoute → Wrong → Type 0
IsWrongWay n told r p route w =
    ((route.here ≡ true) × (IsDirect (network_at n told.prefixes p) r p route.metric → ⊥)
    × (w ≡ Here))
    ⊎ ((route.here ≡ true → IsDirect (network_at n told.prefixes p) r p route.metric)
    × IsFirstWrongHop n told r p route w)

-- What is wrong with a route: its metric is not the equation; or else its first way that does not
-- give it, the router itself before its next hops.
abbrev pub IsWrong : Network → State → ℕ → ℕ → OwnRoute → Wrong → Type 0
IsWrong n told r p route w =
    ((e : ℕ) × IsLeastChoice (network_at n told.prefixes p) told r p e × (route.metric ≢ e)
    × (w ≡ Metric e))
    ⊎ (IsLeastChoice (network_at n told.prefixes p) told r p route.metric
    × IsWrongWay n told r p route w)

-- the place holds
abbrev pub IsOwnSound : Network → State → OwnTables → ℕ → ℕ → Type 0
IsOwnSound n told t r p = OwnHolds (network_at n t.prefixes p) told r p (route_at t r p)

-- the metric of a place and what is wrong there
pub record IsOwnFailing (n : Network) (told : State) (t : OwnTables) (place : OwnPlace)
    : Type 0 where
  pub metric : place.metric ≡ (route_at t place.router place.prefix).metric
  pub wrong : IsWrong n told place.router place.prefix
      (route_at t place.router place.prefix) place.wrong

-- the first place after the given one, if one is given, that does not hold, and what is wrong there
pub record IsNextWrong
    (n : Network) (told : State) (t : OwnTables) (after : Option (ℕ × ℕ)) (place : OwnPlace)
    : Type 0 where
  pub first : IsFirst n (length t.prefixes) after (IsOwnSound n told t)
      place.router place.prefix
  pub values : IsOwnFailing n told t place

-- router r is the first from one on of which nothing is told
pub record IsNextUnlisted (n : Network) (t : OwnTables) (from r : ℕ) : Type 0 where
  pub from_on : from ≤ r
  pub router : r < length n.routers
  pub unlisted : t.listed r ≢ true
  pub before : (q : ℕ) → from ≤ q → q < r → t.listed q ≡ true

-- what a verdict on the routers' own tables says
abbrev pub IsOwnVerdict : Network → State → OwnTables → OwnVerdict → Type 0
IsOwnVerdict n told t Settled = AreRightTables n t
IsOwnVerdict n told t (Unsettled place) = IsEachListed n t × IsNextWrong n told t None place
IsOwnVerdict n told t (NoRoutes r) = IsNextUnlisted n t 0 r
