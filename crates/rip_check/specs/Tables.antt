-- Route tables, and what routers show of them.
use Rattle.std.specs.Prelude.{◌≡◌, ◌≢◌, ℕ, ◌+◌, ◌≤◌, ◌<◌, ◌⊎◌, Option, None, Some, IsTrue, min, unwrap_or, length}
use Rattle.rip_check.specs.declared.way.Way.{Way}
use Rattle.rip_check.specs.declared.way.Way.TheVariants.{Unreachable, Here, Over}
use Rattle.rip_plan.specs.Network.{Network}
use Rattle.rip_plan.specs.Relations.{IsInterface, HasCost, IsNeighbour, IsDirect, IsOn, IsLeaf, Carries, Exchanges, IsAttached}
use Rattle.rip_table.specs.State.{State}
use Rattle.rip_check.specs.Metrics.{metric_at}
use Rattle.rip_check.specs.Networks.{block_at, network_at}

-- a router's route for a prefix: 16 where it has none (RFC 2453, 3.6), and the way that a packet
-- goes
pub record Route : Type 0 where
  pub metric : ℕ
  pub way : Way

-- the route of each router for each prefix, by their numbers
abbrev pub Tables : Type 0
Tables = ℕ → ℕ → Route

-- router r may hold back its own route for prefix p on link l, where all know of it: the link
-- carries the prefix, or the router has it attached there
abbrev pub MayHoldBack : Network → ℕ → ℕ → ℕ → Type 0
MayHoldBack n r p l = Carries n l p ⊎ IsAttached n r p l

-- the metric and the way go together; a router never goes over a link where it may hold back its
-- own route
abbrev pub FitsWay : Network → ℕ → ℕ → ℕ → Way → Type 0
FitsWay n r p m Unreachable = m ≡ 16
FitsWay n r p m Here = (1 ≤ m) × (m < 16)
FitsWay n r p m (Over l) = (1 ≤ m) × (m < 16) × IsOn n r l × (MayHoldBack n r p l → ⊥)

-- nothing, or 16
abbrev pub IsSilent : Option ℕ → Type 0
IsSilent x = (x ≡ None) ⊎ (x ≡ Some 16)

-- What router r with this metric and way may show of prefix p on link l: split horizon with
-- poisoned reverse (RFC 2453, 3.4.3), by link. On a link of the prefix a direct route may be held
-- back or poisoned; on the link to which the prefix is attached it is.
abbrev pub MayShow : Network → ℕ → ℕ → ℕ → ℕ → Way → Option ℕ → Type 0
MayShow n r l p m Unreachable x = IsSilent x
MayShow n r l p m Here x =
    ((IsAttached n r p l → ⊥) × (x ≡ Some m)) ⊎ (MayHoldBack n r p l × IsSilent x)
MayShow n r l p m (Over k) x = ((k ≡ l) × (x ≡ Some 16)) ⊎ ((k ≢ l) × (x ≡ Some m))

-- the metric and the way could be behind what router r shows of prefix p on each link
abbrev pub IsAsTold : Network → State → ℕ → ℕ → ℕ → Way → Type 0
IsAsTold n shown r p m w =
    (i l c : ℕ) → IsInterface n i r l c → MayShow n r l p m w (metric_at shown i p)

-- Neighbour s offers router r the metric v over link l: the cost of the interface on which the
-- datagram comes in, and what s shows there, or 16 where it shows nothing or the sum is greater
-- (RFC 2453, 3.9.2).
pub record Offers (n : Network) (shown : State) (r l s p v : ℕ) : Type 0 where
  pub neighbour : IsNeighbour n r l s
  pub cost : ℕ
  pub here : HasCost n r l cost
  pub interface : ℕ
  pub its_cost : ℕ
  pub there : IsInterface n interface s l its_cost
  pub value : v ≡ min 16 (cost + unwrap_or (metric_at shown interface p) 16)

-- h is the least of 16 and of what is offered to router r
pub record IsLeastOffer (n : Network) (shown : State) (r p h : ℕ) : Type 0 where
  pub reached : (h ≡ 16) ⊎ ((l s : ℕ) × Offers n shown r l s p h)
  pub most : h ≤ 16
  pub least : (l s v : ℕ) → Offers n shown r l s p v → h ≤ v

-- the route of a leaf whose one interface is i, on link l, where it cannot show it: its own prefix,
-- or what it learned
pub record IsHiddenRoute
    (n : Network) (shown : State) (r i l p : ℕ) (route : Route)
    : Type 0 where
  pub held_back : MayHoldBack n r p l → IsSilent (metric_at shown i p) → (route.way ≡ Here)
      × IsDirect n r p route.metric
  pub learned : (MayHoldBack n r p l → ⊥) → metric_at shown i p ≡ Some 16 →
      IsLeastOffer n shown r p route.metric × (route.metric < 16 → route.way ≡ Over l)
      × (route.metric ≡ 16 → route.way ≡ Unreachable)

-- router r has no interface
abbrev pub IsOff : Network → ℕ → Type 0
IsOff n r = (i l c : ℕ) → IsInterface n i r l c → ⊥

-- The route of a router without an interface, which shows nothing: its own prefix, or none.
pub record IsLoneRoute (n : Network) (r p : ℕ) (route : Route) : Type 0 where
  pub own : (c : ℕ) → IsDirect n r p c → (route.way ≡ Here) × (route.metric ≡ c)
  pub none : ((c : ℕ) → IsDirect n r p c → ⊥) → (route.way ≡ Unreachable) × (route.metric ≡ 16)

-- the route could be behind all that router r shows of prefix p
pub record Tells (n : Network) (shown : State) (r p : ℕ) (route : Route) : Type 0 where
  pub way_fits : FitsWay n r p route.metric route.way
  pub as_told : IsAsTold n shown r p route.metric route.way

-- no other route could be behind what router r shows of prefix p
abbrev pub IsOnlyRoute : Network → State → ℕ → ℕ → Route → Type 0
IsOnlyRoute n shown r p route = (other : Route) → Tells n shown r p other → other ≡ route

-- the route could be behind what router r shows of prefix p, and of a leaf that can't show its
-- route it is the hidden one
pub record FitsShown (n : Network) (shown : State) (r p : ℕ) (route : Route) : Type 0 where
  pub told : Tells n shown r p route
  pub hidden : (i l c : ℕ) → IsLeaf n r i l c → IsHiddenRoute n shown r i l p route
  pub lone : IsOff n r → IsLoneRoute n r p route

-- each interface was heard
abbrev pub IsHeard : Network → State → Type 0
IsHeard n shown = (i r l c : ℕ) → IsInterface n i r l c → IsTrue (shown.heard i)

-- router r shows nothing below 16 of the prefix of this number where it is not exchanged
abbrev pub IsQuiet : Network → State → ℕ → ℕ → Type 0
IsQuiet n shown r p =
    (i l c : ℕ) → IsInterface n i r l c → (Exchanges n l (block_at shown.prefixes p) → ⊥)
    → IsSilent (metric_at shown i p)

-- the route could be behind what router r shows of the prefix of this number, by its network, and
-- the router shows nothing of it elsewhere
pub record FitsThere (n : Network) (shown : State) (r p : ℕ) (route : Route) : Type 0 where
  pub quiet : IsQuiet n shown r p
  pub fits : FitsShown (network_at n shown.prefixes p) shown r p route

-- the log shows these route tables, for each prefix of its table's list
pub record Shows (n : Network) (shown : State) (T : Tables) : Type 0 where
  pub heard : IsHeard n shown
  pub fits : (r p : ℕ) → r < length n.routers → p < length shown.prefixes
      → FitsThere n shown r p (T r p)
