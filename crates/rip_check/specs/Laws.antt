-- The laws of settled tables, each as one statement.
use Rattle.std.specs.Prelude.{◌≡◌, ◌⊎◌, ℕ, ◌+◌, ◌≤◌, ◌<◌, List, length, map}
use Rattle.rip_plan.specs.Network.{Network}
use Rattle.rip_plan.specs.Relations.{IsLawful, HasCost, IsAttached, IsDirect, IsInterface, IsNeighbour}
use Rattle.rip_table.specs.State.{State}
use Rattle.rip_check.specs.Paths.{Hop, IsPath, MayHop}
use Rattle.rip_check.specs.Metrics.{metric_at}
use Rattle.rip_check.specs.Networks.{network_at}
use Rattle.rip_check.specs.Tables.{Tables, Route, Shows, FitsThere, IsHeard, IsSilent, Offers}
use Rattle.rip_check.specs.declared.way.Way.TheVariants.{Here, Over}
use Rattle.rip_check.specs.Settled.{Holds, HoldsAll, AllRight, GoesRight}
use Rattle.rip_check.specs.Expected.{IsExpected}
use Rattle.rip_check.specs.Walks.{IsFalling, IsWalk}

-- a plan's network, what a log shows of it, and the tables that are shown
pub record Case : Type 0 where
  pub net : Network
  pub shown : State
  pub tables : Tables
  pub plan : IsLawful net
  pub shows : Shows net shown tables

-- the network of the prefix of this number
abbrev pub net_of : Case → ℕ → Network
net_of k p = network_at k.net k.shown.prefixes p

-- every place's equation holds
abbrev pub IsSettled : Case → Type 0
IsSettled k = HoldsAll k.net k.shown k.tables

-- each route is right
abbrev pub HasRightTables : Case → Type 0
HasRightTables k = AllRight k.net k.shown.prefixes k.tables

-- each planned prefix's route is expected at every router, and a prefix that is not planned is
-- unreachable
pub record EachIsExpected (k : Case) : Type 0 where
  pub planned : (r p : ℕ) → r < length k.net.routers → p < length k.shown.prefixes
      → p < length k.net.prefixes → IsExpected (net_of k p) r p (k.tables r p)
  pub unplanned : (r p : ℕ) → r < length k.net.routers → p < length k.shown.prefixes
      → length k.net.prefixes ≤ p → (k.tables r p).metric ≡ 16

-- no neighbour to which a path may go is a better way, though it may show 16
abbrev pub PoisonHidesNothing : Case → Type 0
PoisonHidesNothing k =
    (r l c s p : ℕ) → r < length k.net.routers → p < length k.shown.prefixes
    → HasCost (net_of k p) r l c → MayHop (net_of k p) p r l s
    → (k.tables r p).metric ≤ c + (k.tables s p).metric

-- router t gives neighbour s its metric over link l
abbrev pub IsGiver : Case → ℕ → ℕ → ℕ → ℕ → Type 0
IsGiver k l s t p = Offers (net_of k p) k.shown s l t p (k.tables s p).metric

-- router t is router r itself, or offers r less over link l than neighbour s would
abbrev pub IsNear : Case → ℕ → ℕ → ℕ → ℕ → ℕ → ℕ → Type 0
IsNear k r l c s t p =
    (t ≡ r)
    ⊎ ((v : ℕ) × Offers (net_of k p) k.shown r l t p v × (v < c + (k.tables s p).metric))

-- a neighbour that goes over the link is given its metric there, and whoever gives it is near
abbrev pub GiversAreNear : Case → Type 0
GiversAreNear k =
    (r l c s p : ℕ) → r < length k.net.routers → p < length k.shown.prefixes
    → HasCost (net_of k p) r l c → IsNeighbour (net_of k p) r l s → (k.tables s p).way ≡ Over l
    → ((t : ℕ) × IsGiver k l s t p) × ((t : ℕ) → IsGiver k l s t p → IsNear k r l c s t p)

-- where a neighbour has a prefix itself and is silent of it on the link, and it is not attached
-- there, the router has it at no more than the link costs it
abbrev pub SilenceIsShared : Case → Type 0
SilenceIsShared k =
    (r l c s p j d : ℕ) → r < length k.net.routers → p < length k.shown.prefixes
    → HasCost (net_of k p) r l c → IsNeighbour (net_of k p) r l s
    → IsInterface (net_of k p) j s l d → (k.tables s p).way ≡ Here
    → IsSilent (metric_at k.shown j p) → (IsAttached (net_of k p) s p l → ⊥)
    → (m : ℕ) × IsDirect (net_of k p) r p m × (m ≤ c)

-- a metric below 16 is the cost of a path that begins as the route says
abbrev pub MetricsAreReached : Case → Type 0
MetricsAreReached k =
    (r p : ℕ) → r < length k.net.routers → p < length k.shown.prefixes
    → (k.tables r p).metric < 16
    → GoesRight (net_of k p) p r (k.tables r p).metric (k.tables r p).way
    × ((hops : List Hop) × IsPath (net_of k p) p r hops (k.tables r p).metric)

-- no path costs less than the metric
abbrev pub NoPathIsCheaper : Case → Type 0
NoPathIsCheaper k =
    (r p : ℕ) (hops : List Hop) (v : ℕ) → r < length k.net.routers → p < length k.shown.prefixes
    → IsPath (net_of k p) p r hops v → (k.tables r p).metric ≤ v

-- along a walk metrics fall and stay at least 1
abbrev pub WalksFall : Case → Type 0
WalksFall k =
    (p : ℕ) (walk : List ℕ) → p < length k.shown.prefixes → IsWalk k.net k.shown k.tables p walk
    → IsFalling (map (λ r. (k.tables r p).metric) walk)

-- no two routes fit what a router shows of a prefix
abbrev pub OneRouteFits : Network → State → Type 0
OneRouteFits n shown =
    (r p : ℕ) (t u : Route) → r < length n.routers → FitsThere n shown r p t
    → FitsThere n shown r p u → t ≡ u

-- two sets of tables that are shown are one
abbrev pub OneIsShown : Network → State → Type 0
OneIsShown n shown =
    (T U : Tables) → Shows n shown T → Shows n shown U → (r p : ℕ)
    → r < length n.routers → p < length shown.prefixes → T r p ≡ U r p

-- every interface was heard, and at each place a route fits and its equation holds
pub record EachPlaceHolds (n : Network) (shown : State) : Type 0 where
  pub heard : IsHeard n shown
  pub places : (r p : ℕ) → r < length n.routers → p < length shown.prefixes
      → (t : Route) × FitsThere n shown r p t
      × Holds (network_at n shown.prefixes p) shown r p t

-- the table shows right tables: each metric the least cost of a path, or 16, each way the beginning
-- of such a path
abbrev pub ShowsRightTables : Network → State → Type 0
ShowsRightTables n shown = (T : Tables) × Shows n shown T × AllRight n shown.prefixes T
