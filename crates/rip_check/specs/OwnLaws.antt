-- Laws of the routers' own tables: of routes that a log shows, and of those that are expected, told
-- as the routers' own.
use Rattle.std.specs.Prelude.{◌≡◌, ◌≢◌, ℕ, ◌↔◌, ◌<◌, ◌⊎◌, true, false, Contains, Option, [], ◌∷◌, length}
use Rattle.rip_plan.specs.Network.{Network}
use Rattle.rip_table.specs.State.{State}
use Rattle.rip_routes.specs.OwnTables.{OwnRoute, OwnTables, route_at}
use Rattle.rip_routes.specs.declared.next_hop.NextHop.{NextHop}
use Rattle.rip_routes.specs.declared.next_hop.NextHop.TheVariants.{Over as IsOver}
use Rattle.rip_check.specs.Expected.{IsExpected}
use Rattle.rip_check.specs.Laws.{Case, ShowsRightTables, net_of}
use Rattle.rip_check.specs.Networks.{network_at}
use Rattle.rip_check.specs.OwnSettled.{AreRightTables, IsEachListed}
use Rattle.rip_check.specs.OwnTells.{IsToldBy}
use Rattle.rip_check.specs.OwnVerdicts.{IsNextWrong, IsOwnSound}
use Rattle.rip_check.specs.Paths.{IsLeast}
use Rattle.rip_check.specs.Settled.{IsLeastChoice}
use Rattle.rip_check.specs.Tables.{Route, Tables}
use Rattle.rip_check.specs.Verdicts.{IsNextUnsettled, IsSound}
use Rattle.rip_check.specs.declared.own_verdict.OwnPlace.{OwnPlace}
use Rattle.rip_check.specs.declared.own_verdict.Wrong.{Wrong}
use Rattle.rip_check.specs.declared.own_verdict.Wrong.TheVariants as wrongs
use Rattle.rip_check.specs.declared.verdict.Place2.{Place2}
use Rattle.rip_check.specs.declared.way.Way.{Way}
use Rattle.rip_check.specs.declared.way.Way.TheVariants.{Unreachable, Here, Over}

-- ---- Round trip: the routes that a log shows, told as the routers' own

-- a metric and a way, told by their router
abbrev pub own_by : ℕ → Way → OwnRoute
own_by m Unreachable = record { metric = m; here = false; hops = [] }
own_by m Here = record { metric = m; here = true; hops = [] }
own_by m (Over l) = record { metric = m; here = false; hops = IsOver l ∷ [] }

-- the route, told by its router: its metric, and its one way, if it has one
abbrev pub own_of : Route → OwnRoute
own_of route = own_by route.metric route.way

-- each router tells these routes, of the prefixes of the log's table
pub record TellsRoutes (n : Network) (shown : State) (T : Tables) (t : OwnTables) : Type 0 where
  pub prefixes : t.prefixes ≡ shown.prefixes
  pub listed : IsEachListed n t
  pub routes : (r p : ℕ) → r < length n.routers → p < length t.prefixes
      → route_at t r p ≡ own_of (T r p)

-- a log that shows tables, the same tables as the routers' own, and what routers tell by those
pub record RoundTrip : Type 0 where
  pub log : Case
  pub own : OwnTables
  pub told : State
  pub tells : TellsRoutes log.net log.shown log.tables own
  pub by : IsToldBy log.net own told

-- each place has the same equation by the routers' own tables as by the log
abbrev pub HaveOneEquation : RoundTrip → Type 0
HaveOneEquation k =
    (r p v : ℕ) → r < length k.log.net.routers → p < length k.own.prefixes
    → IsLeastChoice (net_of k.log p) k.told r p v
    ↔ IsLeastChoice (net_of k.log p) k.log.shown r p v

-- the same places hold by the routers' own tables as by the log
abbrev pub HoldAlike : RoundTrip → Type 0
HoldAlike k =
    (r p : ℕ) → r < length k.log.net.routers → p < length k.own.prefixes
    → IsOwnSound k.log.net k.told k.own r p ↔ IsSound k.log.net k.log.shown r p

-- what is wrong where a way does not give the metric: the way
abbrev pub wrong_way : Way → Wrong
wrong_way Unreachable = wrongs.Here
wrong_way Here = wrongs.Here
wrong_way (Over l) = wrongs.Over l

-- this is wrong at a place of the log: its metric is not the equation, or else its way does not
-- give it
abbrev pub IsWrongAt : Place2 → Wrong → Type 0
IsWrongAt place wrong =
    ((place.metric ≢ place.equation) × (wrong ≡ wrongs.Metric place.equation))
    ⊎ ((place.metric ≡ place.equation) × (wrong ≡ wrong_way place.way))

-- a place of the routers' own tables is one of the log, and the same is wrong there
pub record IsSamePlace (place : Place2) (own : OwnPlace) : Type 0 where
  pub router : own.router ≡ place.router
  pub prefix : own.prefix ≡ place.prefix
  pub metric : own.metric ≡ place.metric
  pub wrong : IsWrongAt place own.wrong

-- of the places after a given one, if one is given, the first that does not hold is the same by the
-- routers' own tables as by the log, and the same is wrong there
abbrev pub NameAlike : RoundTrip → Type 0
NameAlike k =
    (after : Option (ℕ × ℕ)) (place : Place2) (own : OwnPlace)
    → IsNextUnsettled k.log.net k.log.shown after place
    → IsNextWrong k.log.net k.told k.own after own → IsSamePlace place own

-- the routers' own tables are right exactly where the log shows right ones
abbrev pub AreRightAlike : RoundTrip → Type 0
AreRightAlike k = AreRightTables k.log.net k.own ↔ ShowsRightTables k.log.net k.log.shown

-- ---- Expected tables

-- A route of some of the lines that `expect` prints of a place: the metric is the least cost of a
-- path, or 16 where none costs less, and each way is that of an expected route. Below 16 there is
-- one way at least (`IsOwnRoute`), and at 16 none is right.
pub record IsExpectedOwn (n : Network) (r p : ℕ) (route : OwnRoute) : Type 0 where
  pub least : IsLeast n p r route.metric
  pub here : route.here ≡ true → IsExpected n r p (record { metric = route.metric; way = Here })
  pub hops : (h : NextHop) → Contains route.hops h
      → (l : ℕ) × (h ≡ IsOver l) × IsExpected n r p (record { metric = route.metric; way = Over l })

-- each router tells such a route of each prefix of the plan, and there are no others
pub record AreExpectedTables (n : Network) (t : OwnTables) : Type 0 where
  pub prefixes : t.prefixes ≡ n.prefixes
  pub listed : IsEachListed n t
  pub routes : (r p : ℕ) → r < length n.routers → p < length n.prefixes
      → IsExpectedOwn (network_at n n.prefixes p) r p (route_at t r p)
