-- What routers tell of their own tables.
use Rattle.std.specs.Prelude.{◌≡◌, ℕ, ◌↔◌, ◌⊎◌, ◌<◌, ◌≤◌, Bool, true, false, IsTrue, List, [], ◌++◌, Contains, Option, Some, length, slice_get, unwrap_or}
use Rattle.std.specs.Option.{option_map_or}
use Rattle.rip_wire.specs.Prefix.{Block}
use Rattle.rip_plan.specs.Network.{Network}
use Rattle.rip_plan.specs.Relations.{IsOn, IsPrefix}
use Rattle.rip_table.specs.State.{AreDistinct, is_among}
use Rattle.rip_table.specs.declared.limits.TheConstants.{MOST_PREFIXES}
use Rattle.rip_routes.specs.declared.next_hop.NextHop.{NextHop}
use Rattle.rip_routes.specs.declared.next_hop.NextHop.TheVariants.{Over}

-- A route as its router tells it: its metric, 16 where the router cannot reach the prefix (RFC
-- 2453, 3.6), whether it is the router's own, and its next hops, in the order in which they were
-- told. A route may have several of these ways, all of the same metric; one of metric 16 has none.
pub record OwnRoute : Type 0 where
  pub metric : ℕ
  pub here : Bool
  pub hops : List NextHop

-- the route of a place of which nothing is told
abbrev pub no_route : OwnRoute
no_route = record { metric = 16; here = false; hops = [] }

-- The list of prefixes, the routers of which something is told, and the route, if one is told, of a
-- router for a prefix.
pub record OwnTables : Type 0 where
  pub prefixes : List Block
  pub listed : ℕ → Bool
  pub routes : ℕ → Block → Option OwnRoute

-- the route of router r for the prefix of this number
abbrev pub route_at : OwnTables → ℕ → ℕ → OwnRoute
route_at t r k =
    option_map_or (λ p. unwrap_or (t.routes r p) no_route) (slice_get t.prefixes k) no_route

-- each next hop stands once in the list
abbrev pub AreHopsOnce : List NextHop → Type 0
AreHopsOnce hops =
    (i j : ℕ) (h : NextHop) → slice_get hops i ≡ Some h → slice_get hops j ≡ Some h → i ≡ j

-- the metric is one, and the route has a way exactly where it is below 16
pub record IsOwnRoute (route : OwnRoute) : Type 0 where
  pub least : 1 ≤ route.metric
  pub most : route.metric ≤ 16
  pub way : route.metric < 16
      → (route.here ≡ true) ⊎ ((h : NextHop) × Contains route.hops h)
  pub unreachable : route.metric ≡ 16 → (route.here ≡ false) × (route.hops ≡ [])
  pub once : AreHopsOnce route.hops

-- the prefixes differ, there are not too many, each route that is told is one, of a prefix of the
-- list, and routers are listed of which a route is told
pub record AreOwnTables (t : OwnTables) : Type 0 where
  pub differ : AreDistinct t.prefixes
  pub few : length t.prefixes ≤ MOST_PREFIXES
  pub told : (r : ℕ) (p : Block) (route : OwnRoute) → t.routes r p ≡ Some route
      → IsOwnRoute route × (is_among p t.prefixes ≡ true)
  pub listed : (r : ℕ) → IsTrue (t.listed r)
      ↔ ((p : Block) × (route : OwnRoute) × (t.routes r p ≡ Some route))

-- the list begins with the plan's prefixes, the others being unplanned, and a route goes over links
-- of its router
pub record FitsOwn (n : Network) (t : OwnTables) : Type 0 where
  pub others : List Block
  pub prefixes : t.prefixes ≡ n.prefixes ++ others
  pub unplanned : (k : ℕ) (p : Block) → IsPrefix n k p → is_among p others ≡ false
  pub over : (r l : ℕ) (p : Block) (route : OwnRoute) → t.routes r p ≡ Some route
      → Contains route.hops (Over l) → IsOn n r l
