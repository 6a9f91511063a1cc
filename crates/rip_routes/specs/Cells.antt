-- What a way adds to a route.
use Rattle.std.specs.Prelude.{◌≡◌, Bool, true, if◌then◌else◌, [], ◌∷◌, ◌++◌, Option, Some, None}
use Rattle.rip_routes.specs.OwnTables.{OwnRoute}
use Rattle.rip_routes.specs.declared.next_hop.NextHop.{NextHop}
use Rattle.rip_routes.specs.declared.told.Way.{Way}
use Rattle.rip_routes.specs.declared.told.Way.TheVariants.{Here, To}

-- a next hop adds where it is new
abbrev pub added : OwnRoute → Option Way → Bool → OwnRoute
added route None is_new = route
added route (Some Here) is_new = record route { here = true }
added route (Some (To hop)) is_new =
    record route { hops = if is_new then route.hops ++ hop ∷ [] else route.hops }

-- the way is a next hop, which is new
abbrev pub IsNewHop : Option Way → Bool → Type 0
IsNewHop way is_new = (hop : NextHop) × (way ≡ Some (To hop)) × (is_new ≡ true)
