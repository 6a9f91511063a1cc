-- What a cell stands for.
use Rattle.std.specs.Prelude.{◌≡◌, ◌==◌, ◌≤◌, false, if◌then◌else◌, [], Option, Some, None}
use Rattle.rip_routes.specs.OwnTables.{OwnRoute}
use Rattle.rip_routes.specs.declared.cell.Cell.TheInside.{Inside}

-- the route, where its metric is not 0
abbrev pub route_of : Inside → Option OwnRoute
route_of c =
    if c.number == 0 then None
    else Some (record { metric = c.number; here = c.here; hops = c.hops.items })

-- the metric is one, or nothing is told
pub record IsCell (c : Inside) : Type 0 where
  pub most : c.number ≤ 16
  pub blank : c.number ≡ 0 → (c.here ≡ false) × (c.hops.items ≡ [])
