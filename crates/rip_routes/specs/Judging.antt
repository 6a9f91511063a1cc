-- Whether a line's route is refused.
use Rattle.std.specs.Prelude.{◌≡◌, Bool, List, None, Option, Result, Ok, Err}
use Rattle.rip_table.specs.Rows.{Rows, cell, heads}
use Rattle.rip_routes.specs.OwnTables.{OwnRoute, OwnTables}
use Rattle.rip_routes.specs.Telling.{tell, with_told}
use Rattle.rip_routes.specs.declared.error.RoutesCause.{RoutesCause}
use Rattle.rip_routes.specs.declared.told.Told.{Told}
use Rattle.std.specs.Prelude.{false, slice_index_or}

-- the tables of these rows
abbrev pub grid_tables : List Bool → Rows (Option OwnRoute) → OwnTables
grid_tables listed rows = record {
  prefixes = heads rows;
  listed = λ r. slice_index_or listed r false;
  routes = cell None rows;
}

-- a line's route is told of these rows, or refused, whichever routers are listed
abbrev pub IsJudged : Rows (Option OwnRoute) → Told → Result (Unit {0}) RoutesCause → Type 0
IsJudged rows told (Ok u) = (listed : List Bool) →
    tell (grid_tables listed rows) told ≡ Ok (with_told (grid_tables listed rows) told)
IsJudged rows told (Err cause) = (listed : List Bool) →
    tell (grid_tables listed rows) told ≡ Err cause
