-- What a place of the grid answers.
use Rattle.std.proofs.Common.{◌≡◌, ◌∙◌, ◌<◌, ◌≤◌, sym, ap, arith, ℕ, zero, suc, Bool, List, [], ◌∷◌, true, false, length, None, Some, Option, refl, cond, Vec, Global}
use Rattle.std.specs.Prelude.{option_map, slice_get, slice_index_or, unwrap_or}
use Rattle.std.specs.Option.{option_map_or}
use Rattle.std.specs.Map.{values_of}
use Rattle.std.proofs.lemmas.Option.{none-some, same_Some}
use Rattle.rip_wire.specs.Prefix.{Block}
use Rattle.rip_plan.proofs.ItemLemmas.{get_some}
use Rattle.rip_plan.specs.Passes.{same_prefix}
use Rattle.rip_table.specs.Rows.{IsGrid, Rows, cell, heads, rows_of}
use Rattle.rip_table.specs.State.{AreDistinct}
use Rattle.rip_table.proofs.RowLemmas.{Entries, grid-tail, number-listed}
use Rattle.rip_routes.specs.Judging.{grid_tables}
use Rattle.rip_routes.specs.OwnTables.{OwnRoute, no_route, route_at}
use Rattle.rip_routes.proofs.RowTellLemmas.{cell-of-row}

at_number : (listed : List Bool) (rows : Rows (Option OwnRoute)) (r k : ℕ) (p : Block) → slice_get (heads rows) k ≡ Some p → route_at (grid_tables listed rows) r k ≡ unwrap_or (cell None rows r p) no_route
at_number listed rows r k p at = rw at refl

-- the route of a place, by its cell
pub asked : (listed : List Bool) (es : Entries (Option OwnRoute)) (r k width : ℕ) (row : Vec (Option OwnRoute) Global) (x : Option OwnRoute) → AreDistinct (heads (rows_of es)) → IsGrid width (rows_of es)
    → k < length (heads (rows_of es)) → slice_get (values_of es) k ≡ Some row → r < width → x ≡ slice_index_or row.items r x → route_at (grid_tables listed (rows_of es)) r k ≡ unwrap_or x no_route
asked listed es r k width row x differ grid lt at within is =
    let (p, here) = get_some (heads (rows_of es)) k lt in
    at_number listed (rows_of es) r k p here
    ∙ ap (λ (o : Option OwnRoute). unwrap_or o no_route) (cell-of-row es k row p r x width (number-listed (heads (rows_of es)) k p differ here) grid at within is)

past_row : (row : List (Option OwnRoute)) (r : ℕ) → length row ≤ r → slice_index_or row r None ≡ None
past_row [] r h = refl
past_row (x ∷ row) zero h = absurd (omega (arith, h))
past_row (x ∷ row) (suc r) h = past_row row r (omega (arith, h))

past_cell : (rows : Rows (Option OwnRoute)) (width r : ℕ) (p : Block) → IsGrid width rows → width ≤ r → cell None rows r p ≡ None
past_cell [] width r p grid h = refl
past_cell (row ∷ rows) width r p grid h = by (same_prefix p row.0) (past_cell rows width r p (grid-tail width row rows grid) h)
  where
    by : (b : Bool) → cell None rows r p ≡ None → cond b (slice_index_or row.1 r None) (cell None rows r p) ≡ None
    by true later = past_row row.1 r (omega (arith, h, grid 0 row (omega arith)))
    by false later = later

-- of a router that the plan does not have nothing is told
pub past : (listed : List Bool) (rows : Rows (Option OwnRoute)) (r k width : ℕ) → IsGrid width rows → width ≤ r → k < length (heads rows) → route_at (grid_tables listed rows) r k ≡ no_route
past listed rows r k width grid h lt =
    let (p, here) = get_some (heads rows) k lt in
    at_number listed rows r k p here ∙ ap (λ (o : Option OwnRoute). unwrap_or o no_route) (past_cell rows width r p grid h)

-- the parts of a route, by its cell
pub metric_some : (x : Option OwnRoute) (m : ℕ) → option_map (λ (route : OwnRoute). route.metric) x ≡ Some m → m ≡ (unwrap_or x no_route).metric
metric_some None m h = absurd (none-some m h)
metric_some (Some route) m h = sym (same_Some _ _ h)

pub metric_none : (x : Option OwnRoute) → option_map (λ (route : OwnRoute). route.metric) x ≡ None → 16 ≡ (unwrap_or x no_route).metric
metric_none None h = refl
metric_none (Some route) h = absurd (none-some route.metric (sym h))

pub here_is : (x : Option OwnRoute) → option_map_or (λ (route : OwnRoute). route.here) x false ≡ (unwrap_or x no_route).here
here_is None = refl
here_is (Some route) = refl

pub hops_are : (x : Option OwnRoute) → option_map_or (λ (route : OwnRoute). route.hops) x [] ≡ (unwrap_or x no_route).hops
hops_are None = refl
hops_are (Some route) = refl
