-- What taking a line's route answers.
use Rattle.std.proofs.Common.{◌≡◌, ◌<◌, ℕ, Bool, true, false, not, List, length, Option, Some, None, Result, Ok, Err, OnErr, arith, ap, refl, sym, subst, set, ◌∙◌}
use Rattle.std.proofs.Math.ListN.{length-set}
use Rattle.std.specs.Prelude.{unwrap_or}
use Rattle.std.proofs.lemmas.Option.{none-some}
use Rattle.rip_wire.specs.Prefix.{Block}
use Rattle.rip_plan.specs.Network.{number_of_prefix}
use Rattle.rip_table.specs.Rows.{IsGrid, Rows, cell, heads, with_cell, with_row}
use Rattle.rip_table.proofs.RowLemmas.{grid-with_cell, grid-with_row}
use Rattle.rip_log.specs.Logs.{IfElse}
use Rattle.rip_routes.specs.Cells.{added}
use Rattle.rip_routes.specs.Judging.{grid_tables}
use Rattle.rip_routes.specs.OwnTables.{OwnRoute, OwnTables}
use Rattle.rip_routes.specs.Takes.{BringsNew, Takes, WantsMemory, is_memory}
use Rattle.rip_routes.specs.Telling.{first_route, route_with, tell, with_told, with_way}
use Rattle.rip_routes.specs.Ways.{AreWays, IsNewWay, IsNoted, WayKey, has_way}
use Rattle.rip_routes.specs.declared.error.RoutesCause.{RoutesCause}
use Rattle.rip_routes.specs.declared.error.RoutesCause.TheVariants as causes
use Rattle.rip_routes.specs.declared.next_hop.NextHop.{NextHop}
use Rattle.rip_routes.specs.declared.told.Told.{Told}
use Rattle.rip_routes.specs.declared.told.Way.{Way}
use Rattle.rip_routes.specs.declared.told.Way.TheVariants.{Here, To}
use Rattle.rip_routes.proofs.GridLemmas.{added-is, cells-grown, tables-told, ways-grown, ways-told}
use Rattle.rip_routes.proofs.OwnLemmas.{tell_no_memory}

pub refused : (t u : OwnTables) (told : Told) (cause : RoutesCause) → tell t told ≡ Err cause → Takes t told u (Err cause)
refused t u told cause h = by (is_memory cause) (tell_no_memory t told cause h)
  where
    by : (b : Bool) → b ≡ false → IfElse b (WantsMemory t told) (tell t told ≡ Err cause)
    by true e = absurd (cc e)
    by false e = h

pub lacking : (t u : OwnTables) (told : Told) → tell t told ≡ Ok (with_told t told) → BringsNew t told → Takes t told u (Err causes.Memory)
lacking t u told good brings = record { good = good; brings = brings }

-- what an error tells where it is one
pub of_err : {T E P : Type 0} (r : Result T E) (e : E) → r ≡ Err e → OnErr r P → P
of_err (Ok x) e is h = absurd (cc is)
of_err (Err x) e is h = h

not_true : (b : Bool) → true ≡ not b → b ≡ false
not_true true h = absurd (cc h)
not_true false h = refl

-- a next hop that was noted as new was not among the ways
pub fresh_of : (ways : List WayKey) (r k : ℕ) (way : Option Way) (b : Bool) (hop : NextHop) → IsNewWay ways r k way b → way ≡ Some (To hop) → b ≡ true → has_way (r, k, hop) ways ≡ false
fresh_of ways r k None b hop h e t = absurd (none-some (To hop) e)
fresh_of ways r k (Some Here) b hop h e t = absurd (cc e)
fresh_of ways r k (Some (To other)) b hop h e t = not_true (has_way (r, k, hop) ways) (sym t ∙ h ∙ ap (λ (x : Option Way). elim x [ None ↦ false | Some Here ↦ false | Some (To y) ↦ not (has_way (r, k, y) ways) ]) e)

-- a line's route, written to a row that may be new
module _ (listed : List Bool) (rows : Rows (Option OwnRoute)) (told : Told) (ways : List WayKey) (k w : ℕ) (is_new : Bool) (wide : w ≡ length listed) (kept : AreWays ways rows)
    (grid : IsGrid (length listed) rows) (lt : told.router < length listed) (number : number_of_prefix told.prefix (heads (with_row None w rows told.prefix)) ≡ Some k)
    (new : IsNewWay ways told.router k told.way is_new) where
  abbrev pub grown : Rows (Option OwnRoute)
  grown = with_row None w rows told.prefix

  abbrev pub written : Option OwnRoute
  written = Some (added (unwrap_or (cell None grown told.router told.prefix) (first_route told.metric)) told.way is_new)

  written-way : written ≡ Some (with_way (unwrap_or (cell None grown told.router told.prefix) (first_route told.metric)) told.way)
  written-way =
      ap (λ (x : OwnRoute). Some x)
      (added-is ways told.router k told.metric (cell None grown told.router told.prefix) told.way is_new (λ hop. (ways-grown ways w rows told.prefix kept).kept told.router k told.prefix hop number) new)

  written-told : written ≡ Some (route_with (cell None rows told.router told.prefix) told)
  written-told =
      written-way
      ∙ ap (λ (f : ℕ → Block → Option OwnRoute). Some (with_way (unwrap_or (f told.router told.prefix) (first_route told.metric)) told.way)) (cells-grown w rows told.prefix)

  within : told.router < w
  within = omega (arith, lt, wide)

  grid-grown : IsGrid w grown
  grid-grown = grid-with_row None w rows told.prefix (subst (λ (v : ℕ). IsGrid v rows) (sym wide) grid)

  pub tables-written : grid_tables (set listed told.router true) (with_cell grown k told.router written) ≡ with_told (grid_tables listed rows) told
  tables-written = tables-told listed w rows told k written number grid-grown within lt written-told

  pub grid-written : IsGrid (length (set listed told.router true)) (with_cell grown k told.router written)
  grid-written =
      subst (λ (v : ℕ). IsGrid v (with_cell grown k told.router written)) (wide ∙ sym (length-set listed told.router true)) (grid-with_cell w grown k told.router written grid-grown)

  pub ways-written : (after : List WayKey) → IsNoted ways told.router k told.way after → AreWays after (with_cell grown k told.router written)
  ways-written after noted =
      ways-told ways after w grown told.router k told.metric told.prefix told.way written number grid-grown within written-way noted (ways-grown ways w rows told.prefix kept)
