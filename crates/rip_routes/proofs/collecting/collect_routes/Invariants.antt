use Rattle.std.proofs.Common.{◌≡◌, ◌-◌, false, length}
use Rattle.rip_log.specs.TextCall.{text_lines, text_source, text_stopped, text_to_come}
use Rattle.rip_log.specs.Wholes.{OfWhole, Went}
use Rattle.rip_table.specs.Rows.{rows_of}
use Rattle.rip_routes.specs.CollectsRoutes.{PassedKnown}
use Rattle.rip_routes.specs.Judging.{grid_tables}
use Rattle.rip_routes.specs.OwnTables.{FitsOwn}
use Rattle.rip_routes.specs.Ways.{AreWays}
use Rattle.rip_routes.proofs.collecting.collect_routes.Given as goal

abbrev pub invariant-lines : goal.invariant-lines
invariant-lines g l =
    let S = g.R.Source in
    record {
      passed : OfWhole S.given S.at_end (text_source l.reader) (λ coming. PassedKnown l.plan (text_to_come coming l.fn.reader) (text_to_come coming l.reader) (text_lines l.reader)
          (grid_tables l.grid.listed.items (rows_of l.grid.rows.entries)));
      went : Went S.given S.coming S.at_end (text_source l.fn.reader) (text_source l.reader);
      running : text_stopped l.reader ≡ false;
      marks : S.broken (text_source l.reader) ≡ S.broken (text_source l.fn.reader);
      ways : AreWays l.grid.ways.keys (rows_of l.grid.rows.entries);
      fits : FitsOwn l.plan (grid_tables l.grid.listed.items (rows_of l.grid.rows.entries));
      width : length l.grid.listed.items ≡ length l.plan.routers;
    }

abbrev pub decreases-lines : goal.decreases-lines
decreases-lines g l = 1000000 - text_lines l.reader
