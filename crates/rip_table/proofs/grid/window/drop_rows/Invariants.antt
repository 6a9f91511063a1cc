use Rattle.std.proofs.Common.{◌≡◌, ◌≤◌}
use Rattle.rip_table.specs.Rows.{rows_of}
use Rattle.rip_table.specs.WindowRows.{is_shown_in}
use Rattle.rip_table.proofs.FrontLemmas.{back}
use Rattle.rip_table.proofs.grid.window.drop_rows.Given as goal

abbrev pub invariant-loop-k : goal.invariant-loop-k
invariant-loop-k g l = record {
  sifted : rows_of l.rows.entries ≡ back l.k (λ row. is_shown_in row.1) (rows_of l.fn.rows.entries);
  behind : l.first ≤ l.k;
}
