use Rattle.std.proofs.Common.{◌≡◌, drop}
use Rattle.rip_table.specs.Rows.{IsGrid, cell, heads, rows_of, shown_after}
use Rattle.rip_table.proofs.grid.rows.write.Given as goal

abbrev pub invariant-loop-j : goal.invariant-loop-j
invariant-loop-j g l = record {
  heads : heads (rows_of l.rows.entries) ≡ heads (rows_of l.fn.rows.entries);
  grid : IsGrid l.width (rows_of l.rows.entries);
  cells : shown_after (g.C.GridCell.cell_of l.term) (cell g.C.GridCell.blank_cell (rows_of l.rows.entries)) l.interface (drop l.j l.entries)
      ≡ shown_after (g.C.GridCell.cell_of l.term) (cell g.C.GridCell.blank_cell (rows_of l.fn.rows.entries)) l.interface l.entries;
}
