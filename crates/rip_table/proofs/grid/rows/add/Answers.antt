use Rattle.std.proofs.Common.{sym, subst}
use Rattle.rip_table.specs.Rows.{IsGrid, rows_of}
use Rattle.rip_table.proofs.AfterLemmas.{made-is}
use Rattle.rip_table.proofs.RowLemmas.{grid-with_rows}
use Rattle.rip_table.proofs.grid.rows.add.Goals as goal

pub returns-in_err-grow_or_keep-clause-grid : goal.returns-in_err-grow_or_keep-clause-grid
returns-in_err-grow_or_keep-clause-grid g c = subst (IsGrid c.args.width) (sym c.in_err-grow_or_keep.ensures.err) c.requires.grid

pub write-requires-clause-grid : goal.write-requires-clause-grid
write-requires-clause-grid g c = subst (IsGrid c.args.width) (sym c.in_ok-grow_or_keep.ensures.ok) (grid-with_rows g.C.GridCell.blank_cell c.args.width (rows_of c.args.rows.now.entries) c.args.entries.now c.requires.grid)

pub returns-clause-made : goal.returns-clause-made
returns-clause-made g c =
    made-is g.C.GridCell.blank_cell (g.C.GridCell.cell_of c.args.term) c.args.width c.args.interface c.args.entries.now (rows_of c.args.rows.now.entries) (rows_of c.grow_or_keep.new.rows.entries)
    (rows_of c.write.new.rows.entries) c.in_ok-grow_or_keep.ensures.ok c.write.ensures.heads c.write.ensures.cells
