use Rattle.std.proofs.Common.{◌≡◌, take, length}
use Rattle.rip_table.specs.Rows.{planned_rows, rows_of}
use Rattle.rip_table.proofs.grid.rows.add_planned.Given as goal

abbrev pub invariant-loop-k : goal.invariant-loop-k
invariant-loop-k g l = rows_of l.rows.entries ≡ planned_rows g.C.GridCell.blank_cell (length l.plan.interfaces) (take l.k l.plan.prefixes)
