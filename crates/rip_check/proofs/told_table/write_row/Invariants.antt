use Rattle.rip_check.specs.ToldCells.{IsRowBelow}
use Rattle.rip_check.proofs.told_table.write_row.Given as goal

abbrev pub invariant-loop-router : goal.invariant-loop-router
invariant-loop-router g l = IsRowBelow l.plan (g.G.RouteTables.tables l.tables) l.prefix l.router l.row
