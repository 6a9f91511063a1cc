use Rattle.rip_check.proofs.ToldCellLemmas.{AreWritten}
use Rattle.rip_check.proofs.told_table.write_cells.Given as goal

abbrev pub invariant-loop-i : goal.invariant-loop-i
invariant-loop-i l = AreWritten l.plan l.block l.router l.metric l.marks l.numbers l.fn.row l.i-index l.row
