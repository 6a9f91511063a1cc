use Rattle.std.proofs.Common.{arith}
use Rattle.std.proofs.lemmas.Option.{slice_get-get_or}
use Rattle.rip_plan.proofs.ClashLemmas.{back_at}
use Rattle.rip_plan.proofs.CellLemmas.{cell_set}
use Rattle.rip_plan.proofs.index.write_costs_on.Goals as goal

pub loop-j-preserved : goal.loop-j-preserved
loop-j-preserved c r k h = grind (arith, back_at, slice_get-get_or, cell_set)
