use Rattle.std.proofs.Common.{arith}
use Rattle.std.proofs.lemmas.List.{length-map}
use Rattle.rip_plan.proofs.BelowLemmas.{kept_at}
use Rattle.rip_plan.proofs.CellLemmas.{cell_set, among_is_on, numbers_below}
use Rattle.rip_plan.proofs.index.write_costs_at.Goals as goal

pub write_costs_on-requires-clause-numbers : goal.write_costs_on-requires-clause-numbers
write_costs_on-requires-clause-numbers c = grind (arith, length-map, kept_at, numbers_below)

pub returns-in-Link : goal.returns-in-Link
returns-in-Link c r k h = grind (arith, length-map, kept_at, among_is_on)

pub returns-in-Own : goal.returns-in-Own
returns-in-Own c r k h = grind (arith, cell_set)
