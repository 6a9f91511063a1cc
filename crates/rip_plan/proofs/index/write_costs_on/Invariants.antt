use Rattle.std.proofs.Common.{drop}
use Rattle.rip_plan.specs.Rows.{WritesCosts, cost_among}
use Rattle.rip_plan.proofs.index.write_costs_on.Given as goal

abbrev pub invariant-loop-j : goal.invariant-loop-j
invariant-loop-j l = WritesCosts l.prefixes l.prefix (λ r. cost_among r l.interfaces (drop l.j l.numbers)) l.initial.costs l.costs
