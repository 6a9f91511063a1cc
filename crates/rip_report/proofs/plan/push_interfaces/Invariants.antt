use Rattle.rip_report.specs.PlanText.{line_of_interface}
use Rattle.rip_report.proofs.LoopLemmas.{AddsNumbered}
use Rattle.rip_report.proofs.plan.push_interfaces.Given as goal

abbrev pub invariant-loop-i : goal.invariant-loop-i
invariant-loop-i g l = AddsNumbered (line_of_interface l.plan) l.plan.interfaces l.i l.fn.out l.out
