use Rattle.rip_report.specs.PlanText.{line_of_link}
use Rattle.rip_report.proofs.LoopLemmas.{AddsNumbered}
use Rattle.rip_report.proofs.plan.push_lists.Given as goal

abbrev pub invariant-loop-link : goal.invariant-loop-link
invariant-loop-link g l = AddsNumbered (line_of_link l.plan) l.plan.lists l.link l.fn.out l.out
