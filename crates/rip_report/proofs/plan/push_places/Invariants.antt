use Rattle.rip_report.specs.PlanText.{place_line}
use Rattle.rip_report.proofs.LoopLemmas.{AddsFirst}
use Rattle.rip_report.proofs.plan.push_places.Given as goal

abbrev pub invariant-loop-k : goal.invariant-loop-k
invariant-loop-k g l = AddsFirst (place_line l.plan) l.plan.places l.k l.fn.out l.out
