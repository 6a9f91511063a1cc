use Rattle.std.proofs.Common.{ℕ, ◌<◌, get_or}
use Rattle.rip_plan.specs.Relations.{IsInterface}
use Rattle.rip_check.specs.Scenarios.{network_before}
use Rattle.rip_check.specs.Untouched.{IsStep}
use Rattle.rip_check.proofs.untouched.Scenario.leads_over.Given as goal

abbrev pub invariant-loop-j : goal.invariant-loop-j
invariant-loop-j l = (k r c : ℕ) → k < l.j-index → IsInterface l.self.plan.now (get_or l.numbers k 0) r l.own.link c → IsStep (network_before l.self) l.self.prefix l.own.router l.own.cost r → ⊥
