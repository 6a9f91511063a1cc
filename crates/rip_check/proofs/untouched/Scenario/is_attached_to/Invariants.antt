use Rattle.std.proofs.Common.{ℕ, ◌<◌, get_or}
use Rattle.rip_plan.specs.Relations.{IsAttached, IsInterface}
use Rattle.rip_check.proofs.untouched.Scenario.is_attached_to.Given as goal

abbrev pub invariant-loop-j : goal.invariant-loop-j
invariant-loop-j l = (k r c : ℕ) → k < l.j-index → IsInterface l.self.plan.now (get_or l.numbers k 0) r l.link c → IsAttached l.self.plan.now r l.self.prefix l.link → ⊥
