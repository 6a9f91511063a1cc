use Rattle.std.proofs.Common.{ℕ, ◌<◌, ◌⊎◌, get_or, length}
use Rattle.rip_plan.specs.Relations.{HasCost, IsInterface, IsOn}
use Rattle.rip_check.specs.Scenarios.{network_before}
use Rattle.rip_check.specs.Untouched.{IsStep, IsStepUp, KeepsWay}
use Rattle.rip_check.proofs.untouched.Scenario.is_cut_around.Given as goal

abbrev pub invariant-loop-i : goal.invariant-loop-i
invariant-loop-i l =
    (j k d : ℕ) → j < l.i-index → IsInterface l.self.plan.now (get_or l.numbers j 0) l.router k d → (r c s : ℕ) → r < length l.self.plan.now.routers → HasCost (network_before l.self) r k c →
    IsOn (network_before l.self) s k → IsStep (network_before l.self) l.self.prefix r c s → IsStepUp l.self.failure k s ⊎ KeepsWay l.self.plan.now l.self.failure l.self.prefix r
