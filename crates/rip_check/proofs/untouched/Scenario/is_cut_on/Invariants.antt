use Rattle.std.proofs.Common.{ℕ, ◌<◌, ◌⊎◌, get_or}
use Rattle.rip_plan.specs.Relations.{IsInterface, IsOn}
use Rattle.rip_check.specs.Scenarios.{network_before}
use Rattle.rip_check.specs.Untouched.{IsStep, IsStepUp, KeepsWay}
use Rattle.rip_check.proofs.untouched.Scenario.is_cut_on.Given as goal

abbrev pub invariant-loop-j : goal.invariant-loop-j
invariant-loop-j l =
    (k r c : ℕ) → k < l.j-index → IsInterface l.self.plan.now (get_or l.numbers k 0) r l.link c → (s : ℕ) → IsOn (network_before l.self) s l.link →
    IsStep (network_before l.self) l.self.prefix r c s → IsStepUp l.self.failure l.link s ⊎ KeepsWay l.self.plan.now l.self.failure l.self.prefix r
