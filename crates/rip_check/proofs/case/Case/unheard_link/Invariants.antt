use Rattle.std.proofs.Common.{ℕ, ◌<◌, IsTrue, get_or}
use Rattle.rip_plan.specs.Relations.{Exchanges, IsInterface}
use Rattle.rip_check.specs.Cases.{block_of, state_of}
use Rattle.rip_check.proofs.case.Case.unheard_link.Given as goal

abbrev pub invariant-loop-i : goal.invariant-loop-i
invariant-loop-i g l =
    (j k c : ℕ) → j < l.i-index → IsInterface l.self.plan.now (get_or l.numbers j 0) l.router k c → Exchanges l.self.plan.now k (block_of l.self) →
    IsTrue ((state_of l.self).heard (get_or l.numbers j 0))
