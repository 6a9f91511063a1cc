use Rattle.std.proofs.Common.{ℕ, ◌<◌, IsTrue}
use Rattle.rip_plan.specs.Relations.{IsInterface}
use Rattle.rip_check.proofs.audit.first_unheard.Given as goal

abbrev pub invariant-loop-i : goal.invariant-loop-i
invariant-loop-i g l = (j s k c : ℕ) → j < l.i → IsInterface l.plan j s k c → IsTrue ((g.T.Table.state l.table).heard j)
