use Rattle.std.proofs.Common.{◌≡◌, ℕ, ◌<◌, None, get_or}
use Rattle.rip_plan.specs.Relations.{Exchanges, IsInterface}
use Rattle.rip_check.proofs.routes.first_gap.Given as goal
use Rattle.rip_check.specs.Metrics.{metric_at}
use Rattle.rip_check.specs.Cases.{block_of, told_in}

abbrev pub invariant-loop-i : goal.invariant-loop-i
invariant-loop-i g l =
    (j k c : ℕ) → j < l.i-index → IsInterface l.case.plan.now (get_or l.numbers j 0) l.router k c → Exchanges l.case.plan.now k (block_of l.case) →
    metric_at (told_in l.case) (get_or l.numbers j 0) l.case.prefix ≡ None → ⊥
