use Rattle.std.proofs.Common.{ℕ, ◌<◌}
use Rattle.rip_plan.specs.Relations.{IsDirect}
use Rattle.rip_check.specs.Failures.{network_left}
use Rattle.rip_check.proofs.aftermath.is_anywhere.Given as goal

abbrev pub invariant-loop-router : goal.invariant-loop-router
invariant-loop-router l = (r c : ℕ) → r < l.router → IsDirect (network_left l.plan l.failure) r l.prefix c → ⊥
