use Rattle.std.proofs.Common.{◌≡◌, ℕ, ◌<◌, ◌≤◌, ◌⊎◌, get_or}
use Rattle.rip_plan.specs.Relations.{IsDirect}
use Rattle.rip_check.specs.Failures.{left_to}
use Rattle.rip_check.proofs.least.fill_direct.Given as goal

abbrev pub invariant-loop-router : goal.invariant-loop-router
invariant-loop-router l = record {
  most : (r : ℕ) → r < l.router → get_or l.metrics r 0 ≤ 16;
  chosen : (r : ℕ) → r < l.router → (get_or l.metrics r 0 ≡ 16) ⊎ IsDirect (left_to l.plan l.failure l.prefix) r l.prefix (get_or l.metrics r 0);
  least : (r c : ℕ) → r < l.router → IsDirect (left_to l.plan l.failure l.prefix) r l.prefix c → get_or l.metrics r 0 ≤ c;
}
