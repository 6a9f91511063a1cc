use Rattle.std.proofs.Common.{◌≡◌, ℕ, ◌<◌, get_or}
use Rattle.rip_check.specs.Failures.{left_to}
use Rattle.rip_check.specs.Tellings.{AreTold, HasTold, IsTelling}
use Rattle.rip_check.proofs.least.tell_metric.Given as goal

abbrev pub invariant-loop-router : goal.invariant-loop-router
invariant-loop-router l = record {
  telling : IsTelling (left_to l.plan l.failure l.prefix) l.prefix l.metric l.fn.metrics l.metrics;
  told : AreTold (left_to l.plan l.failure l.prefix) l.prefix l.metric l.fn.metrics l.fn.marks →
      AreTold (left_to l.plan l.failure l.prefix) l.prefix l.metric l.metrics l.marks;
  all : (r : ℕ) → r < l.router → get_or l.metrics r 0 ≡ l.metric → HasTold (left_to l.plan l.failure l.prefix) l.prefix l.marks r;
}
