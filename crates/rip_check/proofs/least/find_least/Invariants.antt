use Rattle.std.proofs.Common.{ℕ, ◌≤◌, get_or}
use Rattle.rip_plan.specs.Relations.{IsDirect}
use Rattle.rip_check.specs.Failures.{left_to}
use Rattle.rip_check.specs.Tellings.{AreTold}
use Rattle.rip_check.proofs.TellingLemmas.{AreReached, AreSettled}
use Rattle.rip_check.proofs.least.find_least.Given as goal

abbrev pub invariant-loop-metric : goal.invariant-loop-metric
invariant-loop-metric l = record {
  reached : AreReached (left_to l.plan l.failure l.prefix) l.prefix l.metrics;
  direct : (r c : ℕ) → IsDirect (left_to l.plan l.failure l.prefix) r l.prefix c → get_or l.metrics r 0 ≤ c;
  told : AreTold (left_to l.plan l.failure l.prefix) l.prefix l.metric l.metrics l.marks;
  settled : AreSettled (left_to l.plan l.failure l.prefix) l.prefix l.metric l.metrics;
}
