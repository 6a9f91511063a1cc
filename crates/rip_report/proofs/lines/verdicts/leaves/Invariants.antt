use Rattle.std.proofs.Common.{◌≡◌, ◌≤◌, length}
use Rattle.std.specs.Prelude.{filter}
use Rattle.rip_plan.specs.Network.{each_below}
use Rattle.rip_report.specs.AuditText.{has_one_interface}
use Rattle.rip_report.proofs.lines.verdicts.leaves.Given as goal

abbrev pub invariant-loop-router : goal.invariant-loop-router
invariant-loop-router l = record {
  counted : l.leaves ≡ length (filter (has_one_interface l.plan) (each_below l.router (λ r. r)));
  few : l.leaves ≤ l.router;
}
