use Rattle.std.proofs.Common.{◌*◌, ◌≤◌, length}
use Rattle.rip_check.specs.Expected.{IsCount, IsTotal}
use Rattle.rip_check.specs.Networks.{network_at}
use Rattle.rip_check.specs.Paths.{IsLeast}
use Rattle.rip_check.proofs.expected.Expected.unreachable.Given as goal

abbrev pub invariant-loop-router : goal.invariant-loop-router
invariant-loop-router l = record {
  summed : IsTotal (λ r. IsCount (λ p. IsLeast (network_at l.plan l.plan.prefixes p) p r 16) (length l.plan.prefixes)) l.router l.total;
  few : l.total ≤ l.router * 1024;
}
