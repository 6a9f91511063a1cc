use Rattle.std.proofs.Common.{◌≤◌}
use Rattle.rip_check.specs.Expected.{IsCount}
use Rattle.rip_check.specs.Networks.{network_at}
use Rattle.rip_check.specs.Paths.{IsLeast}
use Rattle.rip_check.proofs.expected.Expected.unreachable_of.Given as goal

abbrev pub invariant-loop-prefix : goal.invariant-loop-prefix
invariant-loop-prefix l = record {
  counted : IsCount (λ p. IsLeast (network_at l.plan l.plan.prefixes p) p l.router 16) l.prefix l.count;
  few : l.count ≤ l.prefix;
}
