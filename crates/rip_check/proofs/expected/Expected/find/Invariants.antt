use Rattle.std.proofs.Common.{◌≡◌, ℕ, ◌+◌, ◌*◌, ◌<◌, get_or, length}
use Rattle.rip_check.specs.Networks.{network_at}
use Rattle.rip_check.specs.Paths.{IsLeast}
use Rattle.rip_check.proofs.expected.Expected.find.Given as goal

abbrev pub invariant-loop-prefix : goal.invariant-loop-prefix
invariant-loop-prefix l = record {
  size : length l.metrics.items ≡ length l.plan.routers * length l.plan.prefixes;
  least : (r p : ℕ) → r < length l.plan.routers → p < l.prefix →
      IsLeast (network_at l.plan l.plan.prefixes p) p r (get_or l.metrics.items (r * length l.plan.prefixes + p) 0);
  row : length l.row ≡ length l.plan.routers;
}
