use Rattle.std.proofs.Common.{◌≤◌}
use Rattle.rip_check.specs.Expected.{IsCount}
use Rattle.rip_check.specs.Losses.{IsGone}
use Rattle.rip_check.proofs.aftermath.Losses.count_gone.Given as goal

abbrev pub invariant-loop-prefix : goal.invariant-loop-prefix
invariant-loop-prefix l = record {
  counted : IsCount (IsGone l.self.plan.now l.self.failure) l.prefix l.count;
  few : l.count ≤ l.prefix;
}
