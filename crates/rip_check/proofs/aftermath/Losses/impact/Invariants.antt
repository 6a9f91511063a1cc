use Rattle.std.proofs.Common.{◌≤◌, ◌*◌, length}
use Rattle.rip_check.specs.Expected.{IsCount, IsTotal}
use Rattle.rip_check.specs.Impacts.{AreLongerOf, AreLostBy}
use Rattle.rip_check.specs.Losses.{IsGone}
use Rattle.rip_check.proofs.ImpactLemmas.{IsFarthestBelow, IsHardestBelow}
use Rattle.rip_check.proofs.aftermath.Losses.impact.Given as goal

abbrev pub invariant-loop-router : goal.invariant-loop-router
invariant-loop-router l = record {
  lost : IsTotal (AreLostBy l.self.plan.now l.self.failure) l.router l.impact.lost;
  few_lost : l.impact.lost ≤ l.router * 1024;
  gone : IsCount (IsGone l.self.plan.now l.self.failure) (length l.self.plan.now.prefixes) l.impact.gone;
  longer : IsTotal (AreLongerOf l.self.plan.now l.self.failure) l.router l.impact.longer;
  few_longer : l.impact.longer ≤ l.router * 1024;
  farthest : IsFarthestBelow l.self.plan.now l.self.failure l.router l.impact.farthest;
  hit : IsHardestBelow l.self.plan.now l.self.failure l.router l.impact.hardest_hit l.impact.most_lost;
}
