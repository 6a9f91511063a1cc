use Rattle.std.proofs.Common.{ℕ, ◌≤◌}
use Rattle.rip_check.specs.Expected.{IsCount}
use Rattle.rip_check.specs.Losses.{IsLonger, IsLost}
use Rattle.rip_check.proofs.ImpactLemmas.{IsFarthestBefore}
use Rattle.rip_check.proofs.aftermath.Losses.part_of.Given as goal

abbrev pub invariant-loop-prefix : goal.invariant-loop-prefix
invariant-loop-prefix l = record {
  lost : IsCount (IsLost l.self.plan.now l.self.failure l.router) l.prefix l.part.lost;
  few_lost : l.part.lost ≤ l.prefix;
  longer : IsCount (λ p. (w : ℕ) × IsLonger l.self.plan.now l.self.failure l.router p w) l.prefix l.part.longer;
  few_longer : l.part.longer ≤ l.prefix;
  farthest : IsFarthestBefore l.self.plan.now l.self.failure l.router l.prefix l.part.farthest;
}
