use Rattle.std.proofs.Common.{◌≡◌, ◌≢◌, ℕ, ◌<◌, ◌≤◌, ◌+◌, ◌⊎◌, get_or, min, unwrap_or}
use Rattle.rip_plan.specs.Relations.{IsInterface}
use Rattle.rip_check.specs.Tables.{Offers}
use Rattle.rip_check.proofs.offers.least_asked.Given as goal
use Rattle.rip_check.specs.Metrics.{metric_at}
use Rattle.rip_check.specs.Cases.{network_of, told_in}

abbrev pub invariant-loop-j : goal.invariant-loop-j
invariant-loop-j g l = record {
  at_most : l.least ≤ l.best;
  below : (k s d : ℕ) → k < l.j-index → IsInterface (network_of l.case) (get_or l.numbers k 0) s l.link d → s ≢ l.router →
      l.least ≤ min 16 (l.cost + unwrap_or (metric_at (told_in l.case) (get_or l.numbers k 0) l.case.prefix) 16);
  chosen : (l.least ≡ l.best) ⊎ ((s : ℕ) × Offers (network_of l.case) (told_in l.case) l.router l.link s l.case.prefix l.least);
}
