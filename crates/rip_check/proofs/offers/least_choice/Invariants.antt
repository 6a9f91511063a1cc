use Rattle.std.proofs.Common.{ℕ, ◌<◌, ◌≤◌, get_or}
use Rattle.rip_plan.specs.Relations.{IsInterface, IsDirect}
use Rattle.rip_check.specs.Settled.{IsChoice}
use Rattle.rip_check.specs.Tables.{Offers}
use Rattle.rip_check.proofs.offers.least_choice.Given as goal
use Rattle.rip_check.specs.Cases.{network_of, told_in}

abbrev pub invariant-loop-i : goal.invariant-loop-i
invariant-loop-i g l = record {
  most : l.best ≤ 16;
  direct : (c : ℕ) → IsDirect (network_of l.case) l.router l.case.prefix c → l.best ≤ c;
  below : (k m c : ℕ) → k < l.i-index → IsInterface l.case.plan.now (get_or l.numbers k 0) l.router m c →
      (s v : ℕ) → Offers (network_of l.case) (told_in l.case) l.router m s l.case.prefix v → l.best ≤ v;
  chosen : IsChoice (network_of l.case) (told_in l.case) l.router l.case.prefix l.best;
}
