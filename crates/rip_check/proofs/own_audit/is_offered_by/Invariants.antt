use Rattle.std.proofs.Common.{ℕ, ◌<◌, get_or}
use Rattle.rip_plan.specs.Relations.{Exchanges, IsInterface}
use Rattle.rip_check.specs.Cases.{block_of, network_of, told_in}
use Rattle.rip_check.specs.OwnTells.{HasHop}
use Rattle.rip_check.specs.Tables.{Offers}
use Rattle.rip_check.proofs.own_audit.is_offered_by.Given as goal

abbrev pub invariant-loop-i : goal.invariant-loop-i
invariant-loop-i g l =
    (k m c : ℕ) → k < l.i-index → IsInterface l.case.plan.now (get_or l.numbers k 0) l.router m c → Exchanges l.case.plan.now m (block_of l.case) → (s : ℕ) →
    HasHop (network_of l.case) l.router m s l.case.prefix l.address → Offers (network_of l.case) (told_in l.case) l.router m s l.case.prefix l.metric → ⊥
