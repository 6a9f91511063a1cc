use Rattle.std.proofs.Common.{ℕ, ◌<◌, get_or}
use Rattle.rip_plan.specs.Relations.{IsInterface}
use Rattle.rip_check.specs.Cases.{network_of, told_in}
use Rattle.rip_check.specs.OwnSettled.{OffersAsHolder}
use Rattle.rip_check.specs.OwnTells.{IsHolder}
use Rattle.rip_check.proofs.own_audit.first_unmarked.Given as goal

abbrev pub invariant-loop-i : goal.invariant-loop-i
invariant-loop-i g l =
    let net = network_of l.case in
    (k m c : ℕ) → k < l.i-index → IsInterface l.case.plan.now (get_or l.numbers k 0) l.router m c → (s : ℕ) → IsHolder net l.router m s l.address
    → OffersAsHolder net (told_in l.case) l.router s l.case.prefix l.metric l.address
