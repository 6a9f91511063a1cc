use Rattle.std.proofs.Common.{◌≡◌, ℕ, ◌<◌, get_or, true}
use Rattle.rip_plan.specs.Relations.{IsInterface}
use Rattle.rip_check.specs.Cases.{network_of, told_in}
use Rattle.rip_check.specs.OwnTells.{IsHolder}
use Rattle.rip_check.specs.Tables.{Offers}
use Rattle.rip_check.specs.ToldCells.{AreMarks}
use Rattle.rip_check.proofs.HolderLemmas.{OffersBefore}
use Rattle.rip_check.proofs.own_audit.mark_holders.Given as goal

abbrev pub invariant-loop-i : goal.invariant-loop-i
invariant-loop-i g l =
    let n = l.case.plan.now in
    let net = network_of l.case in
    let told = told_in l.case in
    record {
      marks : AreMarks (OffersBefore n net told l.router l.case.prefix l.metric l.address l.numbers l.i-index) l.marks;
      each : l.each ≡ true → (k m c : ℕ) → k < l.i-index → IsInterface n (get_or l.numbers k 0) l.router m c → (s : ℕ) → IsHolder net l.router m s l.address → Offers net told l.router m s l.case.prefix l.metric;
    }
