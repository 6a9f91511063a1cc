use Rattle.std.proofs.Common.{◌≡◌, ℕ, ◌<◌, get_or}
use Rattle.rip_check.specs.Cases.{told_in}
use Rattle.rip_check.proofs.AcrossLemmas.{heard_from}
use Rattle.rip_check.specs.ToldCells.{HasGatewayAcross}
use Rattle.rip_check.proofs.own_audit.is_offered_across.Given as goal

abbrev pub invariant-loop-k : goal.invariant-loop-k
invariant-loop-k g l =
    (m j : ℕ) → m < l.k-index → HasGatewayAcross l.case.plan.now l.own.router l.own.link l.address (get_or l.places m 0) j → l.metric ≡ heard_from (told_in l.case) l.own.cost j l.case.prefix → ⊥
