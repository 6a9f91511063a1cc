use Rattle.std.proofs.Common.{◌≡◌, inl, inr, true, false, sym, ◌∙◌}
use Rattle.rip_check.specs.Cases.{block_of, network_of}
use Rattle.rip_check.proofs.NetLemmas.{carried}
use Rattle.rip_check.proofs.PlanLemmas.{attached_test}
use Rattle.rip_check.proofs.lookup.may_hold_back.Goals as goal

pub returns-then-eq : goal.returns-then-eq
returns-then-eq g c = λ r exact.
    let d = attached_test (network_of c.args.case.now) r c.args.case.now.prefix c.args.link c.args.attached c.eq.result exact c.eq.ensures in
    (λ t. inr (d.0 t), λ h. c.if-eq.true)

pub returns-else-eq : goal.returns-else-eq
returns-else-eq g c = λ r exact.
    let case = c.args.case.now in
    let d = attached_test (network_of case) r case.prefix c.args.link c.args.attached c.eq.result exact c.eq.ensures in
    let on = carried case.plan.now (block_of case) c.args.link case.prefix in (
      λ t. inl (on.1 (c.is_place.ensures.0 t)),
      λ h. elim h [
        | inl carries ↦ c.is_place.ensures.1 (on.0 carries)
        | inr at ↦ absurd (let clash : false ≡ true = sym c.if-eq.false ∙ d.1 at in cc clash)
      ],
    )
