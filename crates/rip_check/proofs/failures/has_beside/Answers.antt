use Rattle.std.proofs.Common.{inl}
use Rattle.rip_check.proofs.PlanLemmas.{attached_test}
use Rattle.rip_check.proofs.failures.has_beside.Goals as goal

pub returns-then-eq-clause-lost : goal.returns-then-eq-clause-lost
returns-then-eq-clause-lost c =
    λ e. inl ((attached_test c.args.plan.now c.args.router c.args.prefix c.args.failed c.attached_link.result c.eq.result c.attached_link.ensures c.eq.ensures).0 c.if-eq.true)

pub returns-clause-attached : goal.returns-clause-attached
returns-clause-attached c = λ e at.
    let t = (attached_test c.args.plan.now c.args.router c.args.prefix c.args.failed c.attached_link.result c.eq.result c.attached_link.ensures c.eq.ensures).1 at in
    cc (t, c.if-eq.false)
