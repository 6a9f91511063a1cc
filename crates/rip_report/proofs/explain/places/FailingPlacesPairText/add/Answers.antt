use Rattle.rip_report.specs.AuditText.{fails, holds}
use Rattle.rip_report.proofs.OutLemmas.{added_also, adds_nothing}
use Rattle.rip_report.proofs.UnsettledLemmas.{failing_place}
use Rattle.rip_report.proofs.explain.places.FailingPlacesPairText.add.Goals as goal

pub add_place-requires-clause-place : goal.add_place-requires-clause-place
add_place-requires-clause-place g c =
    let h = c.in-Some.ensures.some in
    failing_place c.args.case.now.plan.now (g.T.Table.state c.args.case.now.table.now) c.args.router c.args.case.now.prefix c.in-Some.place c.lawful.ensures c.requires.router c.args.case.now.within h.0 h.1 h.2

pub returns-in-Some : goal.returns-in-Some
returns-in-Some g c =
    let h = c.in-Some.ensures.some in
    added_also (λ text lines. fails c.in-Some.place text h.0 h.1 h.2 lines) c.add_place.ensures

pub returns-in_default : goal.returns-in_default
returns-in_default g c = adds_nothing (holds c.in_default.ensures.none)
