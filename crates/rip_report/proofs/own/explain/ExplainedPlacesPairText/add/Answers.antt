use Rattle.rip_report.specs.OwnText.{fails, holds}
use Rattle.rip_report.proofs.OutLemmas.{added_also, adds_nothing}
use Rattle.rip_report.proofs.OwnPlaceLemmas.{failing_own}
use Rattle.rip_report.proofs.own.explain.ExplainedPlacesPairText.add.Goals as goal

pub add_own_place-requires-clause-place : goal.add_own_place-requires-clause-place
add_own_place-requires-clause-place g c =
    let n = c.args.case.now.plan.now in
    let s = g.T.Table.state c.args.case.now.table.now in
    let t = g.G.RouteTables.tables c.args.self.now.tables.now in
    let h = c.in-Some.ensures.some in
    failing_own n s t c.args.router c.args.case.now.prefix c.in-Some.place c.lawful.ensures c.requires.fits.0 c.requires.router c.args.case.now.within h.0 h.1 h.2

pub returns-in-Some : goal.returns-in-Some
returns-in-Some g c =
    let h = c.in-Some.ensures.some in
    added_also (λ text lines. fails c.in-Some.place text h.0 h.1 h.2 lines) c.add_own_place.ensures

pub returns-in-None : goal.returns-in-None
returns-in-None g c = adds_nothing (holds c.in-None.ensures.none)
