use Rattle.std.proofs.Common.{refl}
use Rattle.rip_report.specs.OwnText.{fails, holds}
use Rattle.rip_report.proofs.OutLemmas.{adds_nothing, adds_one}
use Rattle.rip_report.proofs.OwnPlaceLemmas.{failing_own}
use Rattle.rip_report.proofs.own.audit.WrongLinesPairText.add.Goals as goal

pub push_own_unsettled_line-requires : goal.push_own_unsettled_line-requires
push_own_unsettled_line-requires g c =
    let n = c.args.case.now.plan.now in
    let s = g.T.Table.state c.args.case.now.table.now in
    let t = g.G.RouteTables.tables c.args.self.now.tables.now in
    let h = c.in-Some.ensures.some in
    failing_own n s t c.args.router c.args.case.now.prefix c.in-Some.place c.lawful.ensures c.requires.fits.0 c.requires.router c.args.case.now.within h.0 h.1 h.2

pub returns-in-Some : goal.returns-in-Some
returns-in-Some g c =
    let h = c.in-Some.ensures.some in
    adds_one (fails c.in-Some.place _ h.0 h.1 h.2 refl) c.push_own_unsettled_line.ensures

pub returns-in-None : goal.returns-in-None
returns-in-None g c = adds_nothing (holds c.in-None.ensures.none)
