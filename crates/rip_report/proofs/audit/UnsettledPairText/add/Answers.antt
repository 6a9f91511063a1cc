use Rattle.rip_report.specs.AuditText.{fails, holds}
use Rattle.std.proofs.Common.{refl}
use Rattle.rip_report.proofs.OutLemmas.{adds_nothing, adds_one}
use Rattle.rip_report.proofs.UnsettledLemmas.{failing_place}
use Rattle.rip_report.proofs.audit.UnsettledPairText.add.Goals as goal

pub push_unsettled_line-requires : goal.push_unsettled_line-requires
push_unsettled_line-requires g c =
    let h = c.in-Some.ensures.some in
    failing_place c.args.case.now.plan.now (g.T.Table.state c.args.case.now.table.now) c.args.router c.args.case.now.prefix c.in-Some.place c.lawful.ensures c.requires.router c.args.case.now.within h.0 h.1 h.2

pub returns-in-Some : goal.returns-in-Some
returns-in-Some g c =
    let h = c.in-Some.ensures.some in
    adds_one (fails c.in-Some.place _ h.0 h.1 h.2 refl) c.push_unsettled_line.ensures

pub returns-in_default : goal.returns-in_default
returns-in_default g c = adds_nothing (holds c.in_default.ensures.none)
