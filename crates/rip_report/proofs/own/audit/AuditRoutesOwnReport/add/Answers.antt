use Rattle.std.proofs.Common.{ap, subst}
use Rattle.rip_report.specs.OwnText.OwnVerdictText.{a_settled, an_unlisted}
use Rattle.rip_report.specs.OwnText.{IsOwnJudged, own_status}
use Rattle.rip_report.proofs.OutLemmas.{adds_one}
use Rattle.rip_report.proofs.OwnPlaceLemmas.{own_judged}
use Rattle.rip_report.proofs.own.audit.AuditRoutesOwnReport.add.Goals as goal

pub push_unlisted_line-requires : goal.push_unlisted_line-requires
push_unlisted_line-requires g c = c.in-NoRoutes.ensures.verdict.router

pub returns-in-Settled-clause-adds : goal.returns-in-Settled-clause-adds
returns-in-Settled-clause-adds g c = record { text = adds_one (a_settled c.in-Settled.ensures.verdict) c.push_own_settled_line.ensures; nothing = tt }

pub returns-in-Settled-clause-judged : goal.returns-in-Settled-clause-judged
returns-in-Settled-clause-judged g c =
    let n = c.args.plan.now in
    let t = g.G.RouteTables.tables c.args.tables.now in
    subst (IsOwnJudged n t) (ap own_status c.in-Settled.is) (own_judged n t c.judge_own.result c.lawful.ensures (g.G.RouteTables.are_tables c.args.tables.now) c.judge_own.ensures.settled)

pub returns-in-NoRoutes-clause-adds : goal.returns-in-NoRoutes-clause-adds
returns-in-NoRoutes-clause-adds g c = record { text = adds_one (an_unlisted c.in-NoRoutes.router c.in-NoRoutes.ensures.verdict) c.push_unlisted_line.ensures; nothing = tt }
