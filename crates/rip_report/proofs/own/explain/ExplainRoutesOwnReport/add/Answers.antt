use Rattle.std.proofs.Common.{ap}
use Rattle.rip_report.specs.OwnText.{own_status}
use Rattle.rip_report.specs.OwnText.OwnExplainText.{an_unlisted}
use Rattle.rip_report.specs.declared.status.Status.TheVariants.{Settled}
use Rattle.rip_report.proofs.OutLemmas.{added_also}
use Rattle.rip_report.proofs.OwnPlaceLemmas.{own_judged, own_judged_added}
use Rattle.rip_report.proofs.own.explain.ExplainRoutesOwnReport.add.Goals as goal

pub returns-in-Settled-clause-adds : goal.returns-in-Settled-clause-adds
returns-in-Settled-clause-adds g c = c.add_own_settled.ensures.adds c.args.self.now.all

pub returns-in-Settled-clause-judged : goal.returns-in-Settled-clause-judged
returns-in-Settled-clause-judged g c =
    let n = c.args.plan.now in
    let t = g.G.RouteTables.tables c.args.tables.now in
    let meant = own_judged n t c.judge_own.result c.lawful.ensures (g.G.RouteTables.are_tables c.args.tables.now) c.judge_own.ensures.settled in
    own_judged_added n t c.judge_own.result Settled c.add_own_settled.result (ap own_status c.in-Settled.is) meant c.add_own_settled.ensures.status

pub returns-in-NoRoutes-clause-adds : goal.returns-in-NoRoutes-clause-adds
returns-in-NoRoutes-clause-adds g c = record {
  text = added_also (λ text lines. an_unlisted c.in-NoRoutes.router text c.in-NoRoutes.ensures.verdict lines) c.add_unlisted.ensures;
  nothing = tt;
}
