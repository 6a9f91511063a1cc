use Rattle.std.proofs.Common.{ap}
use Rattle.rip_report.specs.ExplainText.{shown, shown_line}
use Rattle.rip_report.proofs.ExplainLemmas.{shown_metric}
use Rattle.rip_report.proofs.OutLemmas.{adds_one, adds_same}
use Rattle.rip_report.proofs.explain.places.ShownNumberText.add.Goals as goal

pub push_shown_line-requires : goal.push_shown_line-requires
push_shown_line-requires g c = c.lawful.ensures.link_known _ c.interface-link.result.router c.interface-link.result.link c.interface-link.result.cost c.interface-link.ensures.is

pub returns : goal.returns
returns g c =
    let s = g.T.Table.state c.args.self.now.case.now.table.now in
    let x = c.interface-link.result in
    let same = ap (shown_line c.args.self.now.case.now.plan.now x.link) (shown_metric s c.args.number c.args.self.now.case.now.prefix c.metric-shown.result c.args.self.now.case.now.within c.metric-shown.ensures) in
    adds_one (shown x c.interface-link.ensures.exact) (adds_same same c.push_shown_line.ensures)
