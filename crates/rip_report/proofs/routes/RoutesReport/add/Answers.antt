use Rattle.std.proofs.Common.{refl}
use Rattle.rip_report.specs.RoutesText.{RoutesText, routes_line}
use Rattle.rip_report.proofs.AcceptedLemmas.{whole_text}
use Rattle.rip_report.proofs.EndLemmas.{written_also}
use Rattle.rip_report.proofs.routes.RoutesReport.add.Goals as goal

pub returns-clause-adds : goal.returns-clause-adds
returns-clause-adds g c =
    let n = c.args.plan.now in
    let s = g.T.Table.state c.args.table.now in
    written_also (λ w h. whole_text (RoutesText n s) (routes_line n s) c.new.result w (rw c.new.ensures refl) h) c.add_routes.ensures
