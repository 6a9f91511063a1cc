use Rattle.std.proofs.Common.{◌++◌, refl}
use Rattle.rip_report.specs.AnywayText.{AnywayRoutes}
use Rattle.rip_report.specs.LeftOut.{left_out_line}
use Rattle.rip_report.specs.RoutesText.{routes, routes_line}
use Rattle.rip_report.specs.declared.status.Status.TheVariants.{Done}
use Rattle.rip_report.proofs.OutLemmas.{adds_one, adds_then}
use Rattle.rip_report.proofs.routes.add_routes.Goals as goal

pub returns : goal.returns
returns g c =
    let lines = c.add_lines.ensures in
    let n = c.args.plan.now in
    let s = g.T.Table.state c.args.table.now in
    let left = left_out_line c.args.left_out in
    let anyway : AnywayRoutes n s c.args.left_out (record { text = (routes_line n s ++ left) ++ lines.text; status = c.anyway_status.result }) = record { rest = lines.text; status = Done; is_text = routes lines.text lines.is_text; text = refl; answers = c.anyway_status.ensures } in
    record { text = adds_one anyway (adds_then (adds_then c.push_counts_line.ensures c.push_left_out_line.ensures) lines.adds); nothing = tt }
