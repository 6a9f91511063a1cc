use Rattle.std.proofs.Common.{length}
use Rattle.rip_report.specs.ExpectText.{right_routes}
use Rattle.rip_report.proofs.OutLemmas.{adds_one, adds_then}
use Rattle.rip_report.proofs.expect.ExpectPlanReport.add.Goals as goal

pub returns : goal.returns
returns g c =
    let lines = c.add_below.ensures (length c.args.plan.now.routers) c.routers.ensures in
    record { text = adds_one (right_routes c.unreachable.result lines.text c.unreachable.ensures lines.is_text) (adds_then c.push_counts_line.ensures lines.adds); nothing = tt }
