use Rattle.std.proofs.Common.{length}
use Rattle.rip_report.specs.RoutesText.{lines}
use Rattle.rip_report.proofs.OutLemmas.{adds_one, adds_then}
use Rattle.rip_report.proofs.routes.add_lines.Goals as goal

pub returns : goal.returns
returns g c =
    let silent = c.add_below.ensures (length c.args.plan.now.interfaces) c.interfaces.ensures in
    let routes = c.add_pairs.ensures in
    adds_one (lines silent.text routes.text silent.is_text routes.is_text) (adds_then silent.adds routes.adds)
