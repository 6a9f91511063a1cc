use Rattle.std.proofs.Common.{ap}
use Rattle.std.specs.Prelude.{decimal}
use Rattle.rip_report.specs.PlanText.{counts_line}
use Rattle.rip_report.proofs.OutLemmas.{adds_same, adds_then}
use Rattle.rip_report.proofs.plan.push_counts_line.Goals as goal

pub returns : goal.returns
unfolding counts_line
returns g c =
    let routers = adds_same (ap decimal c.routers.ensures) c.push_number.ensures in
    let links = adds_same (ap decimal c.links.ensures) c.push_number-2.ensures in
    let interfaces = adds_same (ap decimal c.interfaces.ensures) c.push_number-3.ensures in
    let prefixes = adds_same (ap decimal c.prefixes.ensures) c.push_number-4.ensures in
    adds_then (adds_then (adds_then (adds_then (adds_then (adds_then (adds_then (adds_then (adds_then c.push.ensures routers) c.push-2.ensures) links) c.push-3.ensures) interfaces) c.push-4.ensures) prefixes) c.push-5.ensures) c.end.ensures
