use Rattle.std.proofs.Common.{◌≡◌, refl}
use Rattle.rip_wire.specs.Prefix.{prefix_text}
use Rattle.rip_report.specs.ExplainText.{unreachable_line}
use Rattle.rip_report.specs.Names.{prefix_name}
use Rattle.rip_report.proofs.OutLemmas.{adds_same, adds_then}
use Rattle.rip_report.proofs.explain.lines.push_unreachable_line.Goals as goal

pub returns : goal.returns
unfolding unreachable_line
returns g c =
    let same : prefix_text c.prefix.result ≡ prefix_name (g.T.Table.state c.args.case.now.table.now) c.args.case.now.prefix = rw c.prefix.ensures refl in
    adds_then (adds_then (adds_then (adds_then c.push.ensures c.push_router.ensures) c.push-2.ensures) (adds_same same c.push_prefix.ensures)) c.end.ensures
