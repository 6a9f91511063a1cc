use Rattle.rip_report.specs.OwnText.{unlisted_line}
use Rattle.rip_report.proofs.OutLemmas.{adds_then}
use Rattle.rip_report.proofs.own.lines.push_unlisted_line.Goals as goal

pub returns : goal.returns
unfolding unlisted_line
returns g c = adds_then (adds_then (adds_then c.push.ensures c.push_router.ensures) c.push-2.ensures) c.end.ensures
