use Rattle.std.proofs.Common.{ap, decimal}
use Rattle.rip_report.specs.HeardText.{heard_line}
use Rattle.rip_report.proofs.OutLemmas.{adds_same, adds_then}
use Rattle.rip_report.proofs.heard.push_heard_line.Goals as goal

pub returns : goal.returns
unfolding heard_line
returns g c = adds_then (adds_then (adds_then (adds_then (adds_then (adds_then (adds_then (adds_then c.push.ensures c.push_number.ensures) c.push-2.ensures) c.push_number-2.ensures) c.push-3.ensures) (adds_same (ap decimal c.from.ensures) c.push_number-3.ensures)) c.push-4.ensures) c.push_left_out.ensures) c.end.ensures
