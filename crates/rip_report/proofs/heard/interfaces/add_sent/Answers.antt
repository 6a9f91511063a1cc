use Rattle.rip_report.specs.HeardText.{sent}
use Rattle.rip_report.proofs.OutLemmas.{adds_one, adds_then}
use Rattle.rip_report.proofs.heard.interfaces.add_sent.Goals as goal

pub returns : goal.returns
returns g c =
    let refused = c.add_refused.ensures in
    adds_one (sent refused.text refused.is_text) (adds_then (adds_then (adds_then c.push_joined_line.ensures refused.adds) c.push_bad_line.ensures) c.push_counted_line.ensures)
