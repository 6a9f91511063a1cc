use Rattle.rip_report.specs.HeardText.{sent}
use Rattle.rip_report.proofs.OutLemmas.{adds_one, adds_then}
use Rattle.rip_report.proofs.heard.strangers.add_stranger.Goals as goal

pub returns : goal.returns
returns g c =
    let who = c.add_stranger_who.ensures in
    adds_one (sent who.text who.is_text)
    (adds_then (adds_then (adds_then (adds_then c.push.ensures c.push-2.ensures) c.push_stranger_part.ensures) (adds_then who.adds c.end.ensures)) c.push_bad_line.ensures)
