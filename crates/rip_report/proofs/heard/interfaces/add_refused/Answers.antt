use Rattle.rip_report.specs.HeardText.{none, some}
use Rattle.rip_report.proofs.OutLemmas.{adds_nothing, adds_one, adds_then}
use Rattle.rip_report.proofs.heard.interfaces.add_refused.Goals as goal

pub returns-in-Some : goal.returns-in-Some
returns-in-Some g c =
    let why = c.add_refusal.ensures in
    adds_one (some c.in-Some.refusal why.text c.in-Some.is why.is_text) (adds_then c.push_refused_front.ensures (adds_then why.adds c.end.ensures))

pub returns-in_default : goal.returns-in_default
returns-in_default g c = adds_nothing (none c.in_default.is)
