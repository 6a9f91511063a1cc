use Rattle.rip_report.specs.HeardText.{by_hop, no_hop}
use Rattle.rip_report.proofs.OutLemmas.{adds_one, adds_then}
use Rattle.rip_report.proofs.heard.interfaces.add_refusal.Goals as goal

pub returns-in-Some : goal.returns-in-Some
returns-in-Some g c =
    let who = c.add_who.ensures in
    adds_one (by_hop c.in-Some.address who.text c.in-Some.is who.is_text)
    (adds_then c.push_table_error.ensures (adds_then (adds_then (adds_then c.push.ensures c.push_address.ensures) c.push-in-Some.ensures) who.adds))

pub returns-in_default : goal.returns-in_default
returns-in_default g c = adds_one (no_hop c.in_default.is) c.push_table_error.ensures
