use Rattle.std.proofs.Common.{◌≡◌, ap, codes, length}
use Rattle.rip_table.specs.Tallies.{counts_of}
use Rattle.rip_report.specs.HeardText.{counted_line, heard_line, lines}
use Rattle.rip_report.proofs.OutLemmas.{adds_one, adds_same, adds_then}
use Rattle.rip_report.proofs.heard.add_lines.Goals as goal

pub returns : goal.returns
returns g c = λ events heard.
    let is_head : heard_line c.args.heard c.interfaces.result c.counts.result ≡ heard_line c.args.heard (length c.args.plan.now.interfaces) (counts_of events) =
    cc (c.interfaces.ensures, c.counts.ensures events heard) in
    let interfaces = c.add_interfaces.ensures events heard in
    let strangers = c.add_strangers.ensures events heard in
    let others = adds_same (ap (counted_line (codes "other strangers ")) (c.other_strangers.ensures events heard)) c.push_counted_line.ensures in
    let asked = adds_same (ap (counted_line (codes "other requests ")) (c.other_requests.ensures events heard)) c.push_counted_line-2.ensures in
    adds_one (lines interfaces.text strangers.text interfaces.is_text strangers.is_text)
    (adds_then (adds_then (adds_then (adds_then (adds_then (adds_same is_head c.push_heard_line.ensures) interfaces.adds) strangers.adds) others) (c.push_plain_bad.ensures events heard)) asked)
