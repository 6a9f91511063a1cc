use Rattle.std.proofs.Common.{◌++◌, Some, rules, ap, codes, refl, sym, List, ℕ}
use Rattle.rip_report.proofs.OutLemmas.{adds_same, adds_then}
use Rattle.rip_report.proofs.captures.times.push_time.Goals as goal

pub returns-in-Some : goal.returns-in-Some
returns-in-Some g c =
    let text = c.write_time.ensures in
    let shown = text.shown in
    (Some shown, rw c.in-Some.is (shown, refl, text.exists, text.counted, search rules), adds_same (ap (λ (l : List ℕ). l ++ codes " ") (sym text.spelled)) (adds_then (adds_then c.make_room.ensures c.push_bytes.ensures) c.push.ensures))
