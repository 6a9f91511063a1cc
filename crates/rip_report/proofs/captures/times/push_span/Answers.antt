use Rattle.std.proofs.Common.{◌++◌, ◌/◌, List, ℕ, ap₂, codes}
use Rattle.rip_report.specs.LineTimes.{span_part}
use Rattle.rip_log.specs.Times.{second_text}
use Rattle.rip_report.proofs.LineTimeLemmas.{second-shown}
use Rattle.rip_report.proofs.OutLemmas.{adds_same, adds_then}
use Rattle.rip_report.proofs.captures.times.push_span.Goals as goal

pub returns-in-Some : goal.returns-in-Some
unfolding span_part
returns-in-Some g c = λ times shown.
    let (first, last, is, one, other) = rw c.in-Some.is at shown in
    let adds = adds_then (adds_then (adds_then c.push.ensures c.push_bytes.ensures) c.push-in-Some.ensures) c.push_bytes-in-Some.ensures in
    let a = c.second_texts.ensures.text (c.in-Some.first / 1000000) c.write_second.result (second_text first) c.write_second.ensures (second-shown c.in-Some.first first one) in
    let b = c.second_texts.ensures.text (c.in-Some.last / 1000000) c.write_second-in-Some.result (second_text last) c.write_second-in-Some.ensures (second-shown c.in-Some.last last other) in
    rw is (adds_same (ap₂ (λ (x y : List ℕ). codes ", " ++ x ++ codes " to " ++ y) a b) adds)
