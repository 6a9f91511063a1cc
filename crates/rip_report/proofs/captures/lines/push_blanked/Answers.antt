use Rattle.std.proofs.Common.{◌-◌, ◌∙◌, ap, arith, drop, replicate, sym, take}
use Rattle.std.proofs.lemmas.List.{take-replicate, take_rest}
use Rattle.hex.specs.Hex.{encode_lower}
use Rattle.rip_report.proofs.CaptureLemmas.{digits-parts}
use Rattle.rip_report.proofs.OutLemmas.{adds_same, adds_then}
use Rattle.rip_report.proofs.captures.lines.push_blanked.Goals as goal

pub returns-in-Some-clause-adds : goal.returns-in-Some-clause-adds
returns-in-Some-clause-adds g c =
    let d = c.args.datagram.now in
    let span = c.in-Some.span in
    let n = span.to - span.from in
    let zeros = adds_same (ap encode_lower (take-replicate n 16 0 (omega (arith, c.in-Some.ensures.few)))) c.push_digits-in-Some-2.ensures in
    let rest = adds_same (ap encode_lower (take_rest d span.to)) c.push_digits-in-Some-3.ensures in
    adds_same (digits-parts (take span.from d) (replicate n 0) (drop span.to d) ∙ ap encode_lower (sym c.in-Some.ensures.shown)) (adds_then c.push_digits-in-Some.ensures (adds_then zeros rest))
