use Rattle.std.proofs.Common.{◌≡◌, ◌∙◌, ℕ, ap, decimal, sym}
use Rattle.rip_report.specs.TableText.{prefix_lines}
use Rattle.rip_report.specs.Written.{line}
use Rattle.rip_report.proofs.OutLemmas.{adds_same}
use Rattle.rip_report.proofs.TextLemmas.{metric-parts, text-at}
use Rattle.rip_report.proofs.table.push_prefix_line.Goals as goal

pub returns-in-Some : goal.returns-in-Some
returns-in-Some g c n i p front middle =
    let m = c.in-Some.metric in
    let at-end = text-at c.args.metrics.now c.get.result _ (line (decimal c.get.result)) (c.requires c.get.result c.get.ensures.low c.get.ensures.high) in
    let end : c.as_bytes-in-Some-2.result.now ≡ line (decimal m) = c.as_bytes-in-Some-2.ensures ∙ at-end ∙ ap (λ (k : ℕ). line (decimal k)) c.get.ensures.value in
    let whole = metric-parts n i p m _ _ _ (c.as_bytes.ensures ∙ front) (c.as_bytes-in-Some.ensures ∙ middle) end ∙ ap (prefix_lines n i p) (sym c.in-Some.is) in
    adds_same whole c.push_parts.ensures
