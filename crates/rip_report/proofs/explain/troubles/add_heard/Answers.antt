use Rattle.rip_report.specs.ExplainText.{none, some}
use Rattle.rip_report.proofs.ExplainLemmas.{on_below}
use Rattle.rip_report.proofs.OutLemmas.{added_also, adds_one}
use Rattle.rip_report.proofs.explain.troubles.add_heard.Goals as goal

pub add_listed-requires : goal.add_listed-requires
add_listed-requires g c = λ k at. (c.requires.fits, on_below c.args.plan.now c.args.link c.on_link.result.now c.on_link.ensures.exact k at)

pub returns-then-any_heard : goal.returns-then-any_heard
returns-then-any_heard g c =
    let h = c.any_heard.ensures.0 c.if-any_heard.true in
    added_also (λ text lines. some h.0 h.1 h.2 text h.3 h.4 lines) (c.add_listed.ensures _ c.on_link.ensures.value)

pub returns-else-any_heard : goal.returns-else-any_heard
returns-else-any_heard g c = adds_one (none (λ i r k is heard. cc (c.if-any_heard.false, c.any_heard.ensures.1 (i, r, k, is, heard)))) c.push_none_heard_line.ensures
