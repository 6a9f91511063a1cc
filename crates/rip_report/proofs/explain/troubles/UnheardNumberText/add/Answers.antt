use Rattle.rip_report.specs.ExplainText.{is_heard, unheard}
use Rattle.rip_report.proofs.OutLemmas.{added_also, adds_nothing}
use Rattle.rip_report.proofs.explain.troubles.UnheardNumberText.add.Goals as goal

pub add_trouble-requires-clause-trouble : goal.add_trouble-requires-clause-trouble
add_trouble-requires-clause-trouble g c =
    let x = c.interface-own.result in
    (c.lawful.ensures.router_known _ x.router x.link x.cost c.interface-own.ensures.is, c.lawful.ensures.link_known _ x.router x.link x.cost c.interface-own.ensures.is)

pub returns-then-not-heard : goal.returns-then-not-heard
returns-then-not-heard g c =
    added_also (λ text lines. unheard c.interface-own.result text c.interface-own.ensures.exact (λ h. cc (h, c.heard.ensures, c.if-not-heard.true)) lines) c.add_trouble.ensures

pub returns-else-not-heard : goal.returns-else-not-heard
returns-else-not-heard g c = adds_nothing (is_heard (cc (c.heard.ensures, c.if-not-heard.false)))
