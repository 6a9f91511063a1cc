use Rattle.rip_report.specs.ExplainText.{heard, not_heard}
use Rattle.rip_report.proofs.OutLemmas.{adds_nothing, adds_one}
use Rattle.rip_report.proofs.explain.troubles.HeardNumberText.add.Goals as goal

pub push_heard_line-requires-clause-router : goal.push_heard_line-requires-clause-router
push_heard_line-requires-clause-router g c = c.lawful.ensures.router_known _ c.interface.result.router c.interface.result.link c.interface.result.cost c.interface.ensures.is

pub push_heard_line-requires-clause-link : goal.push_heard_line-requires-clause-link
push_heard_line-requires-clause-link g c = c.lawful.ensures.link_known _ c.interface.result.router c.interface.result.link c.interface.result.cost c.interface.ensures.is

pub returns-then-heard : goal.returns-then-heard
returns-then-heard g c = adds_one (heard c.interface.result c.interface.ensures.exact (cc (c.heard.ensures, c.if-heard.true))) c.push_heard_line.ensures

pub returns-else-heard : goal.returns-else-heard
returns-else-heard g c = adds_nothing (not_heard (λ h. cc (h, c.heard.ensures, c.if-heard.false)))
