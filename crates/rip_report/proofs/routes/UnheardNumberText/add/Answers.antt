use Rattle.rip_report.specs.RoutesText.{heard, unheard}
use Rattle.rip_report.proofs.OutLemmas.{adds_nothing, adds_one}
use Rattle.rip_report.proofs.routes.UnheardNumberText.add.Goals as goal

pub push_unheard_line-requires-clause-router : goal.push_unheard_line-requires-clause-router
push_unheard_line-requires-clause-router g c = c.lawful.ensures.router_known _ c.interface.result.router c.interface.result.link c.interface.result.cost c.interface.ensures.is

pub push_unheard_line-requires-clause-link : goal.push_unheard_line-requires-clause-link
push_unheard_line-requires-clause-link g c = c.lawful.ensures.link_known _ c.interface.result.router c.interface.result.link c.interface.result.cost c.interface.ensures.is

pub returns-then-not-heard : goal.returns-then-not-heard
returns-then-not-heard g c = adds_one (unheard c.interface.result c.interface.ensures.exact (λ h. cc (h, c.heard.ensures, c.if-not-heard.true))) c.push_unheard_line.ensures

pub returns-else-not-heard : goal.returns-else-not-heard
returns-else-not-heard g c = adds_nothing (heard (cc (c.heard.ensures, c.if-not-heard.false)))
