use Rattle.std.proofs.Common.{ap}
use Rattle.rip_check.specs.Cases.{block_of}
use Rattle.rip_check.proofs.NetLemmas.{cost_here, here}
use Rattle.rip_report.specs.ExplainText.{an_offer, its_own, offer_line}
use Rattle.rip_report.proofs.ExplainLemmas.{its_own_link, shown_metric}
use Rattle.rip_report.proofs.OutLemmas.{adds_nothing, adds_one, adds_same}
use Rattle.rip_report.proofs.explain.places.OfferToNumberText.add.Goals as goal

pub push_offer_line-requires-clause-link : goal.push_offer_line-requires-clause-link
push_offer_line-requires-clause-link g c = let own = c.args.self.now.own in c.lawful.ensures.link_known c.requires.1.0 own.router own.link own.cost c.requires.1.1

pub push_offer_line-requires-clause-router : goal.push_offer_line-requires-clause-router
push_offer_line-requires-clause-router g c = c.lawful.ensures.router_known _ c.interface-router.result.router c.interface-router.result.link c.interface-router.result.cost c.interface-router.ensures.is

pub offer-value-requires-clause-own : goal.offer-value-requires-clause-own
offer-value-requires-clause-own g c =
    let case = c.args.self.now.case.now in
    let own = c.args.self.now.own in
    cost_here case.plan.now c.lawful.ensures (block_of case) own.router own.link own.cost c.requires.1 c.requires.0

pub offer-value-requires-clause-across : goal.offer-value-requires-clause-across
offer-value-requires-clause-across g c =
    let case = c.args.self.now.case.now in
    let own = c.args.self.now.own in
    let x = c.interface-router.result in
    let its = its_own_link case.plan.now c.args.number c.requires.2.0 own.link c.requires.2.1 x c.requires.2.2 c.interface-router.ensures.exact in
    (x.router, x.cost, here case.plan.now c.lawful.ensures (block_of case) c.args.number x.router own.link x.cost its c.requires.0, c.if-router-self.true)

pub returns-then-router-self : goal.returns-then-router-self
returns-then-router-self g c =
    let n = c.args.self.now.case.now.plan.now in
    let s = g.T.Table.state c.args.self.now.case.now.table.now in
    let own = c.args.self.now.own in
    let j = c.args.number in
    let x = c.interface-router.result in
    let shown = ap (λ m. offer_line n own x.router m c.offer-value.result) (shown_metric s j c.args.self.now.case.now.prefix c.metric-shown.result c.args.self.now.case.now.within c.metric-shown.ensures) in
    adds_one
    (an_offer x c.offer-value.result c.interface-router.ensures.exact
    (c.offer-value.ensures x.router x.cost (here n c.lawful.ensures (block_of c.args.self.now.case.now) j x.router own.link x.cost (its_own_link n j c.requires.2.0 own.link c.requires.2.1 x c.requires.2.2 c.interface-router.ensures.exact) c.requires.0)))
    (adds_same shown c.push_offer_line.ensures)

pub returns-else-router-self : goal.returns-else-router-self
returns-else-router-self g c = adds_nothing (its_own c.interface-router.result c.interface-router.ensures.exact c.if-router-self.false)
