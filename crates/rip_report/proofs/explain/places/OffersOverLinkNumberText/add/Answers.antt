use Rattle.std.proofs.lemmas.Bool.{both_ways}
use Rattle.rip_report.specs.ExplainText.{closed, offers}
use Rattle.rip_report.proofs.ExplainLemmas.{on_number}
use Rattle.rip_report.proofs.OutLemmas.{added_also, adds_nothing}
use Rattle.rip_report.proofs.explain.places.OffersOverLinkNumberText.add.Goals as goal

pub on_link-numbers-requires : goal.on_link-numbers-requires
on_link-numbers-requires g c = c.lawful.ensures.link_known _ c.interface-own.result.router c.interface-own.result.link c.interface-own.result.cost c.interface-own.ensures.is

pub add_listed-requires : goal.add_listed-requires
add_listed-requires g c =
    let here = on_number c.args.self.now.case.now.plan.now c.interface-own.result.link c.on_link-numbers.result.now c.on_link-numbers.ensures.exact in
    λ k at. (c.exchanges.ensures.0 c.if-exchanges.true, (c.args.number, c.interface-own.ensures.is), here k at)

pub exchanges-requires : goal.exchanges-requires
exchanges-requires g c = c.lawful.ensures.link_known _ c.interface-own.result.router c.interface-own.result.link c.interface-own.result.cost c.interface-own.ensures.is

pub returns-then-exchanges : goal.returns-then-exchanges
returns-then-exchanges g c =
    added_also (λ text lines. offers c.interface-own.result text c.interface-own.ensures.exact (c.exchanges.ensures.0 c.if-exchanges.true) lines) (c.add_listed.ensures _ c.on_link-numbers.ensures.value)

pub returns-else-exchanges : goal.returns-else-exchanges
returns-else-exchanges g c = adds_nothing (closed c.interface-own.result c.interface-own.ensures.exact (λ is. both_ways _ c.if-exchanges.false (c.exchanges.ensures.1 is)))
