use Rattle.std.proofs.Common.{◌∙◌, get_or, inr, Some, sym}
use Rattle.rip_plan.proofs.PrefixNetworkLemmas.{exchange}
use Rattle.rip_check.specs.Networks.{block_at}
use Rattle.rip_check.proofs.LeftLemmas.{attached_own, cost_left}
use Rattle.rip_check.proofs.NetLemmas.{attached, cost_here, on_known}
use Rattle.rip_check.proofs.OwnedLemmas.{its_number, its_own, its_router}
use Rattle.rip_check.proofs.untouched.Scenario.is_given.Goals as goal

pub interface-own-requires : goal.interface-own-requires
interface-own-requires c = its_number c.args.self.now.plan.now c.args.router c.of_router-numbers.result.now c.of_router-numbers.ensures.exact c.loop-i.i-index c.loop-i-test.true

pub exchanges-requires-clause-link : goal.exchanges-requires-clause-link
exchanges-requires-clause-link c =
    let x = c.interface-own.result in
    c.lawful.ensures.link_known _ x.router x.link x.cost c.interface-own.ensures.is

pub is_given_over-requires-clause-router : goal.is_given_over-requires-clause-router
is_given_over-requires-clause-router c =
    let x = c.interface-own.result in
    c.lawful.ensures.router_known _ x.router x.link x.cost c.interface-own.ensures.is

pub is_given_over-requires-clause-own : goal.is_given_over-requires-clause-own
is_given_over-requires-clause-own c =
    let a = c.args.self.now in
    let n = a.plan.now in
    let x = c.interface-own.result in
    cost_here n c.lawful.ensures (block_at n.prefixes a.prefix) x.router x.link x.cost (_, c.interface-own.ensures.is) (c.exchanges.ensures.0 c.if-exchanges.true)

pub returns-then-is_given_over : goal.returns-then-is_given_over
returns-then-is_given_over c = λ e.
    let a = c.args.self.now in
    let n = a.plan.now in
    let laws = c.lawful.ensures in
    let f = Some a.failure in
    let p = a.prefix in
    let b = block_at n.prefixes p in
    let r = c.args.router in
    let x = c.interface-own.result in
    let i = get_or c.of_router-numbers.result.now c.loop-i.i-index 0 in
    let mine = its_own n r c.of_router-numbers.result.now c.of_router-numbers.ensures.exact c.loop-i.i-index x c.loop-i-test.true c.interface-own.ensures.is in
    let same = its_router n r c.of_router-numbers.result.now c.of_router-numbers.ensures.exact c.loop-i.i-index x c.loop-i-test.true c.interface-own.ensures.is in
    let link_up = sym c.is_link_up.ensures ∙ c.if-is_link_up.true in
    let is = c.exchanges.ensures.0 c.if-exchanges.true in
    let free = (exchange n laws b x.link).1 is in
    let given = c.is_given_over.ensures c.if-is_given_over.true in
    let on = on_known n laws b given.0 x.link is given.3 in
    let has = cost_left n laws f p r x.link x.cost (i, mine) free c.requires.up link_up in
    inr (
      x.link,
      given.0,
      x.cost,
      given.1,
      has,
      record {
        neighbour = record { other = λ e. given.2 (e ∙ sym same); here = (x.cost, has); there = (on.0, cost_left n laws f p given.0 x.link on.0 on.1 free given.4 link_up) };
        goes_on = c.requires.takes;
        tells = λ at. given.5 ((attached n laws b given.0 p x.link).1 ((attached_own n laws f p given.0 x.link at).0, is));
      },
      given.6,
      given.7,
    )
