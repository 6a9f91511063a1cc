use Rattle.std.proofs.Common.{◌∙◌, get_or, sym, arith}
use Rattle.rip_check.specs.Networks.{block_at}
use Rattle.rip_check.proofs.AcrossLemmas.{across_number, across_own}
use Rattle.rip_check.proofs.NetLemmas.{attached, here, its_cost}
use Rattle.rip_check.proofs.PlanLemmas.{attached_ne}
use Rattle.rip_check.proofs.untouched.Scenario.is_given_over.Goals as goal

pub on_link-numbers-requires : goal.on_link-numbers-requires
on_link-numbers-requires c =
    let a = c.args.self.now in
    let n = a.plan.now in
    let own = c.args.own.now in
    let was = its_cost n c.lawful.ensures (block_at n.prefixes a.prefix) own.router own.link own.cost c.requires.router c.requires.own in
    c.lawful.ensures.link_known _ _ _ _ was.0.1

pub interface-across-requires : goal.interface-across-requires
interface-across-requires c = across_number c.args.self.now.plan.now c.args.own.now.link c.on_link-numbers.result.now c.on_link-numbers.ensures.exact c.loop-j.j-index c.loop-j-test.true

pub metric-requires-clause-router : goal.metric-requires-clause-router
metric-requires-clause-router c =
    let x = c.interface-across.result in
    c.lawful.ensures.router_known _ x.router x.link x.cost c.interface-across.ensures.is

pub returns-then-ne : goal.returns-then-ne
returns-then-ne c = λ e.
    let a = c.args.self.now in
    let n = a.plan.now in
    let laws = c.lawful.ensures in
    let b = block_at n.prefixes a.prefix in
    let own = c.args.own.now in
    let x = c.interface-across.result in
    let i = get_or c.on_link-numbers.result.now c.loop-j.j-index 0 in
    let is = (its_cost n laws b own.router own.link own.cost c.requires.router c.requires.own).1 in
    let there = across_own n own.link c.on_link-numbers.result.now c.on_link-numbers.ensures.exact c.loop-j.j-index x c.loop-j-test.true c.interface-across.ensures.is in (
      x.router,
      c.metric.result,
      c.if-across-own.true,
      (x.cost, (i, here n laws b i x.router own.link x.cost there is)),
      sym c.is_router_up.ensures ∙ c.if-is_router_up.true,
      λ at. (attached_ne n x.router a.prefix own.link c.attached_link.result c.ne.result c.attached_link.ensures c.ne.ensures).0 c.if-ne.true ((attached n laws b x.router a.prefix own.link).0 at).0,
      c.metric.ensures,
      omega (arith, c.if-from-metric.true, c.from.ensures),
    )
