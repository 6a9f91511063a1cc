use Rattle.std.proofs.Common.{ℕ, arith}
use Rattle.rip_check.specs.Networks.{block_at}
use Rattle.rip_check.specs.Scenarios.{network_before}
use Rattle.rip_check.specs.Untouched.{IsStep}
use Rattle.rip_check.proofs.AcrossLemmas.{across_number}
use Rattle.rip_check.proofs.NetLemmas.{its_cost, on_known}
use Rattle.rip_check.proofs.StayingLemmas.{all_across, one_across}
use Rattle.rip_check.proofs.untouched.Scenario.leads_over.Goals as goal

pub on_link-numbers-requires : goal.on_link-numbers-requires
on_link-numbers-requires c =
    let a = c.args.self.now in
    let n = a.plan.now in
    let own = c.args.own.now in
    let was = its_cost n c.lawful.ensures (block_at n.prefixes a.prefix) own.router own.link own.cost c.requires.router c.requires.own in
    c.lawful.ensures.link_known _ _ _ _ was.0.1

pub interface-across-requires : goal.interface-across-requires
interface-across-requires c = across_number c.args.self.now.plan.now c.args.own.now.link c.on_link-numbers.result.now c.on_link-numbers.ensures.exact c.loop-j.j-index c.loop-j-test.true

pub is_step-requires-clause-next : goal.is_step-requires-clause-next
is_step-requires-clause-next c =
    let x = c.interface-across.result in
    c.lawful.ensures.router_known _ x.router x.link x.cost c.interface-across.ensures.is

pub loop-j-preserved : goal.loop-j-preserved
loop-j-preserved c =
    let a = c.args.self.now in
    let own = c.args.own.now in
    let Q : ℕ → ℕ → Type 0 = λ s d. IsStep (network_before a) a.prefix own.router own.cost s → ⊥ in
    one_across a.plan.now own.link c.on_link-numbers.result.now c.on_link-numbers.ensures.exact Q c.loop-j.j-index c.interface-across.result c.interface-across.ensures.is
    (c.is_step.ensures c.if-is_step.false) c.loop-j.invariant

pub returns : goal.returns
returns c =
    let a = c.args.self.now in
    let n = a.plan.now in
    let laws = c.lawful.ensures in
    let b = block_at n.prefixes a.prefix in
    let own = c.args.own.now in
    let Q : ℕ → ℕ → Type 0 = λ s d. IsStep (network_before a) a.prefix own.router own.cost s → ⊥ in
    let is = (its_cost n laws b own.router own.link own.cost c.requires.router c.requires.own).1 in
    λ e s on.
    let was = on_known n laws b s own.link is on in
    all_across n own.link c.on_link-numbers.result.now c.on_link-numbers.ensures.exact Q c.loop-j.j-index
    (omega (arith, c.loop-j-test.false, c.loop-j.auto.j-index-end)) c.loop-j.invariant s was.0 was.1
