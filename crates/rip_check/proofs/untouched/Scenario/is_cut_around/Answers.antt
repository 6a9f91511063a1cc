use Rattle.std.proofs.Common.{ℕ, ◌<◌, ◌⊎◌, length, arith}
use Rattle.rip_plan.specs.Relations.{HasCost, IsOn}
use Rattle.rip_check.specs.declared.untouched.Scenario.{Scenario}
use Rattle.rip_check.specs.Networks.{block_at}
use Rattle.rip_check.specs.Scenarios.{network_before}
use Rattle.rip_check.specs.Untouched.{IsStep, IsStepUp, KeepsWay}
use Rattle.rip_check.proofs.NetLemmas.{its_on}
use Rattle.rip_check.proofs.OwnedLemmas.{each_more, every, its_number}
use Rattle.rip_check.proofs.untouched.Scenario.is_cut_around.Goals as goal

pub interface-requires : goal.interface-requires
interface-requires c = its_number c.args.self.now.plan.now c.args.router c.of_router-numbers.result.now c.of_router-numbers.ensures.exact c.loop-i.i-index c.loop-i-test.true

pub is_cut_on-requires-clause-link : goal.is_cut_on-requires-clause-link
is_cut_on-requires-clause-link c =
    let x = c.interface.result in
    c.lawful.ensures.link_known _ x.router x.link x.cost c.interface.ensures.is

-- no way of a least path over a link is cut off
abbrev IsWhole : Scenario → ℕ → Type 0
IsWhole a l =
    (r d s : ℕ) → r < length a.plan.now.routers → HasCost (network_before a) r l d → IsOn (network_before a) s l → IsStep (network_before a) a.prefix r d s →
    IsStepUp a.failure l s ⊎ KeepsWay a.plan.now a.failure a.prefix r

pub loop-i-preserved : goal.loop-i-preserved
loop-i-preserved c =
    let a = c.args.self.now in
    each_more a.plan.now c.args.router c.of_router-numbers.result.now c.of_router-numbers.ensures.exact (λ i l. IsWhole a l) c.loop-i.i-index c.interface.result c.interface.ensures.is
    c.loop-i.invariant (c.is_cut_on.ensures c.if-is_cut_on.false)

pub returns : goal.returns
returns c =
    let a = c.args.self.now in
    let n = a.plan.now in
    λ e l r d s lt on has.
    let was = (its_on n c.lawful.ensures (block_at n.prefixes a.prefix) c.args.router l c.requires.router on).0 in
    every n c.args.router c.of_router-numbers.result.now c.of_router-numbers.ensures.exact (λ i l. IsWhole a l) c.loop-i.i-index
    (omega (arith, c.loop-i-test.false, c.loop-i.auto.i-index-end)) c.loop-i.invariant was.1.0 l was.0 was.1.1 r d s lt has
