use Rattle.std.proofs.Common.{ℕ, ◌⊎◌, get_or, arith}
use Rattle.std.proofs.lemmas.Bool.Decides.{not_from_Decides}
use Rattle.rip_plan.specs.Relations.{Exchanges, IsOn}
use Rattle.rip_check.specs.declared.untouched.Scenario.{Scenario}
use Rattle.rip_check.specs.Networks.{block_at}
use Rattle.rip_check.specs.Scenarios.{network_before}
use Rattle.rip_check.specs.Untouched.{IsStep, IsStepUp, KeepsWay}
use Rattle.rip_check.proofs.AcrossLemmas.{across_number, across_own}
use Rattle.rip_check.proofs.NetLemmas.{cost_here, its_cost}
use Rattle.rip_check.proofs.OwnedLemmas.{its_link}
use Rattle.rip_check.proofs.StayingLemmas.{all_across, one_across}
use Rattle.rip_check.proofs.untouched.Scenario.is_cut_on.Goals as goal

-- no way of a least path over the link from a router is cut off
abbrev IsWhole : Scenario → ℕ → ℕ → ℕ → Type 0
IsWhole a l r d =
    (s : ℕ) → IsOn (network_before a) s l → IsStep (network_before a) a.prefix r d s → IsStepUp a.failure l s ⊎ KeepsWay a.plan.now a.failure a.prefix r

pub interface-own-requires : goal.interface-own-requires
interface-own-requires c = across_number c.args.self.now.plan.now c.args.link c.on_link-numbers.result.now c.on_link-numbers.ensures.exact c.loop-j.j-index c.loop-j-test.true

pub is_cut-requires-clause-router : goal.is_cut-requires-clause-router
is_cut-requires-clause-router c =
    let x = c.interface-own.result in
    c.lawful.ensures.router_known _ x.router x.link x.cost c.interface-own.ensures.is

pub is_cut-requires-clause-own : goal.is_cut-requires-clause-own
is_cut-requires-clause-own c =
    let a = c.args.self.now in
    let n = a.plan.now in
    let x = c.interface-own.result in
    let i = get_or c.on_link-numbers.result.now c.loop-j.j-index 0 in
    let there = across_own n c.args.link c.on_link-numbers.result.now c.on_link-numbers.ensures.exact c.loop-j.j-index x c.loop-j-test.true c.interface-own.ensures.is in
    let link = (its_link n i x.router x.link x.cost x.router c.args.link x.cost c.interface-own.ensures.is there).1 in
    let is : Exchanges n c.args.link (block_at n.prefixes a.prefix) = c.exchanges.ensures.0 c.if-not-exchanges.false in
    cost_here n c.lawful.ensures (block_at n.prefixes a.prefix) x.router x.link x.cost (i, c.interface-own.ensures.is) (rw link is)

pub loop-j-preserved : goal.loop-j-preserved
loop-j-preserved c =
    let a = c.args.self.now in
    let n = a.plan.now in
    let x = c.interface-own.result in
    let there = across_own n c.args.link c.on_link-numbers.result.now c.on_link-numbers.ensures.exact c.loop-j.j-index x c.loop-j-test.true c.interface-own.ensures.is in
    one_across n c.args.link c.on_link-numbers.result.now c.on_link-numbers.ensures.exact (IsWhole a c.args.link) c.loop-j.j-index x c.interface-own.ensures.is
    (rw (its_link n _ x.router x.link x.cost x.router c.args.link x.cost c.interface-own.ensures.is there).1 at (c.is_cut.ensures c.if-is_cut.false)) c.loop-j.invariant

pub returns : goal.returns
returns c =
    let a = c.args.self.now in
    let n = a.plan.now in
    λ e r d s lt has. all_across n c.args.link c.on_link-numbers.result.now c.on_link-numbers.ensures.exact (IsWhole a c.args.link) c.loop-j.j-index
    (omega (arith, c.loop-j-test.false, c.loop-j.auto.j-index-end)) c.loop-j.invariant r d (its_cost n c.lawful.ensures (block_at n.prefixes a.prefix) r c.args.link d lt has).0 s

pub returns-then-not-exchanges : goal.returns-then-not-exchanges
returns-then-not-exchanges c =
    let a = c.args.self.now in
    let n = a.plan.now in
    λ e r d s lt has. absurd (not_from_Decides _ c.exchanges.ensures c.if-not-exchanges.true (its_cost n c.lawful.ensures (block_at n.prefixes a.prefix) r c.args.link d lt has).1)
