use Rattle.std.proofs.Common.{ℕ, get_or, refl}
use Rattle.std.proofs.lemmas.Bool.Decides.{not_from_Decides}
use Rattle.rip_plan.specs.Relations.{Exchanges}
use Rattle.rip_check.specs.Cases.{block_of, network_of, told_in}
use Rattle.rip_check.specs.OwnTells.{HasHop}
use Rattle.rip_check.specs.Tables.{Offers}
use Rattle.rip_check.proofs.NetLemmas.{cost_here, its}
use Rattle.rip_check.proofs.OwnedLemmas.{each_more, every, its_number, its_router}
use Rattle.rip_check.proofs.own_audit.is_offered_by.Goals as goal
use Rattle.rip_check.proofs.own_audit.is_offered_by.Goals.{else-exchanges-via-then-exchanges+else-is_offered_across, else-exchanges-via-else-exchanges}

pub interface-own-requires : goal.interface-own-requires
interface-own-requires g c = its_number c.args.case.now.plan.now c.args.router c.of_router-numbers.result.now c.of_router-numbers.ensures.exact c.loop-i.i-index c.loop-i-test.true

pub exchanges-requires : goal.exchanges-requires
exchanges-requires g c = c.lawful.ensures.plan.link_known _ _ _ _ c.interface-own.ensures.is

pub is_offered_across-requires-clause-router : goal.is_offered_across-requires-clause-router
is_offered_across-requires-clause-router g c = c.lawful.ensures.plan.router_known _ _ _ _ c.interface-own.ensures.is

pub is_offered_across-requires-clause-own : goal.is_offered_across-requires-clause-own
is_offered_across-requires-clause-own g c =
    let case = c.args.case.now in
    let own = c.interface-own.result in
    cost_here case.plan.now c.lawful.ensures.plan (block_of case) own.router own.link own.cost (get_or c.of_router-numbers.result.now c.loop-i.i-index 0, c.interface-own.ensures.is) (c.exchanges.ensures.0 c.if-exchanges.true)

pub returns-then-is_offered_across : goal.returns-then-is_offered_across
returns-then-is_offered_across g c =
    let own = c.interface-own.result in
    let same = its_router c.args.case.now.plan.now c.args.router c.of_router-numbers.result.now c.of_router-numbers.ensures.exact c.loop-i.i-index own c.loop-i-test.true c.interface-own.ensures.is in
    let h = rw same at (c.is_offered_across.ensures.0 c.if-is_offered_across.true) in
    (λ t. (own.link, h.0, h.1, h.2), λ h. refl)

pub loop-i-preserved : goal.loop-i-preserved
loop-i-preserved g c =
    let case = c.args.case.now in
    let n = network_of case in
    let told = told_in case in
    let r = c.args.router in
    let p = case.prefix in
    let own = c.interface-own.result in
    let numbers = c.of_router-numbers.result.now in
    let exact = c.of_router-numbers.ensures.exact in
    let same = its_router case.plan.now r numbers exact c.loop-i.i-index own c.loop-i-test.true c.interface-own.ensures.is in
    each_more case.plan.now r numbers exact (λ i l. Exchanges case.plan.now l (block_of case) → (s : ℕ) → HasHop n r l s p c.args.address → Offers n told r l s p c.args.metric → ⊥)
    c.loop-i.i-index own c.interface-own.ensures.is c.loop-i.invariant
    (λ there s hop o. elim c.else-exchanges.branch [
      | else-exchanges-via-then-exchanges+else-is_offered_across w ↦ not_from_Decides _ w.is_offered_across.ensures w.if-is_offered_across.false (rw same (s, hop, o))
      | else-exchanges-via-else-exchanges w ↦ not_from_Decides _ c.exchanges.ensures w.if-exchanges.false there
    ])

pub returns : goal.returns
returns g c = (
  λ t. cc t,
  λ h.
      let case = c.args.case.now in
      let n = network_of case in
      let told = told_in case in
      let r = c.args.router in
      let p = case.prefix in
      let here = h.2.neighbour.here in
      let was = its case.plan.now c.lawful.ensures.plan (block_of case) here.1.0 r h.0 here.0 c.requires here.1.1 in
      absurd (every case.plan.now r c.of_router-numbers.result.now c.of_router-numbers.ensures.exact
      (λ i l. Exchanges case.plan.now l (block_of case) → (s : ℕ) → HasHop n r l s p c.args.address → Offers n told r l s p c.args.metric → ⊥)
      c.loop-i.i-index c.loop-i-test.false c.loop-i.invariant here.1.0 h.0 here.0 was.0 was.1 h.1 h.2 h.3),
)
