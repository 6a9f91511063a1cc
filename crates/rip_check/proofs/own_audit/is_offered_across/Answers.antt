use Rattle.std.proofs.Common.{◌≡◌, get_or, inl, inr, refl, arith}
use Rattle.std.proofs.lemmas.Bool.{cases_lt}
use Rattle.std.proofs.lemmas.Bool.Decides.{not_from_Decides}
use Rattle.rip_check.specs.Cases.{block_of, told_in}
use Rattle.rip_check.specs.ToldCells.{HasGatewayAcross}
use Rattle.rip_check.proofs.HopLemmas.{across_listed, across_offers, found_within, gateway_listed, holder_is_across, offers_across, place_within}
use Rattle.rip_check.proofs.NetLemmas.{its_cost}
use Rattle.rip_check.proofs.own_audit.is_offered_across.Goals as goal

pub is_offered_from-requires : goal.is_offered_from-requires
is_offered_from-requires g c = found_within c.args.case.now.plan.now c.holder_across-holder.result c.holder_across-holder.ensures (λ j h. (h.router, c.args.own.link, h.cost, h.its))

pub owner_across-owner-requires : goal.owner_across-owner-requires
owner_across-owner-requires g c =
    place_within c.args.case.now.plan.now c.args.own.router c.args.own.link c.args.case.now.prefix c.args.address c.gateway_places-places.result.now c.gateway_places-places.ensures.exact c.loop-k.k-index
    c.loop-k-test.true

pub is_offered_from-requires-in-loop-k : goal.is_offered_from-requires-in-loop-k
is_offered_from-requires-in-loop-k g c = found_within c.args.case.now.plan.now c.owner_across-owner.result c.owner_across-owner.ensures (λ j h. (h.router, c.args.own.link, h.cost, h.its))

pub returns-then-is_offered_from : goal.returns-then-is_offered_from
returns-then-is_offered_from g c =
    let case = c.args.case.now in
    let n = case.plan.now in
    let b = block_of case in
    let own = c.args.own in
    let there = (its_cost n c.lawful.ensures.plan b own.router own.link own.cost c.requires.router c.requires.own).1 in
    let (j, is, value) = c.is_offered_from.ensures.0 c.if-is_offered_from.true in
    let across = holder_is_across n own.router own.link case.prefix c.args.address j ((c.holder_across-holder.ensures j).0 is) in (
      λ t. across_offers n c.lawful.ensures.plan b (told_in case) own.router own.link case.prefix c.args.address c.args.metric own.cost c.lawful.ensures.network there c.requires.own j across value,
      λ h. refl,
    )

pub returns-then-is_offered_from-2 : goal.returns-then-is_offered_from-2
returns-then-is_offered_from-2 g c =
    let case = c.args.case.now in
    let n = case.plan.now in
    let b = block_of case in
    let own = c.args.own in
    let there = (its_cost n c.lawful.ensures.plan b own.router own.link own.cost c.requires.router c.requires.own).1 in
    let (j, is, value) = c.is_offered_from-in-loop-k.ensures.0 c.if-is_offered_from-2.true in
    let across = gateway_listed n own.router own.link case.prefix c.args.address c.gateway_places-places.result.now c.gateway_places-places.ensures.exact c.loop-k.k-index j c.loop-k-test.true
    ((c.owner_across-owner.ensures j).0 is) in (
      λ t. across_offers n c.lawful.ensures.plan b (told_in case) own.router own.link case.prefix c.args.address c.args.metric own.cost c.lawful.ensures.network there c.requires.own j across value,
      λ h. refl,
    )

pub loop-k-preserved : goal.loop-k-preserved
loop-k-preserved g c = λ m j lt gateway value.
    let n = c.args.case.now.plan.now in
    let own = c.args.own in
    let numbers = c.gateway_places-places.result.now in
    elim (cases_lt m c.loop-k.k-index) [
      | inl less ↦ c.loop-k.invariant m j less gateway value
      | inr big ↦
          let e : m ≡ c.loop-k.k-index = omega (arith, lt, big) in
          let here : HasGatewayAcross n own.router own.link c.args.address (get_or numbers c.loop-k.k-index 0) j = rw e at gateway in
          not_from_Decides _ c.is_offered_from-in-loop-k.ensures c.if-is_offered_from-2.false (j, (c.owner_across-owner.ensures j).1 here, value)
    ]

pub returns : goal.returns
returns g c = (
  λ t. cc t,
  λ h.
      let case = c.args.case.now in
      let n = case.plan.now in
      let b = block_of case in
      let own = c.args.own in
      let there = (its_cost n c.lawful.ensures.plan b own.router own.link own.cost c.requires.router c.requires.own).1 in
      let (j, across, value) = offers_across n c.lawful.ensures.plan b (told_in case) own.router own.link case.prefix c.args.address c.args.metric own.cost c.lawful.ensures.network there c.requires.own
      h.0 h.1 h.2 in
      elim (across_listed n own.router own.link case.prefix c.args.address c.gateway_places-places.result.now c.gateway_places-places.ensures.exact c.loop-k.k-index j c.loop-k-test.false across) [
        | inl holder ↦ absurd (not_from_Decides _ c.is_offered_from.ensures c.if-is_offered_from.false (j, (c.holder_across-holder.ensures j).1 holder, value))
        | inr listed ↦ absurd (c.loop-k.invariant listed.0 j (omega (arith, listed.1, c.loop-k.auto.k-index-end)) listed.2 value)
      ],
)
