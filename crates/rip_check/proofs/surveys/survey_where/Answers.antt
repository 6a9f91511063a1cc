use Rattle.std.proofs.Common.{◌≡◌, ◌+◌, inl, inr, get_or, length, sym, arith}
use Rattle.std.proofs.lemmas.Bool.{both_ways, cases_lt}
use Rattle.std.proofs.lemmas.List.{length-map}
use Rattle.rip_plan.specs.PrefixNetworks.{exchanges, interface_where}
use Rattle.rip_check.specs.Cases.{block_of, network_of, told_in}
use Rattle.rip_check.specs.Metrics.{metric_at}
use Rattle.rip_check.specs.Surveys.{IsSurvey}
use Rattle.rip_check.proofs.NetLemmas.{here, its}
use Rattle.rip_check.proofs.OwnedLemmas.{ascends, ascends_below, its_link, its_number, its_own, place_before}
use Rattle.rip_check.proofs.SurveyLemmas.{nothing_yet, stretch}
use Rattle.rip_check.proofs.surveys.survey_where.Goals as goal
use Rattle.rip_check.proofs.surveys.survey_where.Goals.{then-exchanges_where, else-exchanges_where}

pub loop-i-init : goal.loop-i-init
loop-i-init g c = λ b above next.
    let case = c.args.case.now in
    let n = case.plan.now in
    let numbers = c.of_router-numbers.result.now in
    stretch (network_of case) (told_in case) c.args.router case.prefix 0 b _ (omega arith)
    (λ j l d at less.
    let was = its n c.lawful.ensures.plan (block_of case) j c.args.router l d c.requires.router at in
    let h = place_before n c.args.router numbers c.of_router-numbers.ensures.exact c.of_router-numbers.ensures.ascending 0 b next j l d was.0 less in
    absurd (omega (arith, h.1)))
    (nothing_yet (network_of case) (told_in case) c.args.router case.prefix)

pub interface-own-requires : goal.interface-own-requires
interface-own-requires g c = its_number c.args.case.now.plan.now c.args.router c.of_router-numbers.result.now c.of_router-numbers.ensures.exact c.loop-i.i-index c.loop-i-test.true

pub exchanges_where-requires-clause-link : goal.exchanges_where-requires-clause-link
exchanges_where-requires-clause-link g c = c.lawful.ensures.plan.link_known _ _ _ _ c.interface-own.ensures.is

pub told_at-told-requires : goal.told_at-told-requires
told_at-told-requires g c =
    its_number c.args.case.now.plan.now c.args.router c.of_router-numbers.result.now c.of_router-numbers.ensures.exact c.loop-i.i-index c.loop-i-test.true

pub loop-i-preserved : goal.loop-i-preserved
loop-i-preserved g c = λ b above next.
    let case = c.args.case.now in
    let n = case.plan.now in
    let net = network_of case in
    let r = c.args.router in
    let p = case.prefix in
    let shown = told_in case in
    let numbers = c.of_router-numbers.result.now in
    let exact = c.of_router-numbers.ensures.exact in
    let up = c.of_router-numbers.ensures.ascending in
    let k = c.loop-i.i-index in
    let i = get_or numbers k 0 in
    let own = c.interface-own.result in
    let at = its_own n r numbers exact k own c.loop-i-test.true c.interface-own.ensures.is in
    let was : IsSurvey net shown r p i c.loop-i.found = c.loop-i.invariant i (λ j sooner. ascends_below numbers up j k sooner c.loop-i-test.true) (λ lt. omega arith) in
    elim c.if-exchanges_where.branch [
      | then-exchanges_where w ↦
          let there = here n c.lawful.ensures.plan (block_of case) i r own.link own.cost at (c.exchanges_where.ensures.0 w.if-exchanges_where.true) in
          let seen : metric_at shown i p ≡ w.told_at-told.result = sym {b = metric_at shown i p} w.told_at-told.ensures.metric in
          let is : IsSurvey net shown r p (i + 1) w.add_shown.new.found = w.add_shown.ensures r i own.cost was there seen c.attached_link-attached.ensures in
          rw w.found-is (stretch net shown r p (i + 1) b w.add_shown.new.found (omega (arith, above k (omega arith)))
          (λ j l d on less.
          let on_plan = its n c.lawful.ensures.plan (block_of case) j r l d c.requires.router on in
          let h = place_before n r numbers exact up (k + 1) b next j l d on_plan.0 less in
          omega (arith, h.2, ascends numbers up h.0 k (omega (arith, h.1)) c.loop-i-test.true))
          is)
      | else-exchanges_where w ↦
          rw w.found-is (stretch net shown r p i b c.loop-i.found (omega (arith, above k (omega arith)))
          (λ j l d on less.
          let on_plan = its n c.lawful.ensures.plan (block_of case) j r l d c.requires.router on in
          let h = place_before n r numbers exact up (k + 1) b next j l d on_plan.0 less in
          elim (cases_lt j i) [
            | inl sooner ↦ omega (arith, sooner)
            | inr late ↦
                let same : j ≡ i = omega (arith, h.2, ascends numbers up h.0 k (omega (arith, h.1)) c.loop-i-test.true, late) in
                let link : l ≡ own.link = (its_link n i r l d r own.link own.cost (rw same at on_plan.0) at).1 in
                absurd (both_ways _ w.if-exchanges_where.false (c.exchanges_where.ensures.1 (rw link at on_plan.1)))
          ])
          was)
    ]

pub returns : goal.returns
returns g c =
    c.loop-i.invariant _
    (λ j lt. let same : length (network_of c.args.case.now).interfaces ≡ length c.args.case.now.plan.now.interfaces = length-map c.args.case.now.plan.now.interfaces (interface_where (exchanges c.args.case.now.plan.now (block_of c.args.case.now)) c.args.case.now.plan.now) in
    omega (arith, same, its_number c.args.case.now.plan.now c.args.router c.of_router-numbers.result.now c.of_router-numbers.ensures.exact j (omega (arith, lt, c.loop-i.auto.i-index-end))))
    (λ lt. absurd (omega (arith, lt, c.loop-i-test.false)))
