use Rattle.std.proofs.Common.{◌≡◌, inl, inr, arith}
use Rattle.std.proofs.lemmas.Bool.{cases_lt}
use Rattle.rip_plan.proofs.PrefixNetworkLemmas.{plan_network}
use Rattle.rip_check.proofs.LeftLemmas.{direct_known, was_direct}
use Rattle.rip_check.proofs.PlanLemmas.{direct_most}
use Rattle.rip_check.proofs.aftermath.is_anywhere.Goals as goal

pub loop-router-preserved : goal.loop-router-preserved
loop-router-preserved c = λ r d lt direct.
    elim (cases_lt r c.loop-router.router) [
      | inl sooner ↦ c.loop-router.invariant r d sooner direct
      | inr late ↦
          let here : r ≡ c.loop-router.router = omega arith in
          let le = c.direct_left.ensures.least d (rw here at direct) in
          omega (arith, le, c.if-direct_left-lt16.false, direct_most c.args.plan.now (plan_network c.args.plan.now c.lawful.ensures) r c.args.prefix d (was_direct c.args.plan.now c.args.failure r c.args.prefix d direct).0)
    ]

pub returns : goal.returns
returns c = (
  λ t. cc t,
  λ h. absurd (c.loop-router.invariant h.0 h.1
      (omega (
        arith,
        direct_known c.args.plan.now c.lawful.ensures h.0 c.args.prefix h.1 (was_direct c.args.plan.now c.args.failure h.0 c.args.prefix h.1 h.2).0,
        c.loop-router-test.false,
        c.loop-router.auto.router-end,
        c.routers-router-end.ensures,
      )) h.2),
)
