use Rattle.std.proofs.Common.{◌≡◌, inl, inr, Some, arith}
use Rattle.rip_check.specs.Scenarios.{network_before}
use Rattle.rip_check.proofs.LeftLemmas.{direct_left, kept_left}
use Rattle.rip_check.proofs.OverLemmas.{one_least}
use Rattle.rip_check.proofs.untouched.Scenario.keeps_way.Goals as goal
use Rattle.rip_check.proofs.untouched.Scenario.keeps_way.Goals.{then-metric-eq16-via-then-metric-eq16, then-metric-eq16-via-else-metric-eq16+then-direct_left-metric}

pub returns-then-metric-eq16 : goal.returns-then-metric-eq16
returns-then-metric-eq16 c = λ t v least small.
    let a = c.args.self.now in
    let n = a.plan.now in
    let r = c.args.router in
    let same : v ≡ c.metric-metric.result = one_least (network_before a) a.prefix r v c.metric-metric.result least c.metric-metric.ensures in
    elim c.then-metric-eq16.branch [
      | then-metric-eq16-via-then-metric-eq16 w ↦ absurd (omega (arith, same, w.if-metric-eq16.true, small))
      | then-metric-eq16-via-else-metric-eq16+then-direct_left-metric w ↦
          elim w.direct_left.ensures.chosen [
            | inl big ↦ absurd (omega (arith, same, w.if-direct_left-metric.true, big, small))
            | inr direct ↦
                let is : v ≡ w.direct_left.result = omega (arith, same, w.if-direct_left-metric.true) in
                inl (direct_left n c.lawful.ensures (Some a.failure) a.prefix r v (rw is direct))
          ]
    ]

pub is_given-requires-clause-takes : goal.is_given-requires-clause-takes
is_given-requires-clause-takes c =
    let a = c.args.self.now in
    λ kept. (c.takes.ensures.0 c.if-takes.true).1 ((kept_left a.plan.now c.lawful.ensures (Some a.failure) a.prefix c.args.router).0 kept)

pub returns-then-takes : goal.returns-then-takes
returns-then-takes c = λ t v least small.
    let a = c.args.self.now in
    let same : v ≡ c.metric-metric.result = one_least (network_before a) a.prefix c.args.router v c.metric-metric.result least c.metric-metric.ensures in
    rw same (c.is_given.ensures t)
