use Rattle.std.proofs.Common.{◌≡◌, ℕ, ◌<◌, ◌≤◌, ◌⊎◌, inl, inr, [], Some, true, false, get_or, length, slice_get, arith}
use Rattle.std.proofs.lemmas.Bool.{cases_lt}
use Rattle.std.proofs.Math.ListN.{replicate}
use Rattle.std.proofs.lemmas.List.{get_or-replicate, length-replicate}
use Rattle.std.proofs.lemmas.Option.{get_or_from_slice_get, slice_get_within}
use Rattle.rip_plan.specs.Relations.{IsDirect}
use Rattle.rip_check.specs.Failures.{left_to}
use Rattle.rip_check.proofs.LeftLemmas.{direct_own, left_routers, sound_left, was_direct}
use Rattle.rip_plan.proofs.PrefixNetworkLemmas.{plan_network}
use Rattle.rip_check.proofs.PlanLemmas.{direct_least}
use Rattle.rip_check.proofs.TellingLemmas.{IsReached, settled_all, settled_least, settled_more, telling_reached, told_more}
use Rattle.rip_check.proofs.least.find_least.Goals as goal

no_mark : (count l : ℕ) → slice_get (replicate count false) l ≡ Some true → ⊥
no_mark count l e =
    let marked : get_or (replicate count false) l true ≡ true = get_or_from_slice_get (replicate count false) l true true e in
    let lt : l < count = omega (arith, slice_get_within (replicate count false) l true e, length-replicate count false) in
    cc (marked, get_or-replicate count l false true lt)

pub loop-metric-init : goal.loop-metric-init
loop-metric-init c =
    let n = c.args.plan.now in
    let f = c.args.failure in
    let p = c.args.prefix in
    let left = left_to n f p in
    let xs = c.fill_direct.new.metrics in
    let within : (r : ℕ) → r < length left.routers → r < length xs = λ r lt. omega (arith, lt, left_routers n f, c.requires, c.fill_direct.auto.metrics) in
    let reached : (r v : ℕ) → v ≤ 16 → (v ≡ 16) ⊎ IsDirect left r p v → IsReached left p r v =
    λ r v most chosen. elim chosen [
      | inl e ↦ inl e
      | inr direct ↦ elim (cases_lt v 16) [
        | inl small ↦ inr (small, ([], direct))
        | inr big ↦ inl (omega (arith, big, most))
      ]
    ] in
    let low : (r v : ℕ) → r < length n.routers → (v ≡ 16) ⊎ IsDirect left r p v → v < 1 → ⊥ =
    λ r v lt chosen small. elim chosen [
      | inl e ↦ omega (arith, e, small)
      | inr direct ↦ omega (arith, direct_least n (plan_network n c.lawful.ensures) r p v (was_direct n f r p v (direct_own n c.lawful.ensures f p r v lt direct)).0, small)
    ] in
    record {
      reached = λ r lt. reached r (get_or xs r 0) (c.fill_direct.ensures.most r) (c.fill_direct.ensures.chosen r (within r lt));
      direct = c.fill_direct.ensures.least;
      told = λ l e. absurd (no_mark 512 l e);
      settled = λ r lt small. absurd (low r (get_or xs r 0) (omega (arith, lt, left_routers n f)) (c.fill_direct.ensures.chosen r (within r lt)) small);
    }

pub loop-metric-preserved : goal.loop-metric-preserved
loop-metric-preserved c =
    let n = c.args.plan.now in
    let f = c.args.failure in
    let p = c.args.prefix in
    let m = c.loop-metric.metric in
    let left = left_to n f p in
    let sound = sound_left n c.lawful.ensures f p in
    let xs = c.loop-metric.metrics in
    let ys = c.tell_metric.new.metrics in
    let was = c.loop-metric.invariant in
    let telling = c.tell_metric.ensures.telling in
    let told = c.tell_metric.ensures.told was.told in
    record {
      reached = telling_reached left p sound m xs ys (omega (arith, c.loop-metric-test.true, c.loop-metric.auto.metric-end)) telling was.reached;
      direct = λ r d direct. omega (arith, telling.at_most r, was.direct r d direct);
      told = told_more left p sound m ys c.tell_metric.new.marks told;
      settled = settled_more left p sound m xs ys c.tell_metric.new.marks was.settled telling told
          (λ r lt e. c.tell_metric.ensures.all r (omega (arith, lt, left_routers n f)) e);
    }

pub returns-after-loop-metric : goal.returns-after-loop-metric
returns-after-loop-metric c = λ r lt.
    let n = c.args.plan.now in
    let f = c.args.failure in
    let p = c.args.prefix in
    let is : c.loop-metric.metric ≡ 16 = omega (arith, c.loop-metric-test.false, c.loop-metric.auto.metric-end) in
    settled_least (left_to n f p) p (sound_left n c.lawful.ensures f p) c.loop-metric.metrics (rw is at c.loop-metric.invariant.settled)
    c.loop-metric.invariant.reached c.loop-metric.invariant.direct r (omega (arith, lt, left_routers n f))

pub returns-then-not-has_more : goal.returns-then-not-has_more
returns-then-not-has_more c = λ r lt.
    let n = c.args.plan.now in
    let f = c.args.failure in
    let p = c.args.prefix in
    let m = c.loop-metric.metric in
    let left = left_to n f p in
    let sound = sound_left n c.lawful.ensures f p in
    let xs = c.loop-metric.metrics in
    let ys = c.tell_metric.new.metrics in
    let was = c.loop-metric.invariant in
    let telling = c.tell_metric.ensures.telling in
    let settled = settled_more left p sound m xs ys c.tell_metric.new.marks was.settled telling (c.tell_metric.ensures.told was.told)
    (λ r lt e. c.tell_metric.ensures.all r (omega (arith, lt, left_routers n f)) e) in
    let all = settled_all left p sound m ys settled (λ r lt more. c.has_more.ensures c.if-not-has_more.true r
    (omega (arith, lt, left_routers n f, c.tell_metric.auto.metrics, c.loop-metric.auto.metrics, c.fill_direct.auto.metrics, c.requires)) more) in
    settled_least left p sound ys all (telling_reached left p sound m xs ys (omega (arith, c.loop-metric-test.true, c.loop-metric.auto.metric-end)) telling was.reached)
    (λ r d direct. omega (arith, telling.at_most r, was.direct r d direct)) r (omega (arith, lt, left_routers n f))
