use Rattle.std.proofs.Common.{◌≡◌, ℕ, ◌≤◌, length, arith}
use Rattle.rip_check.specs.Impacts.{AreLongerOf, AreLostBy}
use Rattle.rip_check.specs.Losses.{IsLonger, IsLost}
use Rattle.rip_check.proofs.CountLemmas.{adds}
use Rattle.rip_check.proofs.ImpactLemmas.{count_most, farther_router, harder, hardest, losing, no_harder}
use Rattle.rip_check.proofs.NumberLemmas.{few_prefixes}
use Rattle.rip_check.proofs.aftermath.Losses.impact.Goals as goal
use Rattle.rip_check.proofs.aftermath.Losses.impact.Goals.{then-part-impact, else-part-impact}

pub overflow_add-impact : goal.overflow_add-impact
overflow_add-impact c =
    let n = c.args.self.now.plan.now in
    let part : c.part_of-part.result.lost ≤ 1024 =
    omega (
      arith,
      count_most (IsLost n c.args.self.now.failure c.loop-router.router) (length n.prefixes) c.part_of-part.result.lost c.part_of-part.ensures.lost,
      few_prefixes n c.lawful.ensures,
      c.lawful.ensures.few_places,
    ) in
    let routers : c.loop-router.router ≤ 128 = omega (arith, c.loop-router-test.true, c.routers-router-end.ensures, c.lawful.ensures.few_routers) in
    omega (arith, part, routers, c.loop-router.invariant.few_lost)

pub overflow_add-impact-in-loop-router : goal.overflow_add-impact-in-loop-router
overflow_add-impact-in-loop-router c =
    let n = c.args.self.now.plan.now in
    let part : c.part_of-part.result.longer ≤ 1024 =
    omega (
      arith,
      count_most (λ p. (w : ℕ) × IsLonger n c.args.self.now.failure c.loop-router.router p w) (length n.prefixes) c.part_of-part.result.longer c.part_of-part.ensures.longer,
      few_prefixes n c.lawful.ensures,
      c.lawful.ensures.few_places,
    ) in
    let routers : c.loop-router.router ≤ 128 = omega (arith, c.loop-router-test.true, c.routers-router-end.ensures, c.lawful.ensures.few_routers) in
    omega (arith, part, routers, c.loop-router.invariant.few_longer)

pub loop-router-preserved : goal.loop-router-preserved
loop-router-preserved c =
    let n = c.args.self.now.plan.now in
    let f = c.args.self.now.failure in
    let k = c.loop-router.router in
    let impact = c.loop-router.impact in
    let part = c.part_of-part.result in
    let costs = c.part_of-part.ensures in
    let was = c.loop-router.invariant in
    let few_lost : part.lost ≤ 1024 = omega (arith, count_most (IsLost n f k) (length n.prefixes) part.lost costs.lost, few_prefixes n c.lawful.ensures, c.lawful.ensures.few_places) in
    let few_longer : part.longer ≤ 1024 =
    omega (arith, count_most (λ p. (w : ℕ) × IsLonger n f k p w) (length n.prefixes) part.longer costs.longer, few_prefixes n c.lawful.ensures, c.lawful.ensures.few_places) in
    let lost = adds (AreLostBy n f) k impact.lost part.lost costs.lost was.lost in
    let longer = adds (AreLongerOf n f) k impact.longer part.longer costs.longer was.longer in
    let farthest = farther_router n f k impact.farthest part.farthest c.max.result costs.farthest.reached costs.farthest.most c.max.ensures was.farthest in
    elim c.if-part-impact.branch [
      | then-part-impact w ↦ rw w.impact-is (record {
        lost = lost;
        few_lost = omega (arith, few_lost, was.few_lost);
        gone = was.gone;
        longer = longer;
        few_longer = omega (arith, few_longer, was.few_longer);
        farthest = farthest;
        hit = harder n f k impact.hardest_hit impact.most_lost part.lost costs.lost w.if-part-impact.true was.hit;
      })
      | else-part-impact w ↦ rw w.impact-is (record {
        lost = lost;
        few_lost = omega (arith, few_lost, was.few_lost);
        gone = was.gone;
        longer = longer;
        few_longer = omega (arith, few_longer, was.few_longer);
        farthest = farthest;
        hit = no_harder n f k impact.hardest_hit impact.most_lost part.lost costs.lost w.if-part-impact.false was.hit;
      })
    ]

pub returns-clause-impact : goal.returns-clause-impact
returns-clause-impact c =
    let n = c.args.self.now.plan.now in
    let all : c.loop-router.router ≡ length n.routers = omega (arith, c.loop-router-test.false, c.loop-router.auto.router-end, c.routers-router-end.ensures) in
    let was = c.loop-router.invariant in
    let farthest = rw all at was.farthest in
    record {
      lost = rw all at was.lost;
      gone = was.gone;
      longer = rw all at was.longer;
      farthest = record { reached = farthest.reached; most = farthest.most };
      hit = hardest n c.args.self.now.failure c.loop-router.impact.hardest_hit c.loop-router.impact.most_lost (omega (arith, c.lawful.ensures.some_router)) (rw all at was.hit);
    }

pub returns-clause-losing : goal.returns-clause-losing
returns-clause-losing c =
    let n = c.args.self.now.plan.now in
    let all : c.loop-router.router ≡ length n.routers = omega (arith, c.loop-router-test.false, c.loop-router.auto.router-end, c.routers-router-end.ensures) in
    losing n c.args.self.now.failure c.loop-router.impact.lost (rw all at c.loop-router.invariant.lost)
