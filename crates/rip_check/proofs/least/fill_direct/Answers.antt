use Rattle.std.proofs.Common.{◌≡◌, ℕ, ◌<◌, ◌≤◌, ◌⊎◌, inl, inr, length, arith}
use Rattle.rip_plan.specs.Relations.{IsDirect}
use Rattle.rip_check.specs.Failures.{left_to}
use Rattle.rip_check.proofs.LeftLemmas.{direct_left, direct_own}
use Rattle.rip_check.proofs.ToldLemmas.{one_written}
use Rattle.rip_check.proofs.least.fill_direct.Goals as goal

pub loop-router-preserved : goal.loop-router-preserved
loop-router-preserved c =
    let plan = c.args.plan.now in
    let f = c.args.failure in
    let p = c.args.prefix in
    let n = left_to plan f p in
    let xs = c.loop-router.metrics in
    let i = c.loop-router.router in
    let v = c.direct_left.result in
    let was = c.loop-router.invariant in
    let at : i < length xs = omega (arith, c.loop-router-test.true, c.loop-router.auto.metrics) in
    record {
      most = one_written xs i v (λ r m. m ≤ 16) at was.most c.direct_left.ensures.most;
      chosen = one_written xs i v (λ r m. (m ≡ 16) ⊎ IsDirect n r p m) at was.chosen (elim c.direct_left.ensures.chosen [
        | inl e ↦ inl e
        | inr direct ↦ inr (direct_left plan c.lawful.ensures f p i v direct)
      ]);
      least = λ r d lt is. one_written xs i v (λ s m. (e : ℕ) → IsDirect n s p e → m ≤ e) at (λ s less e own. was.least s e less own)
          (λ e own. c.direct_left.ensures.least e (direct_own plan c.lawful.ensures f p i e (omega (arith, at, c.requires, c.loop-router.auto.metrics)) own)) r lt d is;
    }
