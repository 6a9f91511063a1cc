use Rattle.std.proofs.Common.{◌≡◌, ◌<◌, Some, true, false, length, refl, ◌∙◌, sym, arith}
use Rattle.std.proofs.lemmas.Bool.{both_ways}
use Rattle.rip_check.specs.Failures.{is_router_up}
use Rattle.rip_check.specs.Paths.{IsLeast}
use Rattle.rip_check.specs.Scenarios.{network_before}
use Rattle.rip_check.proofs.ToldLemmas.{one_written}
use Rattle.rip_check.proofs.untouched.Scenario.fill_before.Goals as goal
use Rattle.rip_check.proofs.untouched.Scenario.fill_before.Goals.{then-is_router_up, else-is_router_up}

pub loop-router-preserved : goal.loop-router-preserved
loop-router-preserved c =
    let a = c.args.self.now in
    let f = Some a.failure in
    let xs = c.loop-router.row in
    let i = c.loop-router.router in
    let was = c.loop-router.invariant in
    let at : i < length xs = omega (arith, c.loop-router-test.true, c.loop-router.auto.row) in
    elim c.if-is_router_up.branch [
      | then-is_router_up w ↦ rw w.row-is (record {
        up = one_written xs i w.metric.result (λ r m. is_router_up f r ≡ true → IsLeast (network_before a) a.prefix r m) at was.up (λ up. w.metric.ensures);
        failed = one_written xs i w.metric.result (λ r m. is_router_up f r ≡ false → m ≡ 16) at was.failed
            (λ down. absurd (both_ways _ down (sym c.is_router_up.ensures ∙ w.if-is_router_up.true)));
      })
      | else-is_router_up w ↦ rw w.row-is (record {
        up = one_written xs i 16 (λ r m. is_router_up f r ≡ true → IsLeast (network_before a) a.prefix r m) at was.up
            (λ up. absurd (both_ways _ (sym c.is_router_up.ensures ∙ w.if-is_router_up.false) up));
        failed = one_written xs i 16 (λ r m. is_router_up f r ≡ false → m ≡ 16) at was.failed (λ down. refl);
      })
    ]
