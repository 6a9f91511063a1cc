use Rattle.std.proofs.Common.{◌≡◌, length, arith}
use Rattle.rip_report.proofs.OutLemmas.{one_more}
use Rattle.rip_report.proofs.loops.add_pairs.Goals as goal

pub loop-router-preserved : goal.loop-router-preserved
loop-router-preserved g c = record { adds = one_more _ c.loop-router.router c.loop-router.invariant.adds c.add_row.ensures }

pub returns : goal.returns
returns g c =
    let all : c.loop-router.router ≡ length c.args.plan.now.routers = omega (arith, c.loop-router-test.false, c.loop-router.auto.router-end, c.routers-router-end.ensures) in
    rw all at c.loop-router.invariant.adds
