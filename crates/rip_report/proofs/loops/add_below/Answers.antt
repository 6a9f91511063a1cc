use Rattle.std.proofs.Common.{◌≡◌, arith}
use Rattle.rip_report.proofs.OutLemmas.{one_more}
use Rattle.rip_report.proofs.loops.add_below.Goals as goal

pub add-requires : goal.add-requires
add-requires g c = c.requires c.loop-number.number (omega (arith, c.loop-number-test.true))

pub loop-number-preserved : goal.loop-number-preserved
loop-number-preserved g c = record { adds = one_more _ c.loop-number.number c.loop-number.invariant.adds c.add.ensures }

pub returns : goal.returns
returns g c k is =
    let all : c.loop-number.number ≡ k = omega (arith, is, c.loop-number-test.false, c.loop-number.auto.number-end) in
    rw all at c.loop-number.invariant.adds
