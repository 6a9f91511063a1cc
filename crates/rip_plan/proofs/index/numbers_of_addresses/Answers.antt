use Rattle.std.proofs.Common.{arith}
use Rattle.rip_plan.proofs.ClashLemmas.{back_is}
use Rattle.rip_plan.proofs.index.numbers_of_addresses.Goals as goal

pub loop-k-preserved : goal.loop-k-preserved
loop-k-preserved c link address =
    let front = back_is c.args.held.now c.loop-k.k c.index-held-k.result (omega arith) (omega arith) c.index-held-k.is in
    grind (arith, front, c.in_ok-insert.ensures.updates.0 (link, address), c.loop-k.invariant link address)
