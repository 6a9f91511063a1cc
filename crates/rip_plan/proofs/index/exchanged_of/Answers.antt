use Rattle.std.proofs.Common.{◌∙◌}
use Rattle.rip_plan.specs.Network.{is_item}
use Rattle.rip_plan.proofs.ClashLemmas.{seen_more}
use Rattle.rip_plan.proofs.index.exchanged_of.Goals as goal

pub loop-k-preserved : goal.loop-k-preserved
loop-k-preserved c link p =
    c.in_ok-insert.ensures.updates.0 (link, p)
    ∙ rw (c.loop-k.invariant link p) (seen_more (is_item link p) c.args.listed.now c.loop-k.k c.index-listed-k.result c.loop-k-test.true c.index-listed-k.is)
