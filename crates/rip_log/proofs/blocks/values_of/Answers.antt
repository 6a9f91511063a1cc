use Rattle.std.proofs.Common.{◌<◌, ◌≢◌, length, arith, get_or-set_other, get_or-set_same, length-set, below_more}
use Rattle.rip_log.proofs.blocks.values_of.Goals as goal

pub values-preserved : goal.values-preserved
values-preserved c =
    let lt : c.values.i < length c.values.values = omega (arith, c.values.invariant.len) in
    record {
      len = rw length-set c.values.invariant.len;
      each = below_more _ _
          (λ k h. let ne : k ≢ c.values.i = omega arith in rw get_or-set_other (c.values.invariant.each k h))
          (rw get_or-set_same c.value.ensures.digit);
    }
