use Rattle.std.proofs.Common.{◌+◌, ◌<◌, ◌≢◌, length, arith, get_or-set_other, get_or-set_same, length-set, below_more, refl}
use Rattle.rip_log.proofs.blocks.store.Goals as goal

pub bytes-preserved : goal.bytes-preserved
bytes-preserved c =
    let lt : c.args.to + c.bytes.i < length c.bytes.room = omega (arith, c.bytes.invariant.len) in
    record {
      len = rw length-set c.bytes.invariant.len;
      written = below_more _ _
          (λ k h. let ne : c.args.to + k ≢ c.args.to + c.bytes.i = omega arith in rw get_or-set_other (c.bytes.invariant.written k h))
          (rw get_or-set_same refl);
      before = λ k h. let ne : k ≢ c.args.to + c.bytes.i = omega arith in rw get_or-set_other (c.bytes.invariant.before k h);
    }
