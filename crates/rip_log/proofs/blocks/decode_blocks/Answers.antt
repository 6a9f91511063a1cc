use Rattle.std.proofs.Common.{◌≡◌, ◌+◌, ◌-◌, ◌*◌, ◌/◌, ◌%◌, ◌≤◌, ℕ, arith, length, ◌∙◌}
use Rattle.hex.proofs.HexLemmas.{decode_of-even}
use Rattle.rip_log.specs.Pairs.{AreBytes}
use Rattle.rip_log.proofs.PairLemmas.{decoded, more_bytes}
use Rattle.rip_log.proofs.blocks.decode_blocks.Goals as goal

pub rows-preserved : goal.rows-preserved
rows-preserved c = record {
  size = c.put.ensures.size ∙ c.rows.invariant.size;
  bytes = more_bytes _ _ _ (32 * c.rows.k) (16 * c.rows.k) (16 * (c.rows.k + 1)) (omega arith) (omega arith) c.rows.invariant.bytes c.put.ensures.before (c.put.ensures.bytes c.if-not-put.false);
}

pub returns : goal.returns
returns c = λ yes.
    let len : ℕ = length c.args.text.now in
    let even : len % 2 ≡ 0 = omega arith in
    let front : AreBytes c.args.text.now c.rows.room (len / 2 - 16) = (λ j h. c.rows.invariant.bytes j (omega arith)) in
    let all = more_bytes _ _ _ (len - 32) (len / 2 - 16) (len / 2) (omega arith) (omega arith) front c.put-2.ensures.before (c.put-2.ensures.bytes yes) in
    let room : len / 2 ≤ length c.put-2.new.room = omega (arith, c.put-2.ensures.size, c.rows.invariant.size, c.requires) in
    decode_of-even c.args.text.now even ∙ decoded 0 (len / 2) _ _ (omega arith) room all
