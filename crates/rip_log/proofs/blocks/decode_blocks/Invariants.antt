use Rattle.std.proofs.Common.{◌≡◌, ◌*◌, length}
use Rattle.rip_log.specs.Pairs.{AreBytes}
use Rattle.rip_log.proofs.blocks.decode_blocks.Given as goal

abbrev pub invariant-rows : goal.invariant-rows
invariant-rows l = record {
  size : length l.room ≡ length l.fn.room;
  bytes : AreBytes l.text l.room (16 * l.k);
}
