use Rattle.std.proofs.Common.{◌≡◌, ℕ, ◌+◌, ◌*◌, ◌<◌, length, get_or}
use Rattle.rip_log.proofs.blocks.joined.Given as goal

abbrev pub invariant-bytes : goal.invariant-bytes
invariant-bytes l = record {
  len : length l.bytes ≡ 16;
  each : (k : ℕ) → k < l.i → get_or l.bytes k 0 ≡ get_or l.values (2 * k) 0 * 16 + get_or l.values (2 * k + 1) 0;
}
