use Rattle.std.proofs.Common.{◌≡◌, ℕ, ◌+◌, ◌<◌, length, get_or}
use Rattle.rip_log.proofs.blocks.store.Given as goal

abbrev pub invariant-bytes : goal.invariant-bytes
invariant-bytes l = record {
  len : length l.room ≡ length l.fn.room;
  written : (k : ℕ) → k < l.i → get_or l.room (l.to + k) 0 ≡ get_or l.bytes k 0;
  before : (k : ℕ) → k < l.to → get_or l.room k 0 ≡ get_or l.fn.room k 0;
}
