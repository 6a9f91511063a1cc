use Rattle.std.proofs.Common.{◌≡◌, ℕ, ◌<◌, length, get_or, Some}
use Rattle.hex.specs.Hex.{hex_digit_value}
use Rattle.rip_log.proofs.blocks.values_of.Given as goal

abbrev pub invariant-values : goal.invariant-values
invariant-values l = record {
  len : length l.values ≡ 32;
  each : (k : ℕ) → k < l.i → get_or l.values k 0 < 16 → hex_digit_value (get_or l.digits k 0) ≡ Some (get_or l.values k 0);
}
