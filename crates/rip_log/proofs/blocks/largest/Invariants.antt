use Rattle.std.proofs.Common.{ℕ, ◌<◌, ◌≤◌, get_or}
use Rattle.rip_log.proofs.blocks.largest.Given as goal

abbrev pub invariant-values : goal.invariant-values
invariant-values l = (k : ℕ) → k < l.i → get_or l.values k 0 ≤ l.largest
