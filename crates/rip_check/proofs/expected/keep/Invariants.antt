use Rattle.std.proofs.Common.{◌≡◌, ◌≢◌, ℕ, ◌+◌, ◌*◌, ◌<◌, get_or, length}
use Rattle.rip_check.proofs.expected.keep.Given as goal

abbrev pub invariant-loop-router : goal.invariant-loop-router
invariant-loop-router l = record {
  kept : (r : ℕ) → r < l.router → get_or l.metrics (r * l.count + l.prefix) 0 ≡ get_or l.row r 0;
  others : (r q : ℕ) → q < l.count → q ≢ l.prefix → get_or l.metrics (r * l.count + q) 0 ≡ get_or l.fn.metrics (r * l.count + q) 0;
  size : length l.metrics ≡ length l.fn.metrics;
}
