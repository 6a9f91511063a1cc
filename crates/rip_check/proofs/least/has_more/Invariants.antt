use Rattle.std.proofs.Common.{ℕ, ◌<◌, ◌≤◌, get_or}
use Rattle.rip_check.proofs.least.has_more.Given as goal

abbrev pub invariant-loop-router : goal.invariant-loop-router
invariant-loop-router l = (r : ℕ) → r < l.router → l.metric < get_or l.metrics r 0 → 16 ≤ get_or l.metrics r 0
