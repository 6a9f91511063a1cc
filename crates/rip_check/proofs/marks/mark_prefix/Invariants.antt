use Rattle.std.proofs.Common.{◌≡◌, ◌≢◌, ℕ, ◌+◌, ◌*◌, ◌<◌, None, get_or, length}
use Rattle.rip_check.specs.Cases.{state_of}
use Rattle.rip_check.proofs.marks.mark_prefix.Given as goal

abbrev pub invariant-loop-router : goal.invariant-loop-router
invariant-loop-router g l = record {
  marked : (r : ℕ) → r < l.router →
      g.M.Marking.is_mark l.marking l.case.plan.now (state_of l.case) r l.case.prefix (get_or l.marks (r * length (state_of l.case).prefixes + l.case.prefix) None);
  others : (r q : ℕ) → q < length (state_of l.case).prefixes → q ≢ l.case.prefix →
      get_or l.marks (r * length (state_of l.case).prefixes + q) None ≡ get_or l.fn.marks (r * length (state_of l.case).prefixes + q) None;
  size : length l.marks ≡ length l.fn.marks;
}
