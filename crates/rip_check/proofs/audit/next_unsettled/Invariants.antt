use Rattle.std.proofs.Common.{ℕ, ◌≤◌, ◌<◌, length}
use Rattle.rip_check.specs.Firsts.{IsAfter}
use Rattle.rip_check.specs.Verdicts.{IsSound}
use Rattle.rip_check.proofs.audit.next_unsettled.Given as goal
use Rattle.rip_check.specs.Told.{told}

abbrev pub invariant-loop-router : goal.invariant-loop-router
invariant-loop-router g l = record {
  rows : (s q : ℕ) → s < l.router → q < length (told l.plan (g.T.Table.state l.table)).prefixes → IsAfter l.fn.after s q →
      IsSound l.plan (told l.plan (g.T.Table.state l.table)) s q;
  front : (q : ℕ) → IsAfter l.fn.after l.router q → l.from ≤ q;
  back : (q : ℕ) → l.from ≤ q → IsAfter l.fn.after l.router q;
}
