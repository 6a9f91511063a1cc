use Rattle.std.proofs.Common.{ℕ, ◌≤◌, ◌<◌}
use Rattle.rip_check.specs.Verdicts.{IsSound}
use Rattle.rip_check.proofs.audit.first_in_row.Given as goal
use Rattle.rip_check.specs.Told.{told}

abbrev pub invariant-loop-prefix : goal.invariant-loop-prefix
invariant-loop-prefix g l = (q : ℕ) → l.from ≤ q → q < l.prefix → IsSound l.plan (told l.plan (g.T.Table.state l.table)) l.router q
