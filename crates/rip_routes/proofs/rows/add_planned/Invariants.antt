use Rattle.std.proofs.Common.{◌≡◌, take, length, None}
use Rattle.rip_table.specs.Rows.{planned_rows, rows_of}
use Rattle.rip_routes.proofs.rows.add_planned.Given as goal

abbrev pub invariant-loop-k : goal.invariant-loop-k
invariant-loop-k g l = rows_of l.rows.entries ≡ planned_rows None (length l.plan.routers) (take l.k l.plan.prefixes)
