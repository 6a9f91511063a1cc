use Rattle.std.proofs.Common.{◌≡◌, None, replicate}
use Rattle.rip_routes.proofs.cell.blank_row.Given as goal

abbrev pub invariant-loop : goal.invariant-loop
invariant-loop l = l.row.items ≡ replicate l.counter None
