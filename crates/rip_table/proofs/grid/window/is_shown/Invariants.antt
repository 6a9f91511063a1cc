use Rattle.std.proofs.Common.{◌≡◌, drop}
use Rattle.rip_table.specs.WindowRows.{is_shown_in}
use Rattle.rip_table.proofs.grid.window.is_shown.Given as goal

abbrev pub invariant-loop-i : goal.invariant-loop-i
invariant-loop-i l = is_shown_in l.row.items ≡ is_shown_in (drop l.i l.row.items)
