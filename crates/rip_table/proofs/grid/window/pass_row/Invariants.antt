use Rattle.std.proofs.Common.{◌≡◌}
use Rattle.rip_table.specs.Window.{passed_word}
use Rattle.rip_table.proofs.FrontLemmas.{front}
use Rattle.rip_table.proofs.grid.window.pass_row.Given as goal

abbrev pub invariant-loop-i : goal.invariant-loop-i
invariant-loop-i l = l.row.items ≡ front l.i passed_word l.fn.row.items
