use Rattle.std.proofs.Common.{◌≡◌, map}
use Rattle.rip_table.specs.Rows.{rows_of}
use Rattle.rip_table.specs.Window.{passed_word}
use Rattle.rip_table.proofs.FrontLemmas.{front}
use Rattle.rip_table.proofs.grid.window.pass_rows.Given as goal

abbrev pub invariant-loop-k : goal.invariant-loop-k
invariant-loop-k g l = rows_of l.rows.entries ≡ front l.k (λ row. (row.0, map passed_word row.1)) (rows_of l.fn.rows.entries)
