use Rattle.std.proofs.Common.{◌∙◌, ap}
use Rattle.rip_table.specs.Rows.{rows_of}
use Rattle.rip_table.proofs.RowLemmas.{rows-remove}
use Rattle.rip_table.proofs.grid.window.drop_row.Goals as goal

pub returns : goal.returns
returns g c = ap rows_of c.shift_remove_index.ensures.entries ∙ rows-remove c.args.rows.now.entries c.args.k
