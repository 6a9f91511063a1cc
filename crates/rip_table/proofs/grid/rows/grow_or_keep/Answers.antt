use Rattle.std.proofs.Common.{◌∙◌, ap, take}
use Rattle.rip_table.specs.Rows.{rows_of}
use Rattle.rip_table.proofs.RowLemmas.{rows-take}
use Rattle.rip_table.proofs.grid.rows.grow_or_keep.Goals as goal

pub returns-in-Err-clause-err : goal.returns-in-Err-clause-err
returns-in-Err-clause-err g c =
    ap rows_of c.truncate.ensures.entries ∙ rows-take c.len-was.result c.grow.new.rows.entries ∙ ap (λ n. take n (rows_of c.grow.new.rows.entries)) c.len-was.ensures.len ∙ c.grow.ensures.front
