use Rattle.std.proofs.Common.{◌∙◌, ap, length, ℕ}
use Rattle.rip_table.specs.Rows.{rows_of, with_row}
use Rattle.rip_table.proofs.RowLemmas.{planned-more}
use Rattle.rip_table.proofs.grid.rows.add_planned.Goals as goal

pub loop-k-preserved : goal.loop-k-preserved
loop-k-preserved g c =
    let n = c.args.plan.now in
    let w = length n.interfaces in
    c.in_ok-row_at.ensures.ok
    ∙ ap (λ (v : ℕ). with_row g.C.GridCell.blank_cell v (rows_of c.loop-k.rows.entries) c.prefix.result) c.interfaces.ensures
    ∙ ap (λ r. with_row g.C.GridCell.blank_cell w r c.prefix.result) c.loop-k.invariant
    ∙ planned-more g.C.GridCell.blank_cell w n.prefixes c.loop-k.k c.prefix.result c.lawful.ensures.prefixes_differ c.prefix.ensures
