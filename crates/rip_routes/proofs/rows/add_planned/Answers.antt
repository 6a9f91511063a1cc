use Rattle.std.proofs.Common.{◌∙◌, ap, length, ℕ, None}
use Rattle.rip_table.specs.Rows.{rows_of, with_row}
use Rattle.rip_table.proofs.RowLemmas.{planned-more}
use Rattle.rip_routes.proofs.rows.add_planned.Goals as goal

pub loop-k-preserved : goal.loop-k-preserved
loop-k-preserved g c =
    let n = c.args.plan.now in
    let w = length n.routers in
    c.in_ok-row_at.ensures.ok
    ∙ ap (λ (v : ℕ). with_row None v (rows_of c.loop-k.rows.entries) c.prefix.result) c.routers.ensures
    ∙ ap (λ r. with_row None w r c.prefix.result) c.loop-k.invariant
    ∙ planned-more None w n.prefixes c.loop-k.k c.prefix.result c.lawful.ensures.prefixes_differ c.prefix.ensures
