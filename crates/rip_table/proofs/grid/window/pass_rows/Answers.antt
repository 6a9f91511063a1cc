use Rattle.std.proofs.Common.{◌∙◌, sym, ap, length, map, set, arith}
use Rattle.std.specs.List.{slice_get}
use Rattle.rip_table.specs.Rows.{rows_of}
use Rattle.rip_table.specs.Window.{passed_word}
use Rattle.rip_table.proofs.FrontLemmas.{front-all, front-length, front-more}
use Rattle.rip_table.proofs.RowLemmas.{from_rows, length-rows, row-head, rows-set_row}
use Rattle.rip_table.proofs.grid.window.pass_rows.Goals as goal

pub index_mut-requires : goal.index_mut-requires
index_mut-requires g c =
    let old = rows_of c.args.rows.now.entries in
    omega (
      arith,
      c.loop-k-test.true,
      c.len-k-end.ensures.len,
      length-rows c.args.rows.now.entries,
      length-rows c.loop-k.rows.entries,
      ap length c.loop-k.invariant,
      front-length c.loop-k.k (λ row. (row.0, map passed_word row.1)) old,
    )

pub loop-k-preserved : goal.loop-k-preserved
loop-k-preserved g c =
    let es = c.loop-k.rows.entries in
    let old = rows_of c.args.rows.now.entries in
    let row = c.index_mut.result.now in
    let found = from_rows es c.loop-k.k row c.index_mut.ensures.value in
    rows-set_row es c.loop-k.k found.0 c.pass_row.new.row (row-head (rows_of es) c.loop-k.k (found.0, row.items) found.1)
    ∙ ap (λ xs. set (rows_of es) c.loop-k.k (found.0, xs)) c.pass_row.ensures
    ∙ ap (λ rs. set rs c.loop-k.k (found.0, map passed_word row.items)) c.loop-k.invariant
    ∙ front-more c.loop-k.k (λ x. (x.0, map passed_word x.1)) old (found.0, row.items) (ap (λ rs. slice_get rs c.loop-k.k) (sym c.loop-k.invariant) ∙ found.1)

pub returns : goal.returns
returns g c =
    let old = rows_of c.args.rows.now.entries in
    c.loop-k.invariant
    ∙ front-all c.loop-k.k (λ row. (row.0, map passed_word row.1)) old (omega (arith, c.loop-k-test.false, c.len-k-end.ensures.len, length-rows c.args.rows.now.entries))
