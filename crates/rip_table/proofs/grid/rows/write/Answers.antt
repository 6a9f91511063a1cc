use Rattle.std.proofs.Common.{◌≡◌, ◌∙◌, ◌+◌, ap, sym, subst, Some, drop, arith, length, refl}
use Rattle.std.specs.List.{slice_index_or}
use Rattle.std.proofs.lemmas.Option.{slice_get_read, slice_get_within}
use Rattle.rip_plan.specs.Network.{number_of_prefix}
use Rattle.rip_table.specs.Rows.{IsGrid, cell, heads, rows_of, shown_after, with_cell}
use Rattle.rip_table.proofs.PrefixListLemmas.{drop-end, drop-more}
use Rattle.rip_table.proofs.NumberLemmas.{number-at}
use Rattle.rip_table.proofs.RowLemmas.{grid-with_cell, heads-with_cell, length-heads, length-rows}
use Rattle.rip_table.proofs.CellLemmas.{cells-with_cell, shown_after-step}
use Rattle.rip_table.proofs.grid.rows.write.Goals as goal

pub set_cell-requires-clause-row : goal.set_cell-requires-clause-row
set_cell-requires-clause-row g c =
    let rows = rows_of c.loop-j.rows.entries in
    let at = slice_get_read c.args.entries.now (length c.args.entries.now) c.loop-j.j c.index-entries-j.result refl c.loop-j-test.true c.index-entries-j.is in
    let p = c.index-entries-j.result.prefix in
    let number : number_of_prefix p (heads rows) ≡ Some (slice_index_or c.args.row_numbers.now c.loop-j.j 0) =
    ap (number_of_prefix p) c.loop-j.invariant.heads ∙ c.requires.row_numbers c.loop-j.j c.index-entries-j.result at in
    omega (
      arith,
      slice_get_within (heads rows) (slice_index_or c.args.row_numbers.now c.loop-j.j 0) p (number-at p (heads rows) (slice_index_or c.args.row_numbers.now c.loop-j.j 0) number),
      length-heads rows,
      length-rows c.loop-j.rows.entries,
    )

pub loop-j-preserved : goal.loop-j-preserved
loop-j-preserved g c =
    let es = c.args.entries.now in
    let rows = rows_of c.loop-j.rows.entries in
    let k = slice_index_or c.args.row_numbers.now c.loop-j.j 0 in
    let e = c.index-entries-j.result in
    let at = slice_get_read es (length es) c.loop-j.j e refl c.loop-j-test.true c.index-entries-j.is in
    let i = c.args.interface in
    let inv = c.loop-j.invariant in
    let number : number_of_prefix e.prefix (heads rows) ≡ Some k = ap (number_of_prefix e.prefix) inv.heads ∙ c.requires.row_numbers c.loop-j.j e at in
    let blank = g.C.GridCell.blank_cell in
    let made = g.C.GridCell.cell_of c.args.term in
    let new = c.set_cell.ensures ∙ ap (with_cell rows k i) c.of.ensures in
    record {
      heads = ap heads new ∙ heads-with_cell rows k i (made e.metric) ∙ inv.heads;
      grid = subst (IsGrid c.args.width) (sym new) (grid-with_cell c.args.width rows k i (made e.metric) inv.grid);
      cells = ap (λ r. shown_after made (cell blank r) i (drop (c.loop-j.j + 1) es)) new
          ∙ ap (λ f. shown_after made f i (drop (c.loop-j.j + 1) es)) (cells-with_cell blank c.args.width rows e.prefix k i (made e.metric) number inv.grid c.requires.cell)
          ∙ shown_after-step made (cell blank rows) i e (drop (c.loop-j.j + 1) es)
          ∙ ap (shown_after made (cell blank rows) i) (sym (drop-more es c.loop-j.j e at))
          ∙ inv.cells;
    }

pub returns-clause-cells : goal.returns-clause-cells
returns-clause-cells g c =
    let es = c.args.entries.now in
    ap (λ rest. shown_after (g.C.GridCell.cell_of c.args.term) (cell g.C.GridCell.blank_cell (rows_of c.loop-j.rows.entries)) c.args.interface rest)
    (sym (drop-end es c.loop-j.j (omega (arith, c.loop-j-test.false))))
    ∙ c.loop-j.invariant.cells
