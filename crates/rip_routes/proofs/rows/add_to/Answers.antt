use Rattle.std.proofs.Common.{◌∙◌, arith, ap, sym, refl, Some, Option}
use Rattle.std.specs.Prelude.{unwrap_or}
use Rattle.rip_table.specs.Rows.{rows_of, with_cell}
use Rattle.rip_table.proofs.RowLemmas.{row-width, rows-set}
use Rattle.rip_routes.specs.Cells.{added}
use Rattle.rip_routes.specs.OwnTables.{OwnRoute}
use Rattle.rip_routes.specs.Telling.{first_route}
use Rattle.rip_routes.proofs.RowTellLemmas.{cell-of-row, map_err, map_ok, number-below, row-of, with_cell-same}
use Rattle.rip_routes.proofs.rows.add_to.Goals as goal

pub index_mut-row-requires : goal.index_mut-row-requires
index_mut-row-requires g c = number-below c.args.rows.now.entries c.args.told.now.prefix c.args.k c.requires.row

pub index_mut-requires : goal.index_mut-requires
index_mut-requires g c =
    let row = c.index_mut-row.result.now in
    let wide = row-width c.args.rows.now.entries c.args.k c.args.width row c.requires.grid c.index_mut-row.ensures.value in
    let ok = row.ok.0 in
    omega (arith, wide, ok, c.requires.cell)

pub returns-clause-ok : goal.returns-clause-ok
returns-clause-ok g c =
    let es = c.args.rows.now.entries in
    let told = c.args.told.now in
    let row = c.index_mut-row.result.now in
    let old = cell-of-row es c.args.k row told.prefix told.router c.index_mut.result.now c.args.width c.requires.row c.requires.grid c.index_mut-row.ensures.value c.requires.cell c.index_mut.ensures.value in
    map_ok c.add.result
    (λ is. rows-set es c.args.k told.router c.add.new.self row _ c.index_mut-row.ensures.value refl
    ∙ ap (with_cell (rows_of es) c.args.k told.router) (is ∙ ap (λ (o : Option OwnRoute). Some (added (unwrap_or o (first_route told.metric)) told.way c.args.is_new)) (sym old)))
    c.add.ensures.ok

pub returns-clause-err : goal.returns-clause-err
returns-clause-err g c =
    let es = c.args.rows.now.entries in
    let told = c.args.told.now in
    let row = c.index_mut-row.result.now in
    map_err c.add.result
    (λ is. rows-set es c.args.k told.router c.add.new.self row _ c.index_mut-row.ensures.value refl
    ∙ ap (with_cell (rows_of es) c.args.k told.router) is
    ∙ with_cell-same (rows_of es) c.args.k told.router c.index_mut.result.now told.prefix row.items (row-of es c.args.k row told.prefix c.requires.row c.index_mut-row.ensures.value) c.index_mut.ensures.value)
    c.add.ensures.err
