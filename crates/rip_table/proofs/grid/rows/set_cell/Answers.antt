use Rattle.std.proofs.Common.{◌≡◌, refl, arith, length}
use Rattle.rip_table.proofs.RowLemmas.{row-width, rows-set}
use Rattle.rip_table.proofs.grid.rows.set_cell.Goals as goal

pub index_mut-requires : goal.index_mut-requires
index_mut-requires g c =
    let wide : length c.index_mut-row.result.now.items ≡ c.args.width =
    row-width c.args.rows.now.entries c.args.k c.args.width c.index_mut-row.result.now c.requires.grid c.index_mut-row.ensures.value in
    let ok : c.index_mut-row.result.now.len ≡ length c.index_mut-row.result.now.items = c.index_mut-row.result.now.ok.0 in
    omega (arith, wide, ok, c.requires.cell)

pub returns : goal.returns
returns g c = rows-set c.args.rows.now.entries c.args.k c.args.interface c.args.cell c.index_mut-row.result.now _ c.index_mut-row.ensures.value refl
