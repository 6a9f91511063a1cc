use Rattle.std.proofs.Common.{◌≡◌, ◌∙◌, sym, ap, arith, length, None}
use Rattle.std.specs.Prelude.{option_map}
use Rattle.std.proofs.lemmas.List.{get_or_default}
use Rattle.rip_table.specs.Rows.{heads, rows_of}
use Rattle.rip_table.proofs.RowLemmas.{number-listed, row-at, row-width}
use Rattle.rip_table.proofs.CellLemmas.{cell-at}
use Rattle.rip_table.proofs.grid.window.GridWindowTable.metric.Goals as goal

pub index-requires-2 : goal.index-requires-2
index-requires-2 g c =
    let row = c.index.result.now in
    let wide : length row.items ≡ length c.args.self.now.heard.items = row-width c.args.self.now.rows.entries c.args.k (length c.args.self.now.heard.items) row c.args.self.now.grid c.index.ensures in
    let ok : row.len ≡ length row.items = row.ok.0 in
    omega (arith, wide, ok, c.requires.interface)

pub returns : goal.returns
returns g c p at =
    let es = c.args.self.now.rows.entries in
    let row = c.index.result.now in
    let number = number-listed (heads (rows_of es)) c.args.k p c.args.self.now.valid.differ at in
    let wide : length row.items ≡ length c.args.self.now.heard.items = row-width es c.args.k (length c.args.self.now.heard.items) row c.args.self.now.grid c.index.ensures in
    c.metric.ensures
    ∙ ap (λ word. option_map (λ x. x.metric) word) (c.index-2.ensures ∙ get_or_default row.items c.args.interface c.index-2.result.now None (omega (arith, wide, c.requires.interface))
    ∙ sym (cell-at None (rows_of es) p c.args.k c.args.interface row.items number (row-at es c.args.k row p c.index.ensures at)))
