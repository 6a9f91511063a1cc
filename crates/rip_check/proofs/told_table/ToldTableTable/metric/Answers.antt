use Rattle.std.proofs.Common.{Some, get_or, sym, ap, ◌∙◌, arith}
use Rattle.std.proofs.lemmas.Option.{slice_get-get_or}
use Rattle.rip_wire.specs.Prefix.{Block}
use Rattle.rip_check.specs.ToldCells.{rows_of, shown_by}
use Rattle.rip_check.proofs.ToldStateLemmas.{row_items, shows_metric, told_cell}
use Rattle.rip_check.proofs.told_table.ToldTableTable.metric.Goals as goal

pub index-shown-requires : goal.index-shown-requires
index-shown-requires g c =
    let self = c.args.self.now in
    let at = slice_get-get_or self.rows.items c.args.k c.index.result.now (omega (arith, c.requires.prefix, self.size)) ∙ ap Some (sym c.index.ensures) in
    let width = self.widths c.args.k c.index.result.now.items (row_items self.rows.items c.args.k c.index.result.now at) in
    omega (arith, width, c.requires.interface, c.index.result.now.ok.0)

pub metric_of-requires-clause-high : goal.metric_of-requires-clause-high
metric_of-requires-clause-high g c =
    let self = c.args.self.now in
    let prefixes = (g.G.RouteTables.tables self.tables.now).prefixes in
    let row = c.index.result.now in
    let at = slice_get-get_or self.rows.items c.args.k row (omega (arith, c.requires.prefix, self.size)) ∙ ap Some (sym c.index.ensures) in
    let items = row_items self.rows.items c.args.k row at in
    let x = c.index-shown.result.now in
    let x_at = slice_get-get_or row.items c.args.interface x (omega (arith, self.widths c.args.k row.items items, c.requires.interface)) ∙ ap Some (sym c.index-shown.ensures) in
    let blank : Block = record { network = 0; prefix_len = 0 } in
    let p = get_or prefixes c.args.k blank in
    let p_at = slice_get-get_or prefixes c.args.k blank c.requires.prefix in
    let shows = told_cell self.count prefixes (rows_of self.rows.items) self.valid.differ c.args.k c.args.interface x p row.items p_at items x_at ∙ shows_metric x c.if-shown-eq0.false in
    omega (arith, (self.valid.shown c.args.interface x p c.requires.interface shows).most, c.from.ensures)

pub returns-then-shown-eq0 : goal.returns-then-shown-eq0
returns-then-shown-eq0 g c = λ p p_at.
    let self = c.args.self.now in
    let prefixes = (g.G.RouteTables.tables self.tables.now).prefixes in
    let row = c.index.result.now in
    let at = slice_get-get_or self.rows.items c.args.k row (omega (arith, c.requires.prefix, self.size)) ∙ ap Some (sym c.index.ensures) in
    let items = row_items self.rows.items c.args.k row at in
    let x = c.index-shown.result.now in
    let x_at = slice_get-get_or row.items c.args.interface x (omega (arith, self.widths c.args.k row.items items, c.requires.interface)) ∙ ap Some (sym c.index-shown.ensures) in
    sym (told_cell self.count prefixes (rows_of self.rows.items) self.valid.differ c.args.k c.args.interface x p row.items p_at items x_at ∙ ap shown_by c.if-shown-eq0.true)

pub returns-else-shown-eq0 : goal.returns-else-shown-eq0
returns-else-shown-eq0 g c = λ p p_at.
    let self = c.args.self.now in
    let prefixes = (g.G.RouteTables.tables self.tables.now).prefixes in
    let row = c.index.result.now in
    let at = slice_get-get_or self.rows.items c.args.k row (omega (arith, c.requires.prefix, self.size)) ∙ ap Some (sym c.index.ensures) in
    let items = row_items self.rows.items c.args.k row at in
    let x = c.index-shown.result.now in
    let x_at = slice_get-get_or row.items c.args.interface x (omega (arith, self.widths c.args.k row.items items, c.requires.interface)) ∙ ap Some (sym c.index-shown.ensures) in
    let shows = told_cell self.count prefixes (rows_of self.rows.items) self.valid.differ c.args.k c.args.interface x p row.items p_at items x_at ∙ shows_metric x c.if-shown-eq0.false in
    ap Some (c.metric_of.ensures ∙ c.from.ensures) ∙ sym shows
