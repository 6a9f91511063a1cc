use Rattle.std.proofs.Common.{◌≡◌, ◌∙◌, arith, ap, sym, length}
use Rattle.std.specs.Prelude.{option_map}
use Rattle.rip_table.specs.Rows.{heads, rows_of}
use Rattle.rip_table.proofs.RowLemmas.{index-number, length-heads, length-rows, row-width}
use Rattle.rip_routes.specs.OwnTables.{OwnRoute}
use Rattle.rip_routes.proofs.RowTellLemmas.{cell-of-row}
use Rattle.rip_routes.proofs.TellLemmas.{told_blank, told_changed, told_full, told_room, told_same}
use Rattle.rip_routes.proofs.rows.judge.Goals as goal

pub returns-then-len-ge-MOST_PREFIXES : goal.returns-then-len-ge-MOST_PREFIXES
returns-then-len-ge-MOST_PREFIXES g c = λ listed.
    let es = c.args.rows.now.entries in
    let long : length (heads (rows_of es)) ≡ c.len.result = length-heads (rows_of es) ∙ length-rows es ∙ sym c.len.ensures.len in
    told_full listed (rows_of es) c.args.told.now (sym (index-number c.args.told.now.prefix es) ∙ sym c.in_default.ensures.index) (omega (arith, long, c.if-len-ge-MOST_PREFIXES.true))

pub returns-else-len-ge-MOST_PREFIXES : goal.returns-else-len-ge-MOST_PREFIXES
returns-else-len-ge-MOST_PREFIXES g c = λ listed.
    let es = c.args.rows.now.entries in
    let long : length (heads (rows_of es)) ≡ c.len.result = length-heads (rows_of es) ∙ length-rows es ∙ sym c.len.ensures.len in
    told_room listed (rows_of es) c.args.told.now (sym (index-number c.args.told.now.prefix es) ∙ sym c.in_default.ensures.index) (omega (arith, long, c.if-len-ge-MOST_PREFIXES.false))

pub index-requires-2 : goal.index-requires-2
index-requires-2 g c =
    let row = c.index.result.now in
    let wide = row-width c.args.rows.now.entries c.in-Some.k c.requires.0 row c.requires.1 c.index.ensures in
    let ok = row.ok.0 in
    omega (arith, wide, ok, c.requires.2)

pub returns-in-None : goal.returns-in-None
returns-in-None g c = λ listed.
    let es = c.args.rows.now.entries in
    let told = c.args.told.now in
    let number = sym (index-number told.prefix es) ∙ sym c.in-Some.ensures.index in
    told_blank listed (rows_of es) told c.in-Some.k number
    (ap (option_map (λ (route : OwnRoute). route.metric)) (cell-of-row es c.in-Some.k c.index.result.now told.prefix told.router c.index-2.result.now c.requires.0 number c.requires.1 c.index.ensures c.requires.2 c.index-2.ensures)
    ∙ sym c.metric.ensures ∙ c.in-None.is)

pub returns-in-Some-metric : goal.returns-in-Some-metric
returns-in-Some-metric g c = λ listed.
    let es = c.args.rows.now.entries in
    let told = c.args.told.now in
    let number = sym (index-number told.prefix es) ∙ sym c.in-Some.ensures.index in
    told_same listed (rows_of es) told c.in-Some-metric.old
    (ap (option_map (λ (route : OwnRoute). route.metric)) (cell-of-row es c.in-Some.k c.index.result.now told.prefix told.router c.index-2.result.now c.requires.0 number c.requires.1 c.index.ensures c.requires.2 c.index-2.ensures)
    ∙ sym c.metric.ensures ∙ c.in-Some-metric.is) (grind arith)

pub returns-in-Some-2 : goal.returns-in-Some-2
returns-in-Some-2 g c = λ listed.
    let es = c.args.rows.now.entries in
    let told = c.args.told.now in
    let number = sym (index-number told.prefix es) ∙ sym c.in-Some.ensures.index in
    told_changed listed (rows_of es) told c.in-Some-metric.old
    (ap (option_map (λ (route : OwnRoute). route.metric)) (cell-of-row es c.in-Some.k c.index.result.now told.prefix told.router c.index-2.result.now c.requires.0 number c.requires.1 c.index.ensures c.requires.2 c.index-2.ensures)
    ∙ sym c.metric.ensures ∙ c.in-Some-metric.is) (λ e. grind (arith, e))
