use Rattle.std.proofs.Common.{◌≡◌, ◌∙◌, ◌+◌, sym, ap, length, drop, Some, arith, refl}
use Rattle.std.specs.List.{slice_get}
use Rattle.std.proofs.lemmas.Option.{slice_get_read}
use Rattle.rip_table.specs.WindowRows.{is_shown_in}
use Rattle.rip_table.proofs.PrefixListLemmas.{drop-end, drop-more}
use Rattle.rip_table.proofs.ForgetLemmas.{blank-first, shown-first}
use Rattle.rip_table.proofs.grid.window.is_shown.Goals as goal

pub returns-then-not-is_blank : goal.returns-then-not-is_blank
returns-then-not-is_blank c =
    let cells = c.args.row.now.items in
    let ok : c.args.row.now.len ≡ length cells = c.args.row.now.ok.0 in
    let at : slice_get cells c.loop-i.i ≡ Some c.index.result.now =
    slice_get_read cells (length cells) c.loop-i.i c.index.result.now refl (omega (arith, c.loop-i-test.true, c.len-i-end.ensures, ok)) c.index.ensures in
    sym (c.loop-i.invariant ∙ ap is_shown_in (drop-more cells c.loop-i.i c.index.result.now at)
    ∙ shown-first c.index.result.now (drop (c.loop-i.i + 1) cells) (sym c.is_blank.ensures ∙ c.if-not-is_blank.true))

pub loop-i-preserved : goal.loop-i-preserved
loop-i-preserved c =
    let cells = c.args.row.now.items in
    let ok : c.args.row.now.len ≡ length cells = c.args.row.now.ok.0 in
    let at : slice_get cells c.loop-i.i ≡ Some c.index.result.now =
    slice_get_read cells (length cells) c.loop-i.i c.index.result.now refl (omega (arith, c.loop-i-test.true, c.len-i-end.ensures, ok)) c.index.ensures in
    c.loop-i.invariant ∙ ap is_shown_in (drop-more cells c.loop-i.i c.index.result.now at)
    ∙ blank-first c.index.result.now (drop (c.loop-i.i + 1) cells) (sym c.is_blank.ensures ∙ c.if-not-is_blank.false)

pub returns : goal.returns
returns c =
    let cells = c.args.row.now.items in
    let ok : c.args.row.now.len ≡ length cells = c.args.row.now.ok.0 in
    sym (c.loop-i.invariant ∙ ap is_shown_in (drop-end cells c.loop-i.i (omega (arith, c.loop-i-test.false, c.len-i-end.ensures, ok))))
