use Rattle.std.proofs.Common.{◌≡◌, ◌∙◌, sym, ap, Some, arith}
use Rattle.std.specs.List.{slice_get}
use Rattle.std.proofs.lemmas.Option.{slice_get_within}
use Rattle.rip_plan.proofs.NumberingLemmas.{same_is}
use Rattle.rip_wire.specs.Prefix.{Block}
use Rattle.rip_plan.specs.Network.{number_of_prefix}
use Rattle.rip_table.specs.Rows.{heads, rows_of}
use Rattle.rip_table.proofs.NumberLemmas.{number-at}
use Rattle.rip_table.proofs.RowLemmas.{head-at, index-number, length-heads, length-rows, number-listed}
use Rattle.rip_table.proofs.grid.numbers.number_of.Goals as goal

pub returns-then-eq-clause-number : goal.returns-then-eq-clause-number
returns-then-eq-clause-number g c =
    let es = c.args.rows.now.entries in
    let there = c.in-Some.there.now in
    let same : there ≡ c.args.prefix = same_is there c.args.prefix (sym c.if-eq.ensures) in
    let at : slice_get (heads (rows_of es)) c.guess-likely.result ≡ Some there = head-at es c.guess-likely.result (there, c.in-Some.field-0-1.now) (sym c.in-Some.ensures.entry) in
    sym (number-listed (heads (rows_of es)) c.guess-likely.result c.args.prefix c.requires.differ (at ∙ ap (λ (p : Block). Some p) same))

pub remember-requires-clause-few : goal.remember-requires-clause-few
remember-requires-clause-few g c =
    let ps = heads (rows_of c.args.rows.now.entries) in
    let p = c.args.prefix in
    let found : number_of_prefix p ps ≡ Some c.in-Some-number.k = sym (index-number p c.args.rows.now.entries) ∙ sym c.get_index_of-number.ensures.index ∙ c.in-Some-number.is in
    omega (
      arith,
      slice_get_within ps c.in-Some-number.k p (number-at p ps c.in-Some-number.k found),
      length-heads (rows_of c.args.rows.now.entries),
      length-rows c.args.rows.now.entries,
      c.requires.few,
    )

pub returns-in-Some-number-clause-number : goal.returns-in-Some-number-clause-number
returns-in-Some-number-clause-number g c = sym c.in-Some-number.is ∙ c.get_index_of-number.ensures.index ∙ index-number c.args.prefix c.args.rows.now.entries

pub returns-in_default-number-clause-number : goal.returns-in_default-number-clause-number
returns-in_default-number-clause-number g c = c.get_index_of-number.ensures.index ∙ index-number c.args.prefix c.args.rows.now.entries
