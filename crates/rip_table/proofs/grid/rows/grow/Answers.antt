use Rattle.std.proofs.Common.{◌≡◌, ◌∙◌, ◌<◌, ◌≤◌, ◌+◌, ap, sym, ℕ, Bool, true, false, None, Option, Some, List, length, set, take, drop, arith, refl, nat_lt, ◌≢◌, get_or-set_same, get_or-set_other}
use Rattle.std.proofs.lemmas.Bool.{ltb-true, ltb-false}
use Rattle.std.proofs.Math.ListN.{length-set}
use Rattle.std.specs.List.{slice_get, slice_index_or}
use Rattle.std.proofs.lemmas.Option.{slice_get_read, slice_get_within}
use Rattle.rip_wire.specs.Prefix.{Block}
use Rattle.rip_wire.specs.declared.entry.Entry.{Entry}
use Rattle.rip_plan.specs.Network.{number_of_prefix}
use Rattle.rip_table.specs.Rows.{heads, rows_of, with_rows}
use Rattle.rip_table.proofs.PrefixListLemmas.{drop-more}
use Rattle.rip_table.proofs.NumberLemmas.{number-here, number-none, number-some, true-false}
use Rattle.rip_table.proofs.TallyLemmas.{on_err}
use Rattle.rip_table.specs.State.{is_among}
use Rattle.rip_table.proofs.RowLemmas.{length-rows, with_row-front, with_row-keeps, with_row-longer}
use Rattle.rip_table.proofs.grid.rows.grow.Goals as goal

pub row_at-requires : goal.row_at-requires
row_at-requires g c k h =
    let es = c.args.entries.now in
    let at = slice_get_read es (length es) c.loop-j.j c.index-entries-j.result refl c.loop-j-test.true c.index-entries-j.is in
    c.loop-j.invariant.kept c.index-entries-j.result.prefix k
    (sym (number-here (heads (rows_of c.args.rows.now.entries)) es c.args.numbers.now c.loop-j.j c.index-entries-j.result c.requires.numbers at) ∙ h)

-- a place that was found stays, and the next is put after it
placed : (now new : List Block) (es : List Entry) (row_numbers : List ℕ) (j x : ℕ) (e : Entry) → length row_numbers ≡ 25 → j < 25
    → ((q : Block) (v : ℕ) → number_of_prefix q now ≡ Some v → number_of_prefix q new ≡ Some v)
    → ((k : ℕ) (d : Entry) → k < j → slice_get es k ≡ Some d → number_of_prefix d.prefix now ≡ Some (slice_index_or row_numbers k 0))
    → slice_get es j ≡ Some e → number_of_prefix e.prefix new ≡ Some x
    → (k : ℕ) (d : Entry) → k < j + 1 → slice_get es k ≡ Some d → number_of_prefix d.prefix new ≡ Some (slice_index_or (set row_numbers j x) k 0)
placed now new es row_numbers j x e room few kept found at here k d lt is = by (nat_lt k j) refl
  where
    by : (b : Bool) → nat_lt k j ≡ b → number_of_prefix d.prefix new ≡ Some (slice_index_or (set row_numbers j x) k 0)
    by true t =
        let before : k < j = ltb-true k j t in
        let apart : k ≢ j = omega (arith, before) in
        kept d.prefix (slice_index_or row_numbers k 0) (found k d before is) ∙ ap (λ (v : ℕ). Some v) (sym (get_or-set_other row_numbers j k x 0 apart))
    by false t =
        let same : k ≡ j = omega (arith, ltb-false k j t, lt) in
        let one : Some e ≡ Some d = sym at ∙ ap (slice_get es) (sym same) ∙ is in
        let entry : e ≡ d = cc one in
        ap (λ (f : Entry). number_of_prefix f.prefix new) (sym entry) ∙ here ∙ ap (λ (v : ℕ). Some v)
        (sym (get_or-set_same row_numbers j x 0 (omega (arith, few, room))) ∙ ap (λ (m : ℕ). slice_index_or (set row_numbers j x) m 0) (sym same))

pub loop-j-preserved : goal.loop-j-preserved
loop-j-preserved g c =
    let es = c.args.entries.now in
    let at = slice_get_read es (length es) c.loop-j.j c.index-entries-j.result refl c.loop-j-test.true c.index-entries-j.is in
    let p = c.index-entries-j.result.prefix in
    let inv = c.loop-j.invariant in
    let rows = rows_of c.loop-j.rows.entries in
    let step = c.in_ok-row_numbers.ensures.ok in
    let kept : (q : Block) (k : ℕ) → number_of_prefix q (heads rows) ≡ Some k → number_of_prefix q (heads (rows_of c.row_at.new.rows.entries)) ≡ Some k =
    λ q k h. ap (λ r. number_of_prefix q (heads r)) step ∙ with_row-keeps g.C.GridCell.blank_cell c.args.width rows p q k h in
    let here = drop-more es c.loop-j.j c.index-entries-j.result at in
    let few : length c.args.rows.now.entries ≤ length rows = omega (arith, inv.longer, length-rows c.loop-j.rows.entries) in
    record {
      told = ap (λ r. with_rows g.C.GridCell.blank_cell c.args.width r (drop (c.loop-j.j + 1) es)) step ∙ ap (with_rows g.C.GridCell.blank_cell c.args.width rows) (sym here) ∙ inv.told;
      kept = λ q k h. kept q k (inv.kept q k h);
      room = length-set c.loop-j.row_numbers c.loop-j.j c.in_ok-row_numbers.field-0 ∙ inv.room;
      row_numbers = placed (heads rows) (heads (rows_of c.row_at.new.rows.entries)) es c.loop-j.row_numbers c.loop-j.j c.in_ok-row_numbers.field-0 c.index-entries-j.result inv.room
          (omega (arith, c.loop-j-test.true, c.requires.few))
          kept inv.row_numbers at c.in_ok-row_numbers.ensures.number;
      longer = omega (arith, few, with_row-longer g.C.GridCell.blank_cell c.args.width rows p, ap length step, length-rows c.row_at.new.rows.entries);
      front = ap (take (length c.args.rows.now.entries)) step ∙ with_row-front g.C.GridCell.blank_cell (length c.args.rows.now.entries) c.args.width rows p few ∙ inv.front;
    }

pub returns-clause-row_numbers : goal.returns-clause-row_numbers
returns-clause-row_numbers g c j e at =
    let es = c.args.entries.now in
    c.loop-j.invariant.row_numbers j e (omega (arith, slice_get_within es j e at, c.loop-j-test.false)) at

-- a prefix without a row had none before
absent_then : (p : Block) (old now : List Block) → ((k : ℕ) → number_of_prefix p old ≡ Some k → number_of_prefix p now ≡ Some k) → is_among p now ≡ false → is_among p old ≡ false
absent_then p old now kept none = by (number_of_prefix p old) refl
  where
    by : (o : Option ℕ) → number_of_prefix p old ≡ o → is_among p old ≡ false
    by None h = number-none p old h
    by (Some k) h = true-false (is_among p now) (number-some p now k (kept k h)) none

pub returns-in_err-row_numbers-clause-allocates : goal.returns-in_err-row_numbers-clause-allocates
returns-in_err-row_numbers-clause-allocates g c =
    let es = c.args.entries.now in
    let e = c.index-entries-j.result in
    let at = slice_get_read es (length es) c.loop-j.j e refl c.loop-j-test.true c.index-entries-j.is in
    on_err c.from_residual.result _
    (c.loop-j.j, e, at, absent_then e.prefix (heads (rows_of c.args.rows.now.entries)) (heads (rows_of c.loop-j.rows.entries)) (c.loop-j.invariant.kept e.prefix) c.in_err-row_numbers.ensures.allocates)
