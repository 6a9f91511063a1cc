use Rattle.std.proofs.Common.{◌≡◌, ◌∙◌, sym, ap, subst, None, Err, ◌||◌, ◌+◌, Bool, ℕ, Option, length, refl, rules, arith, is_none, is_some, take}
use Rattle.std.specs.List.{list_any, slice_index_or}
use Rattle.std.specs.Option.{option_or}
use Rattle.std.proofs.lemmas.Option.{slice_get_read}
use Rattle.rip_wire.specs.declared.entry.Entry.{Entry}
use Rattle.rip_table.specs.Joined.{is_foreign, joined_entries, with_heard}
use Rattle.rip_table.specs.Numbers.{counted, judged, metric_among, IsChecked}
use Rattle.rip_table.proofs.PrefixListLemmas.{take-end}
use Rattle.rip_table.proofs.NumberLemmas.{any-next, none-is, number-below, number-here}
use Rattle.rip_table.proofs.NotedLemmas.{new-noted, noted-more}
use Rattle.rip_table.proofs.CheckLemmas.{Checked, Checked-start, Checked-fault, Checked-next}
use Rattle.rip_table.proofs.judging.check.Goals as goal

pub shown-shown-requires-clause-number : goal.shown-shown-requires-clause-number
shown-shown-requires-clause-number g c k h =
    number-below (g.T.Table.state c.args.table.now).prefixes c.args.entries.now c.args.numbers.now c.loop-j.j k c.requires.numbers c.loop-j-test.true h

pub loop-j-init : goal.loop-j-init
loop-j-init g c =
    let s = g.T.Table.state c.args.table.now in
    record {
      checked = subst (Checked c.args.plan.now c.args.interface s c.args.entries.now 0) (sym c.prefix_count-count.ensures)
          (Checked-start c.args.plan.now c.args.interface s c.args.entries.now (g.T.Table.is_state c.args.table.now));
      brings = refl;
      noted = λ p k number some. absurd (cc some);
    }

pub returns-in_err-judge : goal.returns-in_err-judge
returns-in_err-judge g c =
    let s = g.T.Table.state c.args.table.now in
    let es = c.args.entries.now in
    let e = c.index-entries-j.result in
    let here = slice_get_read es (length es) c.loop-j.j e refl c.loop-j-test.true c.index-entries-j.is in
    let number = number-here s.prefixes es c.args.numbers.now c.loop-j.j e c.requires.numbers here in
    let known = c.known-known.ensures e here ∙ ap (λ (o : Option ℕ). option_or o (metric_among e.prefix (take c.loop-j.j es))) (c.shown-shown.ensures e.prefix number) in
    let fault = Checked-fault c.args.plan.now c.args.interface s es c.loop-j.j c.loop-j.count e _ c.known-known.result here number known c.loop-j.invariant.checked (c.in_err-judge.field-0).0 in
    let count : c.count_with-count.result ≡ counted c.loop-j.count (slice_index_or c.args.numbers.now c.loop-j.j None) (is_some c.known-known.result) =
    c.count_with-count.ensures ∙ ap (counted c.loop-j.count (slice_index_or c.args.numbers.now c.loop-j.j None)) c.is_some.ensures in
    let is : c.from_residual.result ≡ Err (c.in_err-judge.field-0).0 = search rules in
    subst (IsChecked c.args.plan.now c.args.interface s es) (sym is)
    (fault (ap (judged (is_foreign c.args.plan.now c.args.interface e) e c.known-known.result) (sym count) ∙ sym c.judge.ensures.fault ∙ c.in_err-judge.was))

pub loop-j-preserved : goal.loop-j-preserved
loop-j-preserved g c =
    let s = g.T.Table.state c.args.table.now in
    let es = c.args.entries.now in
    let e = c.index-entries-j.result in
    let here = slice_get_read es (length es) c.loop-j.j e refl c.loop-j-test.true c.index-entries-j.is in
    let number = number-here s.prefixes es c.args.numbers.now c.loop-j.j e c.requires.numbers here in
    let test : Entry → Bool = λ x. is_none (s.shows c.args.interface x.prefix) in
    let shows = c.shown-shown.ensures e.prefix number in
    let known = c.known-known.ensures e here ∙ ap (λ (o : Option ℕ). option_or o (metric_among e.prefix (take c.loop-j.j es))) shows in
    let next = Checked-next c.args.plan.now c.args.interface s es c.loop-j.j c.loop-j.count e _ c.known-known.result here number known c.loop-j.invariant.checked
    c.requires.interface c.judge.ensures.low c.judge.ensures.high in
    let count : c.count_with-count.result ≡ counted c.loop-j.count (slice_index_or c.args.numbers.now c.loop-j.j None) (is_some c.known-known.result) =
    c.count_with-count.ensures ∙ ap (counted c.loop-j.count (slice_index_or c.args.numbers.now c.loop-j.j None)) c.is_some.ensures in
    record {
      checked = subst (Checked c.args.plan.now c.args.interface s es (c.loop-j.j + 1)) (sym count)
          (next (ap (judged (is_foreign c.args.plan.now c.args.interface e) e c.known-known.result) (sym count) ∙ sym c.judge.ensures.fault ∙ c.in_ok-judge.was));
      brings = ap (λ (b : Bool). b || c.is_none-brings.result) c.loop-j.invariant.brings
          ∙ ap (λ (b : Bool). list_any test (take c.loop-j.j es) || b) (none-is c.shown-shown.result c.is_none-brings.result c.is_none-brings.ensures ∙ ap is_none shows)
          ∙ any-next test es c.loop-j.j e here;
      noted = noted-more s.prefixes es c.loop-j.j e c.loop-j.noted.flags c.note-may_repeat.new.self.flags here c.loop-j.invariant.noted c.note-may_repeat.ensures.kept
          (λ k is. c.note-may_repeat.ensures.noted k (number ∙ is));
    }

pub known-known-requires-clause-new : goal.known-known-requires-clause-new
known-known-requires-clause-new g c = λ down e here.
    let s = g.T.Table.state c.args.table.now in
    let es = c.args.entries.now in
    let number = number-here s.prefixes es c.args.numbers.now c.loop-j.j e c.requires.numbers here in
    new-noted s.prefixes (take c.loop-j.j es) e.prefix
    (slice_index_or c.args.numbers.now c.loop-j.j None) c.loop-j.noted.flags c.note-may_repeat.result c.loop-j.invariant.noted number c.note-may_repeat.ensures.fresh
    (λ none. (c.note-may_repeat.ensures.unnumbered none).0) down

pub returns : goal.returns
returns g c =
    let s = g.T.Table.state c.args.table.now in
    let es = c.args.entries.now in
    let ck = c.loop-j.invariant.checked in
    let all = take-end es c.loop-j.j (omega (arith, c.loop-j-test)) in (
      (ck.state, ap (joined_entries c.args.plan.now c.args.interface (with_heard s c.args.interface)) (sym all) ∙ ck.joined, ck.valid),
      c.loop-j.invariant.brings ∙ ap (list_any (λ e. is_none (s.shows c.args.interface e.prefix))) all,
    )
