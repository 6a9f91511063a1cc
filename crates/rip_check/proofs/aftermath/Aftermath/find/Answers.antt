use Rattle.std.proofs.Common.{◌<◌, ◌≡◌, ℕ, ◌+◌, ◌*◌, inl, inr, List, take, drop, ◌++◌, get_or, length, ◌∙◌, ap, arith}
use Rattle.std.proofs.Math.Seq.{take-append_seam}
use Rattle.std.proofs.lemmas.Bool.{cases_lt}
use Rattle.std.proofs.lemmas.List.{length-set}
use Rattle.std.proofs.lemmas.Option.{slice_get_within}
use Rattle.rip_check.proofs.StepLemmas.{after_write}
use Rattle.rip_check.proofs.aftermath.Aftermath.find.Goals as goal

pub loop-prefix-preserved : goal.loop-prefix-preserved
loop-prefix-preserved c =
    let n = c.args.plan.now in
    let count = length n.prefixes in
    let is = c.loop-prefix.invariant in
    let k = c.loop-prefix.prefix in
    let old = c.loop-prefix.self.metrics in
    let marks = c.loop-prefix.self.gone in
    let new = c.keep.new.metrics in
    let e : old.len ≡ length new = omega (arith, c.keep.auto.metrics, c.as_mut_slice.ensures.len, old.ok.0) in
    let whole : take old.len (new ++ drop (length new) old.items) ≡ new = rw e (take-append_seam new (drop (length new) old.items)) in
    let at : k < length marks.items = omega (arith, c.loop-prefix-test.true, c.prefixes-count.ensures, is.room.gone) in
    record {
      room = record { metrics = rw whole (omega (arith, e, old.ok.0, is.room.metrics)); gone = length-set marks.items k c.is_gone.result ∙ is.room.gone };
      least = λ r p lt sooner. rw whole (elim (cases_lt p k) [
        | inl before ↦
            let kept : get_or new (r * count + p) 0 ≡ get_or old.items (r * count + p) 0 =
            rw c.prefixes-count.ensures at (c.keep.ensures.others r p (omega (arith, before, c.loop-prefix-test.true)) (λ same. omega (arith, same, before)))
            ∙ ap (λ (xs : List ℕ). get_or xs (r * count + p) 0) c.as_mut_slice.ensures.value in
            rw kept (is.least r p lt before)
        | inr late ↦
            let same : p ≡ k = omega arith in
            let kept : get_or new (r * count + k) 0 ≡ get_or c.find_after.new.row r 0 =
            rw c.prefixes-count.ensures at (c.keep.ensures.kept r (omega (arith, lt, c.find_after.auto.row, is.row))) in
            rw same (rw kept (c.find_after.ensures r lt))
      ]);
      gone = λ p b sooner got. elim (after_write marks.items k p c.is_gone.result b b at got) [
        | inl h ↦ rw h.0 (rw h.1 c.is_gone.ensures)
        | inr h ↦ is.gone p b (omega (arith, sooner, h.0)) h.1
      ];
      row = omega (arith, c.find_after.auto.row, is.row);
    }

pub returns : goal.returns
returns c =
    let n = c.args.plan.now in
    let is = c.loop-prefix.invariant in
    record {
      room = is.room;
      least = λ r p lt at. is.least r p lt (omega (arith, at, c.loop-prefix-test.false, c.prefixes-count.ensures));
      gone = λ p b got. is.gone p b (omega (arith, slice_get_within c.loop-prefix.self.gone.items p b got, is.room.gone, c.loop-prefix-test.false, c.prefixes-count.ensures)) got;
    }
