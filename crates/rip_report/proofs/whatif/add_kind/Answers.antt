use Rattle.std.proofs.Common.{◌≡◌, arith}
use Rattle.std.specs.Prelude.{Decides}
use Rattle.std.proofs.lemmas.Bool.Decides.{not_from_Decides}
use Rattle.rip_check.proofs.CountLemmas.{counts, passes_by}
use Rattle.rip_report.specs.WhatifText.{LosesOne, OneText, count_of}
use Rattle.rip_report.proofs.OutLemmas.{one_more}
use Rattle.rip_report.proofs.whatif.add_kind.Goals as goal
use Rattle.rip_report.proofs.whatif.add_kind.Goals.{then-add_failure, else-add_failure}

pub loop-number-preserved : goal.loop-number-preserved
loop-number-preserved g c =
    let n = c.args.plan.now in
    let k = c.loop-number.number in
    let was = c.loop-number.invariant in
    let Loser = LosesOne n c.args.kind in
    let so = one_more (OneText n c.args.all c.args.kind) k was.so_far (rw c.failure_of-failure.ensures at c.add_failure.ensures.text) in
    let loses : Decides c.add_failure.result (Loser k) = rw c.failure_of-failure.ensures at c.add_failure.ensures.loses in
    elim c.if-add_failure.branch [
      | then-add_failure w ↦ rw w.count-is (record {
        so_far = so;
        room = c.add_failure.ensures.room;
        counted = counts Loser k c.loop-number.count (loses.0 w.if-add_failure.true) was.counted;
        few = omega (arith, was.few);
      })
      | else-add_failure w ↦ rw w.count-is (record {
        so_far = so;
        room = c.add_failure.ensures.room;
        counted = passes_by Loser k c.loop-number.count (not_from_Decides _ loses w.if-add_failure.false) was.counted;
        few = omega (arith, was.few);
      })
    ]

pub returns-clause-count : goal.returns-clause-count
returns-clause-count g c =
    let all : c.loop-number.number ≡ count_of c.args.plan.now c.args.kind = omega (arith, c.loop-number-test.false, c.loop-number.auto.number-end, c.count_of-number-end.ensures) in
    rw all at c.loop-number.invariant.counted

pub returns-clause-text : goal.returns-clause-text
returns-clause-text g c =
    let all : c.loop-number.number ≡ count_of c.args.plan.now c.args.kind = omega (arith, c.loop-number-test.false, c.loop-number.auto.number-end, c.count_of-number-end.ensures) in
    rw all at c.loop-number.invariant.so_far
