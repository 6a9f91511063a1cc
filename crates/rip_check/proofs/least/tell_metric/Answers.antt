use Rattle.std.proofs.Common.{◌≡◌, get_or, inl, inr, sym, ◌∙◌, arith}
use Rattle.std.proofs.lemmas.Bool.{cases_lt}
use Rattle.rip_check.specs.Failures.{left_to}
use Rattle.rip_check.specs.Tellings.{AreTold, IsTelling}
use Rattle.rip_check.proofs.LeftLemmas.{sound_left}
use Rattle.rip_check.proofs.TellingLemmas.{telling_then, telling_was}
use Rattle.rip_check.proofs.least.tell_metric.Goals as goal
use Rattle.rip_check.proofs.least.tell_metric.Goals.{then-from-metric, else-from-metric}

pub loop-router-preserved : goal.loop-router-preserved
loop-router-preserved c =
    let n = c.args.plan.now in
    let f = c.args.failure in
    let p = c.args.prefix in
    let m = c.args.metric in
    let left = left_to n f p in
    let sound = sound_left n c.lawful.ensures f p in
    let start = c.args.metrics.now in
    let xs = c.loop-router.metrics in
    let i = c.loop-router.router in
    let was = c.loop-router.invariant in
    elim c.if-from-metric.branch [
      | then-from-metric w ↦
          let is : get_or xs i 0 ≡ m = sym c.from.ensures ∙ w.if-from-metric.true in
          let ys = w.tell_on_all.new.metrics in
          let telling : IsTelling left p m xs ys = rw is at w.tell_on_all.ensures.telling in
          let told : AreTold left p m xs c.loop-router.marks → AreTold left p m ys w.tell_on_all.new.marks = rw is at w.tell_on_all.ensures.told in
          rw w.metrics-is (rw w.marks-is (record {
            telling = telling_then left p sound m start xs ys was.telling telling;
            told = λ before. told (was.told before);
            all = λ r lt e. elim (cases_lt r i) [
              | inl sooner ↦
                  let same = telling_was left p sound m xs ys telling r (omega (arith, e)) in
                  λ l d has off. w.tell_on_all.ensures.kept l (was.all r sooner (sym same ∙ e) l d has off)
              | inr late ↦
                  let here : r ≡ i = omega arith in
                  rw here w.tell_on_all.ensures.all
            ];
          }))
      | else-from-metric w ↦ rw w.metrics-is (rw w.marks-is (record {
        telling = was.telling;
        told = was.told;
        all = λ r lt e. elim (cases_lt r i) [
          | inl sooner ↦ was.all r sooner e
          | inr late ↦
              let here : r ≡ i = omega arith in
              let e' : get_or xs i 0 ≡ m = rw here at e in
              absurd (w.if-from-metric.false (c.from.ensures ∙ e'))
        ];
      }))
    ]

pub returns-clause-all : goal.returns-clause-all
returns-clause-all c = λ r lt e. c.loop-router.invariant.all r (omega (arith, lt, c.loop-router-test.false, c.loop-router.auto.metrics, c.loop-router.auto.router-end, c.requires.size)) e
