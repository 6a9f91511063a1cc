use Rattle.std.proofs.Common.{◌<◌, ◌∙◌, ap, sym, arith, decimal, length, length-set, ℕ}
use Rattle.rip_report.specs.Written.{line}
use Rattle.rip_report.proofs.TextLemmas.{text-next}
use Rattle.rip_report.proofs.texts.make_metrics.Goals as goal

pub loop-number-preserved : goal.loop-number-preserved
loop-number-preserved c =
    let inv = c.loop-number.invariant in
    let within : c.loop-number.number < length c.loop-number.texts = omega (arith, inv.size, c.loop-number-test.true) in
    record {
      size = rw length-set inv.size;
      made = λ m low lt.
          text-next c.loop-number.texts c.loop-number.number m c.of_metric.result (line (decimal m)) within lt
          (λ less. inv.made m low less)
          (λ same. c.of_metric.ensures ∙ ap (λ (n : ℕ). line (decimal n)) (sym same));
    }

pub returns : goal.returns
returns c m low high = c.loop-number.invariant.made m low (omega (arith, c.loop-number-test.false, high))
