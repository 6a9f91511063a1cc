use Rattle.std.proofs.Common.{◌≡◌, ◌<◌, ◌≤◌, ℕ, decimal, length}
use Rattle.rip_report.specs.Texts.{IsText}
use Rattle.rip_report.specs.Written.{line}
use Rattle.rip_report.proofs.texts.make_metrics.Given as goal

abbrev pub invariant-loop-number : goal.invariant-loop-number
invariant-loop-number l = record {
  size : length l.texts ≡ 17;
  made : (m : ℕ) → 1 ≤ m → m < l.number → IsText l.texts m (line (decimal m));
}
