use Rattle.std.proofs.Common.{ℕ, ◌<◌}
use Rattle.rip_plan.specs.Relations.{IsLinkName}
use Rattle.rip_report.proofs.heard.who.is_planned.Given as goal

-- no link before has the name
abbrev pub invariant-loop-link : goal.invariant-loop-link
invariant-loop-link l = record {
  none : (k : ℕ) → k < l.link → IsLinkName l.plan k l.name → ⊥;
}
