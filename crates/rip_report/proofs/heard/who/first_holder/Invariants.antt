use Rattle.std.proofs.Common.{ℕ, ◌<◌}
use Rattle.rip_plan.specs.Relations.{HasAddress}
use Rattle.rip_report.proofs.heard.who.first_holder.Given as goal

-- no interface before has it
abbrev pub invariant-loop-i : goal.invariant-loop-i
invariant-loop-i l = record {
  none : (j link : ℕ) → j < l.i → HasAddress l.plan j link l.address → ⊥;
}
