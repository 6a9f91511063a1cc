use Rattle.std.proofs.Common.{◌≡◌, ◌<◌, ℕ, Some}
use Rattle.std.specs.Prelude.{slice_get}
use Rattle.rip_plan.specs.Relations.{IsInterface}
use Rattle.rip_plan.proofs.plan.Plan.number_on.Given as goal

abbrev pub invariant-loop-j : goal.invariant-loop-j
invariant-loop-j l = (k i c : ℕ) → k < l.j → slice_get l.numbers k ≡ Some i → IsInterface l.self i l.router l.link c → ⊥
