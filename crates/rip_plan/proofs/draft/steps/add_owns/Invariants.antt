use Rattle.std.proofs.Common.{◌≡◌, ◌+◌, map, drop}
use Rattle.toml.specs.View.{view}
use Rattle.rip_plan.specs.Fault.{steps}
use Rattle.rip_plan.specs.Draft.{own_step, sketch}
use Rattle.rip_plan.proofs.draft.steps.add_owns.Given as goal

abbrev pub invariant-loop-j : goal.invariant-loop-j
invariant-loop-j l = steps (own_step l.r) (l.j + 1) (map view (drop l.j l.items)) (sketch l.draft) ≡ steps (own_step l.r) 1 (map view l.items) (sketch l.initial.draft)
