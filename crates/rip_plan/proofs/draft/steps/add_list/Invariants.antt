use Rattle.std.proofs.Common.{◌≡◌, ◌+◌, map, drop}
use Rattle.toml.specs.View.{view}
use Rattle.rip_plan.specs.Fault.{steps}
use Rattle.rip_plan.specs.Draft.{listed_step, sketch}
use Rattle.rip_plan.proofs.draft.steps.add_list.Given as goal

abbrev pub invariant-loop-j : goal.invariant-loop-j
invariant-loop-j l = steps (listed_step l.i) (l.j + 1) (map view (drop l.j l.items)) (sketch l.draft) ≡ steps (listed_step l.i) 1 (map view l.items) (sketch l.initial.draft)
