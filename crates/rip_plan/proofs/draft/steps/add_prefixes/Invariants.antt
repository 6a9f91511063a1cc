use Rattle.std.proofs.Common.{◌≡◌, ◌+◌, map, drop}
use Rattle.toml.specs.View.{view}
use Rattle.rip_plan.specs.Fault.{steps}
use Rattle.rip_plan.specs.Draft.{prefix_step, sketch}
use Rattle.rip_plan.proofs.draft.steps.add_prefixes.Given as goal

abbrev pub invariant-loop-j : goal.invariant-loop-j
invariant-loop-j l = steps (prefix_step l.i) (l.j + 1) (map view (drop l.j l.items)) (sketch l.draft) ≡ steps (prefix_step l.i) 1 (map view l.items) (sketch l.initial.draft)
