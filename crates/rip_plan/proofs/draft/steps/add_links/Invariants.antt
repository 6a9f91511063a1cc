use Rattle.std.proofs.Common.{◌≡◌, ◌+◌, map, drop}
use Rattle.toml.specs.View.{view}
use Rattle.rip_plan.specs.Fault.{steps}
use Rattle.rip_plan.specs.Draft.{link_step, sketch}
use Rattle.rip_plan.proofs.draft.steps.add_links.Given as goal

abbrev pub invariant-loop-i : goal.invariant-loop-i
invariant-loop-i l = steps link_step (l.i + 1) (map view (drop l.i l.items)) (sketch l.draft) ≡ steps link_step 1 (map view l.items) (sketch l.initial.draft)
