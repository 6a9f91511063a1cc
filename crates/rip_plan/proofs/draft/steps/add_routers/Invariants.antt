use Rattle.std.proofs.Common.{◌≡◌, ◌+◌, map, drop}
use Rattle.toml.specs.View.{view}
use Rattle.rip_plan.specs.Fault.{steps}
use Rattle.rip_plan.specs.Draft.{router_step, sketch}
use Rattle.rip_plan.proofs.draft.steps.add_routers.Given as goal

abbrev pub invariant-loop-i : goal.invariant-loop-i
invariant-loop-i l = steps router_step (l.i + 1) (map view (drop l.i l.items)) (sketch l.draft) ≡ steps router_step 1 (map view l.items) (sketch l.initial.draft)
