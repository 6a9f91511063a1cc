use Rattle.std.proofs.Common.{◌≡◌, ◌-◌}
use Rattle.rip_plan.specs.Passes.{first_bare}
use Rattle.rip_plan.proofs.passes.first_without_interface.Given as goal

abbrev pub invariant-loop-r : goal.invariant-loop-r
invariant-loop-r l = first_bare l.interfaces l.r (l.routers - l.r) ≡ first_bare l.interfaces 0 l.routers
