use Rattle.std.proofs.Common.{◌≡◌, ℕ, take}
use Rattle.std.specs.Prelude.{nat_eq}
use Rattle.rip_plan.specs.declared.parts.Seat.TheVariants.{Link}
use Rattle.rip_plan.specs.Passes.{touched}
use Rattle.rip_plan.specs.Touches.{listed}
use Rattle.rip_plan.proofs.passes.routers_on_links.Given as goal

abbrev pub invariant-loop-i : goal.invariant-loop-i
invariant-loop-i l = (m : ℕ) → listed nat_eq l.routers m ≡ touched (take l.i l.interfaces) (Link m)
