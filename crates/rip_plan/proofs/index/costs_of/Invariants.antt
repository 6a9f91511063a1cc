use Rattle.std.proofs.Common.{◌≡◌, ◌*◌, drop, length}
use Rattle.rip_plan.specs.Rows.{AreCosts}
use Rattle.rip_plan.proofs.index.costs_of.Given as goal

abbrev pub invariant-loop-i : goal.invariant-loop-i
invariant-loop-i l = (length l.costs.items ≡ l.routers * l.prefixes) × AreCosts l.prefixes l.interfaces (drop l.i l.places) l.costs.items
