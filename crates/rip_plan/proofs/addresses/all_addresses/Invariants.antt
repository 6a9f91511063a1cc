use Rattle.std.proofs.Common.{◌≡◌, ◌++◌, drop, map}
use Rattle.rip_plan.specs.Addresses.{held_from}
use Rattle.rip_plan.proofs.addresses.all_addresses.Given as goal

abbrev pub invariant-loop-i : goal.invariant-loop-i
invariant-loop-i l = l.held.items ++ held_from l.i (drop l.i l.interfaces) (drop l.i (map (λ w. w.items) l.also)) ≡ held_from 0 l.interfaces (map (λ w. w.items) l.also)
