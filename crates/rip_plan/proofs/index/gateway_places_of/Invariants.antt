use Rattle.std.proofs.Common.{◌≡◌, map, take}
use Rattle.rip_plan.specs.Network.{numbers_where, has_gateway, each_below}
use Rattle.rip_plan.proofs.index.gateway_places_of.Given as goal

abbrev pub invariant-loop-i : goal.invariant-loop-i
invariant-loop-i l = map (λ w. w.items) l.all.items ≡ each_below l.prefixes (λ k. numbers_where (has_gateway k) 0 (take l.i l.places))
