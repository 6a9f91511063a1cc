use Rattle.std.proofs.Common.{◌≡◌, map, take}
use Rattle.rip_plan.specs.Network.{numbers_where, is_on, each_below}
use Rattle.rip_plan.proofs.index.all_on.Given as goal

abbrev pub invariant-loop-i : goal.invariant-loop-i
invariant-loop-i l = map (λ w. w.items) l.all.items ≡ each_below l.links (λ k. numbers_where (is_on k) 0 (take l.i l.interfaces))
