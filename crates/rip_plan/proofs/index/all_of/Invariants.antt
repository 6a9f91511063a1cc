use Rattle.std.proofs.Common.{◌≡◌, map, take}
use Rattle.rip_plan.specs.Network.{numbers_where, is_of, each_below}
use Rattle.rip_plan.proofs.index.all_of.Given as goal

abbrev pub invariant-loop-i : goal.invariant-loop-i
invariant-loop-i l = map (λ w. w.items) l.all.items ≡ each_below l.routers (λ k. numbers_where (is_of k) 0 (take l.i l.interfaces))
