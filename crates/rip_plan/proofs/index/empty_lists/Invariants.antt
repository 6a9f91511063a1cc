use Rattle.std.proofs.Common.{◌≡◌, [], map}
use Rattle.rip_plan.specs.Network.{each_below}
use Rattle.rip_plan.proofs.index.empty_lists.Given as goal

abbrev pub invariant-loop : goal.invariant-loop
invariant-loop l = map (λ w. w.items) l.lists.items ≡ each_below l.counter (λ k. [])
