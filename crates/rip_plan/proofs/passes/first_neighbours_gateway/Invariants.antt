use Rattle.std.proofs.Common.{◌≡◌, drop}
use Rattle.std.specs.Prelude.{find}
use Rattle.rip_plan.specs.Passes.{has_neighbours_gateway}
use Rattle.rip_plan.proofs.passes.first_neighbours_gateway.Given as goal

abbrev pub invariant-loop-k : goal.invariant-loop-k
invariant-loop-k l = find (λ p. has_neighbours_gateway l.interfaces l.held p.seat) (drop l.k l.places) ≡ find (λ p. has_neighbours_gateway l.interfaces l.held p.seat) l.places
