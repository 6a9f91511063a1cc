use Rattle.std.proofs.Common.{◌≡◌, drop}
use Rattle.std.specs.Prelude.{find}
use Rattle.rip_plan.specs.Passes.{is_astray}
use Rattle.rip_plan.proofs.passes.first_astray.Given as goal

abbrev pub invariant-loop-k : goal.invariant-loop-k
invariant-loop-k l = find (λ p. is_astray l.interfaces p.seat) (drop l.k l.places) ≡ find (λ p. is_astray l.interfaces p.seat) l.places
