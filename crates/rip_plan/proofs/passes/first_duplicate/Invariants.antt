use Rattle.std.proofs.Common.{◌≡◌, [], map, take, drop}
use Rattle.std.specs.Prelude.{filter}
use Rattle.rip_wire.specs.Prefix.{Block}
use Rattle.rip_plan.specs.Passes.{do_meet, first_clash, same_prefix, touching}
use Rattle.rip_plan.specs.Touches.{listed}
use Rattle.rip_plan.proofs.passes.first_duplicate.Given as goal

abbrev pub invariant-loop-k : goal.invariant-loop-k
invariant-loop-k l =
    (first_clash (λ p q. do_meet (touching l.interfaces p) (touching l.interfaces q)) (take l.k l.places) (drop l.k l.places) ≡ first_clash
    (λ p q. do_meet (touching l.interfaces p) (touching l.interfaces q)) [] l.places)
    × ((b : Block) → listed same_prefix l.earlier b ≡ map (λ p. p.seat) (filter (λ p. same_prefix p.prefix b) (take l.k l.places)))
