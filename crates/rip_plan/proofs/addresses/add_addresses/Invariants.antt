use Rattle.std.proofs.Common.{◌≡◌, ◌++◌, ℕ, drop, map}
use Rattle.rip_plan.specs.declared.addresses.Held.{Held}
use Rattle.rip_plan.specs.Addresses.{held_by}
use Rattle.rip_plan.proofs.addresses.add_addresses.Given as goal

abbrev pub invariant-loop-k : goal.invariant-loop-k
invariant-loop-k l =
    let held : ℕ → Held = λ a. record { interface = l.number; link = l.fn.interface.link; address = a } in
    l.held.items ++ map held (drop l.k l.also) ≡ l.fn.held.items ++ held_by l.number l.fn.interface l.also
