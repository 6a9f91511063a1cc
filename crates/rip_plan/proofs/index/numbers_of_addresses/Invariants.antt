use Rattle.std.proofs.Common.{◌≡◌, ℕ, drop}
use Rattle.std.specs.HashMap.{get}
use Rattle.rip_plan.specs.Addresses.{holder_at}
use Rattle.rip_plan.specs.Network.{pair_eq}
use Rattle.rip_plan.proofs.index.numbers_of_addresses.Given as goal

abbrev pub invariant-loop-k : goal.invariant-loop-k
invariant-loop-k l = (link address : ℕ) → get pair_eq l.numbers (link, address) ≡ holder_at link address (drop l.k l.held)
