use Rattle.std.proofs.Common.{◌≡◌, ◌≤◌, [], drop, length}
use Rattle.std.specs.HashMap.{get}
use Rattle.rip_wire.specs.Prefix.{Block}
use Rattle.rip_plan.specs.Network.{number_of_prefix, numbered}
use Rattle.rip_plan.specs.Passes.{same_prefix}
use Rattle.rip_plan.proofs.numbers.with_numbers.Given as goal

abbrev pub invariant-loop-place : goal.invariant-loop-place
invariant-loop-place l = (numbered l.prefixes.items l.numbered.items (drop l.place-index l.places) ≡ numbered [] [] l.places)
    × ((p : Block) → get same_prefix l.numbers p ≡ number_of_prefix p l.prefixes.items)
    × (length l.prefixes.items ≤ l.place-index)
