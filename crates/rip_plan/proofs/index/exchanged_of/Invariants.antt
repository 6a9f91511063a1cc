use Rattle.std.proofs.Common.{◌≡◌, ℕ, take}
use Rattle.std.specs.HashSet.{contains}
use Rattle.std.specs.List.{list_any}
use Rattle.rip_wire.specs.Prefix.{Block}
use Rattle.rip_plan.specs.Network.{is_item, same_item}
use Rattle.rip_plan.proofs.index.exchanged_of.Given as goal

abbrev pub invariant-loop-k : goal.invariant-loop-k
invariant-loop-k l = (link : ℕ) (p : Block) → contains same_item l.exchanged (link, p) ≡ list_any (is_item link p) (take l.k l.listed)
