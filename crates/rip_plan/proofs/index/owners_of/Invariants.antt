use Rattle.std.proofs.Common.{◌≡◌, ◌*◌, ◌<◌, ℕ, drop, length}
use Rattle.rip_plan.specs.Network.{first_owned}
use Rattle.rip_plan.specs.Rows.{owner_cell}
use Rattle.rip_plan.proofs.index.owners_of.Given as goal

abbrev pub invariant-loop-i : goal.invariant-loop-i
invariant-loop-i l = (length l.owners.items ≡ l.routers * l.prefixes)
    × ((r k : ℕ) → k < l.prefixes → owner_cell l.prefixes l.owners.items r k ≡ first_owned r k l.i (drop l.i l.places))
