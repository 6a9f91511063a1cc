use Rattle.std.proofs.Common.{◌≡◌, ◌<◌, ◌*◌, ℕ, length, take}
use Rattle.std.specs.List.{list_any}
use Rattle.rip_plan.specs.Network.{is_carrying}
use Rattle.rip_plan.specs.Rows.{flag}
use Rattle.rip_plan.proofs.index.carriers_of.Given as goal

abbrev pub invariant-loop-i : goal.invariant-loop-i
invariant-loop-i l = (length l.carriers.items ≡ l.links * l.prefixes)
    × ((m k : ℕ) → k < l.prefixes → flag l.prefixes l.carriers.items m k ≡ list_any (is_carrying m k) (take l.i l.places))
