use Rattle.std.proofs.Common.{◌≡◌, ◌<◌, ℕ, Some, length}
use Rattle.std.specs.List.{slice_get}
use Rattle.rip_wire.specs.declared.entry.Entry.{Entry}
use Rattle.rip_plan.specs.Network.{number_of_prefix}
use Rattle.rip_table.proofs.list.numbers_of.Given as goal

abbrev pub invariant-loop-j : goal.invariant-loop-j
invariant-loop-j l = record {
  room : length l.numbers ≡ 25;
  found : (k : ℕ) (e : Entry) → k < l.j → slice_get l.entries k ≡ Some e → slice_get l.numbers k ≡ Some (number_of_prefix e.prefix l.prefixes);
}
