use Rattle.std.proofs.Common.{◌≡◌, List, Ok, length, take}
use Rattle.rip_wire.specs.declared.entry.Entry.{Entry}
use Rattle.rip_wire.specs.Message.{entries_at}
use Rattle.rip_wire.proofs.entries.read_entries.Given as goal

abbrev pub invariant-loop-i : goal.invariant-loop-i
invariant-loop-i l = record {
  size : length l.room ≡ 25;
  front : (es : List Entry) → entries_at l.count 4 l.bytes ≡ Ok es → take l.i l.room ≡ take l.i es;
}
