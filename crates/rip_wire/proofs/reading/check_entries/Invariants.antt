use Rattle.rip_wire.specs.Message.{entries_at}
use Rattle.rip_wire.proofs.WalkLemmas.{EndsAs, rest_of}
use Rattle.rip_wire.proofs.reading.check_entries.Given as goal

abbrev pub invariant-loop-i : goal.invariant-loop-i
invariant-loop-i l = EndsAs (rest_of l.count l.i l.bytes) (entries_at l.count 4 l.bytes)
