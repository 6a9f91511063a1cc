use Rattle.std.proofs.Common.{take}
use Rattle.rip_wire.proofs.WriteLemmas.{IsWritten}
use Rattle.rip_wire.proofs.writing.write_response.Given as goal

abbrev pub invariant-loop-i : goal.invariant-loop-i
invariant-loop-i l = IsWritten (take l.i l.entries) l.fn.room l.room
