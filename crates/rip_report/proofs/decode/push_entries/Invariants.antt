use Rattle.rip_wire.specs.Datagram.{entries_of, message_of}
use Rattle.rip_report.specs.DecodeText.{entry_line}
use Rattle.rip_report.proofs.LoopLemmas.{AddsFirst}
use Rattle.rip_report.proofs.decode.push_entries.Given as goal

abbrev pub invariant-loop-i : goal.invariant-loop-i
invariant-loop-i g l = AddsFirst entry_line (entries_of (message_of l.datagram)) l.i l.fn.out l.out
