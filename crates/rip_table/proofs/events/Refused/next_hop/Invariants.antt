use Rattle.std.proofs.Common.{◌≡◌, drop}
use Rattle.rip_wire.specs.Datagram.{entries_of, message_of}
use Rattle.rip_table.specs.Events.{hop_among}
use Rattle.rip_table.proofs.events.Refused.next_hop.Given as goal

abbrev pub invariant-entries : goal.invariant-entries
invariant-entries l =
    hop_among l.plan l.self.interface l.prefix (entries_of (message_of l.self.datagram.now)) ≡ hop_among l.plan l.self.interface l.prefix (drop l.k (entries_of (message_of l.self.datagram.now)))
