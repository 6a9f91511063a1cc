use Rattle.rip_wire.proofs.ViewLemmas.{groups_are_entries}
use Rattle.rip_wire.proofs.datagram.Datagram.len.Goals as goal

pub returns-clause-entries : goal.returns-clause-entries
returns-clause-entries c is =
    groups_are_entries c.args.self.now.bytes.now c.args.self.now.whole.readable is
