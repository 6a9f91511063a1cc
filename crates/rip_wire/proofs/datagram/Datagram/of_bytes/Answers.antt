use Rattle.rip_wire.proofs.ViewLemmas.{whole}
use Rattle.rip_wire.proofs.datagram.Datagram.of_bytes.Goals as goal

pub invariant_of-result : goal.invariant_of-result
invariant_of-result c = record { whole = whole c.args.bytes.now c.requires }
