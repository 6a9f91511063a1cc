use Rattle.rip_wire.proofs.ViewLemmas.{kind_by_command}
use Rattle.rip_wire.proofs.datagram.Datagram.kind.Goals as goal

pub returns-then-self-eq1 : goal.returns-then-self-eq1
returns-then-self-eq1 c = (kind_by_command c.args.self.now.bytes.now c.args.self.now.whole.readable).0 c.if-self-eq1.true

pub returns-else-self-eq1 : goal.returns-else-self-eq1
returns-else-self-eq1 c = (kind_by_command c.args.self.now.bytes.now c.args.self.now.whole.readable).1 c.if-self-eq1.false
