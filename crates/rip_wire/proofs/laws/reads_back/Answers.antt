use Rattle.rip_wire.proofs.MessageLemmas.{response_again}
use Rattle.rip_wire.proofs.laws.reads_back.Goals as goal

pub returns : goal.returns
returns c entries b spelled = response_again b entries spelled
