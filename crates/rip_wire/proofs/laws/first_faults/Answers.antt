use Rattle.rip_wire.proofs.FaultLemmas.{wire_fault, wire_fault_told}
use Rattle.rip_wire.proofs.laws.first_faults.Goals as goal

pub returns : goal.returns
returns c b code at = (wire_fault b (record { code = code; at = at }), wire_fault_told b code at)
