use Rattle.rip_report.proofs.OutLemmas.{adds_then}
use Rattle.rip_report.proofs.decode.push_fault_line.Goals as goal

pub returns : goal.returns
returns g c = adds_then (adds_then c.push.ensures c.push_wire_fault.ensures) c.end.ensures
