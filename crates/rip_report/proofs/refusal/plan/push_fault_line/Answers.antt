use Rattle.rip_report.proofs.OutLemmas.{adds_then}
use Rattle.rip_report.proofs.refusal.plan.push_fault_line.Goals as goal

pub returns : goal.returns
returns g c = adds_then (adds_then (adds_then (adds_then c.push.ensures c.push_code.ensures) c.push-2.ensures) c.push_at.ensures) c.end.ensures
