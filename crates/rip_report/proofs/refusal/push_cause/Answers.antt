use Rattle.rip_report.proofs.OutLemmas.{adds_then}
use Rattle.rip_report.proofs.refusal.push_cause.Goals as goal

pub returns-in-UnknownSender : goal.returns-in-UnknownSender
returns-in-UnknownSender g c = rw c.in-UnknownSender.is (adds_then c.push_line-in-UnknownSender.ensures c.push.ensures)
