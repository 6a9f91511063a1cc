use Rattle.rip_report.proofs.OutLemmas.{adds_then}
use Rattle.rip_report.proofs.lines.verdicts.push_wrong_way.Goals as goal

pub returns-in-Over : goal.returns-in-Over
returns-in-Over g c = rw c.in-Over.is (adds_then c.push.ensures (adds_then c.push_link.ensures c.push-in-Over.ensures))

pub returns-in-Here : goal.returns-in-Here
returns-in-Here g c = rw c.in-Here.is c.push-in-Here.ensures

pub returns-in-Unreachable : goal.returns-in-Unreachable
returns-in-Unreachable g c = rw c.in-Unreachable.is c.push-in-Unreachable.ensures
