use Rattle.rip_report.proofs.OutLemmas.{adds_then}
use Rattle.rip_report.proofs.own.lines.push_wrong.Goals as goal

pub returns-in-Over : goal.returns-in-Over
returns-in-Over g c = rw c.in-Over.is (adds_then (adds_then c.push-in-Over.ensures c.push_link.ensures) c.push-in-Over-2.ensures)

pub returns-in-Neighbour : goal.returns-in-Neighbour
returns-in-Neighbour g c = rw c.in-Neighbour.is
    (adds_then (adds_then (adds_then (adds_then c.push-in-Neighbour.ensures c.push_router.ensures) c.push-in-Neighbour-2.ensures) c.push_link-in-Neighbour.ensures) c.push-in-Neighbour-3.ensures)

pub returns-in-Nobody : goal.returns-in-Nobody
returns-in-Nobody g c = rw c.in-Nobody.is (adds_then c.push-in-Nobody.ensures c.push_address.ensures)
