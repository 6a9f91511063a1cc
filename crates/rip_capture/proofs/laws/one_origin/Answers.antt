use Rattle.rip_capture.proofs.VlanLemmas.{origin-one, origin-some}
use Rattle.rip_capture.proofs.laws.one_origin.Goals as goal

pub returns-clause-some : goal.returns-clause-some
returns-clause-some c = origin-some

pub returns-clause-one : goal.returns-clause-one
returns-clause-one c = origin-one
