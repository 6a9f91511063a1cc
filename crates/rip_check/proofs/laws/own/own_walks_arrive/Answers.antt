use Rattle.rip_check.proofs.OwnWalkLemmas.{own_arrive}
use Rattle.rip_check.proofs.laws.own.own_walks_arrive.Goals as goal

pub returns : goal.returns
returns c n told t plan are by holds = own_arrive n told t plan are by holds
