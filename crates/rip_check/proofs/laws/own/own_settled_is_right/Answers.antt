use Rattle.rip_check.proofs.OwnDescentLemmas.{own_right}
use Rattle.rip_check.proofs.OwnConverseLemmas.{own_holds}
use Rattle.rip_check.proofs.laws.own.own_settled_is_right.Goals as goal

pub returns : goal.returns
returns c n told t plan are by = (own_right n told t plan are by, own_holds n told t plan are by)
