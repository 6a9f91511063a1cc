use Rattle.rip_check.proofs.DescentLemmas.{right}
use Rattle.rip_check.proofs.ConverseLemmas.{holds}
use Rattle.rip_check.proofs.laws.settled_is_right.Goals as goal

pub returns : goal.returns
returns c k = (right k.net k.shown k.tables k.plan k.shows, holds k.net k.shown k.tables k.plan k.shows)
