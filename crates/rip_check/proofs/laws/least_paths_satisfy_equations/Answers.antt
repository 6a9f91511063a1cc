use Rattle.rip_check.proofs.ConverseLemmas.{holds}
use Rattle.rip_check.proofs.laws.least_paths_satisfy_equations.Goals as goal

pub returns : goal.returns
returns c k right = holds k.net k.shown k.tables k.plan k.shows right
