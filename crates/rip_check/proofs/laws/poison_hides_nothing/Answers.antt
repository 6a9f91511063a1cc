use Rattle.rip_check.proofs.PoisonLemmas.{poison}
use Rattle.rip_check.proofs.laws.poison_hides_nothing.Goals as goal

pub returns : goal.returns
returns c k settled = poison k.net k.shown k.tables k.plan k.shows settled
