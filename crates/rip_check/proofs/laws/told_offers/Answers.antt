use Rattle.rip_check.proofs.AlikeLemmas.{told_offers}
use Rattle.rip_check.proofs.laws.told_offers.Goals as goal

pub returns : goal.returns
returns c = told_offers
