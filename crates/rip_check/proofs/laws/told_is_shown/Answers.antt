use Rattle.rip_check.proofs.LessPoisonLemmas.{told_is_shown}
use Rattle.rip_check.proofs.laws.told_is_shown.Goals as goal

pub returns : goal.returns
returns c = told_is_shown
