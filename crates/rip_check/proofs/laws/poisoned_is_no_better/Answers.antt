use Rattle.rip_check.proofs.PoisonLemmas.{givers, silence}
use Rattle.rip_check.proofs.laws.poisoned_is_no_better.Goals as goal

pub returns-clause-over : goal.returns-clause-over
returns-clause-over c k settled = givers k settled

pub returns-clause-here : goal.returns-clause-here
returns-clause-here c k = silence k
