use Rattle.rip_table.proofs.LastingLemmas.{closed-lasts, new-lasts, once, over, passed-lasts, said-lasts}
use Rattle.rip_table.proofs.laws.lasting_scenes.Goals as goal

pub returns-clause-new : goal.returns-clause-new
returns-clause-new c = new-lasts

pub returns-clause-said : goal.returns-clause-said
returns-clause-said c = said-lasts

pub returns-clause-passed : goal.returns-clause-passed
returns-clause-passed c = passed-lasts

pub returns-clause-closed : goal.returns-clause-closed
returns-clause-closed c = closed-lasts

pub returns-clause-over : goal.returns-clause-over
returns-clause-over c = over

pub returns-clause-once : goal.returns-clause-once
returns-clause-once c = once
