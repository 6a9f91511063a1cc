use Rattle.rip_check.proofs.AlikeTableLemmas.{new_alike, outcome_to}
use Rattle.rip_check.proofs.laws.tables_without_poison.Goals as goal

pub returns-clause-new : goal.returns-clause-new
returns-clause-new c = new_alike

pub returns-clause-outcome : goal.returns-clause-outcome
returns-clause-outcome c n m old s log refusal alike is = outcome_to n m alike old log s refusal is
