use Rattle.rip_check.proofs.AlikeLemmas.{less_poison, still_right}
use Rattle.rip_check.proofs.laws.less_poison.Goals as goal

pub returns-clause-shows : goal.returns-clause-shows
returns-clause-shows c = less_poison

pub returns-clause-right : goal.returns-clause-right
returns-clause-right c = still_right

pub returns-clause-settled : goal.returns-clause-settled
returns-clause-settled c n m s plan has (T, shows, right) = (T, less_poison n m s T plan has shows right, still_right n m _ T has right)
