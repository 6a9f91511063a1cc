use Rattle.rip_table.proofs.SecondLemmas.{count-of-seconds, number-of-second}
use Rattle.rip_table.proofs.laws.running_seconds.Goals as goal

pub returns-clause-number : goal.returns-clause-number
returns-clause-number c = number-of-second

pub returns-clause-count : goal.returns-clause-count
returns-clause-count c = count-of-seconds
