use Rattle.rip_log.proofs.LogRelations.{IsTaken-more, IsTaken-end, IsTaken-fault}
use Rattle.rip_log.proofs.laws.whole_runs.Goals as goal

pub returns-clause-more : goal.returns-clause-more
returns-clause-more c = IsTaken-more

pub returns-clause-end : goal.returns-clause-end
returns-clause-end c = IsTaken-end

pub returns-clause-fault : goal.returns-clause-fault
returns-clause-fault c = IsTaken-fault
