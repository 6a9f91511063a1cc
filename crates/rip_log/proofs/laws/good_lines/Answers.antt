use Rattle.rip_log.proofs.SaidRelations.{said-log, log-said, HasNoFault-records, records-HasNoFault}
use Rattle.rip_log.proofs.laws.good_lines.Goals as goal

pub returns-clause-log : goal.returns-clause-log
returns-clause-log c n text records = (said-log n text records, log-said n text records)

pub returns-clause-records : goal.returns-clause-records
returns-clause-records c all = (HasNoFault-records all, records-HasNoFault all)
