use Rattle.rip_log.proofs.LogRelations.{log_in-LogText, LogText-log_in, log_in-LogFault, LogFault-log_in}
use Rattle.rip_log.proofs.laws.log_texts.Goals as goal

pub returns-clause-text : goal.returns-clause-text
returns-clause-text c text records = (LogText-log_in c.judged_lines.ensures text records, log_in-LogText c.judged_lines.ensures text records)

pub returns-clause-fault : goal.returns-clause-fault
returns-clause-fault c text records e = (LogFault-log_in c.judged_lines.ensures text records e, log_in-LogFault c.judged_lines.ensures text records e)
