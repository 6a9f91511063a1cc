use Rattle.rip_log.proofs.FollowLemmas.{LogFault-ended, LogFault-at_once}
use Rattle.rip_log.proofs.laws.early_faults.Goals as goal

pub returns-clause-ended : goal.returns-clause-ended
returns-clause-ended c = LogFault-ended c.judged_lines.ensures

pub returns-clause-at_once : goal.returns-clause-at_once
returns-clause-at_once c = LogFault-at_once
