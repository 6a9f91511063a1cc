use Rattle.rip_log.proofs.TimeLemmas.{one_text, one_time}
use Rattle.rip_log.proofs.laws.time_texts.Goals as goal

pub returns-clause-text : goal.returns-clause-text
returns-clause-text c = one_text

pub returns-clause-time : goal.returns-clause-time
returns-clause-time c = one_time
