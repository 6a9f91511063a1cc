use Rattle.rip_log.proofs.TimeLemmas.{one_second_text, second_front}
use Rattle.rip_log.proofs.laws.second_texts.Goals as goal

pub returns-clause-text : goal.returns-clause-text
returns-clause-text c = one_second_text

pub returns-clause-front : goal.returns-clause-front
returns-clause-front c = second_front
