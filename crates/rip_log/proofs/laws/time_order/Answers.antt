use Rattle.rip_log.proofs.TimeLemmas.{text_order}
use Rattle.rip_log.proofs.laws.time_order.Goals as goal

pub returns : goal.returns
returns c = text_order
