use Rattle.rip_log.proofs.SaidRelations.{AreAllSaid-all_said, all_said-AreAllSaid}
use Rattle.rip_log.proofs.laws.said_lines.Goals as goal

pub returns : goal.returns
returns c text all = (AreAllSaid-all_said c.judged_lines.ensures c.address_texts.ensures.exact text all, all_said-AreAllSaid c.judged_lines.ensures c.address_texts.ensures.exact text all)
