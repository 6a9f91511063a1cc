use Rattle.rip_check.proofs.ToldTableLemmas.{told_metrics}
use Rattle.rip_check.proofs.laws.told_metrics.Goals as goal

pub returns : goal.returns
returns c = told_metrics
