use Rattle.rip_check.proofs.HeardLemmas.{same_told, same_verdict}
use Rattle.rip_check.proofs.laws.unheard_silence.Goals as goal

pub returns-clause-heard : goal.returns-clause-heard
returns-clause-heard c = same_told

pub returns-clause-verdict : goal.returns-clause-verdict
returns-clause-verdict c = same_verdict
