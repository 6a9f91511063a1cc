use Rattle.rip_log.proofs.LogSaidLemmas.{log-said_at}
use Rattle.rip_log.proofs.laws.logs_said.Goals as goal

pub returns : goal.returns
returns c = log-said_at
