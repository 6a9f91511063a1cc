use Rattle.rip_report.proofs.SaidFileLemmas.{stopped-on}
use Rattle.rip_report.proofs.laws.stopped_logs.Goals as goal

pub returns : goal.returns
returns c = stopped-on
