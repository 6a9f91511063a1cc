use Rattle.rip_capture.proofs.FileLemmas.{fault-on}
use Rattle.rip_capture.proofs.laws.early_faults.Goals as goal

pub returns : goal.returns
returns c = fault-on
