use Rattle.rip_capture.proofs.FileLemmas.{capture-long}
use Rattle.rip_capture.proofs.laws.long_captures.Goals as goal

pub returns : goal.returns
returns c = λ file frames capture. capture-long file frames capture
