use Rattle.rip_capture.proofs.FileLemmas.{capture-right, captures-one, faults-one}
use Rattle.rip_capture.proofs.laws.one_reading.Goals as goal

pub returns-clause-frames : goal.returns-clause-frames
returns-clause-frames c = captures-one

pub returns-clause-right : goal.returns-clause-right
returns-clause-right c = capture-right

pub returns-clause-fault : goal.returns-clause-fault
returns-clause-fault c = faults-one
