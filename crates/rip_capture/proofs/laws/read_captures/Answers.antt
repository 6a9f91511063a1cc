use Rattle.rip_capture.proofs.ReaderLemmas.{read-capture}
use Rattle.rip_capture.proofs.laws.read_captures.Goals as goal

pub returns : goal.returns
returns c = λ format now taken frames read. read-capture format now taken frames read
