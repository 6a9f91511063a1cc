use Rattle.rip_capture.proofs.LengthLemmas.{capture-short}
use Rattle.rip_capture.proofs.laws.short_packets.Goals as goal

pub returns : goal.returns
returns c = capture-short
