use Rattle.std.proofs.Common.{◌<◌}
use Rattle.rip_capture.proofs.ByteLemmas.{capture-bytes, fault-bytes}
use Rattle.rip_capture.proofs.laws.packet_bytes.Goals as goal

pub returns-clause-right : goal.returns-clause-right
returns-clause-right c = λ file frames capture bytes. capture-bytes (λ b. b < 256) file frames capture bytes

pub returns-clause-fault : goal.returns-clause-fault
returns-clause-fault c = λ file frames code at fault bytes. fault-bytes (λ b. b < 256) file frames code at fault bytes
