use Rattle.std.proofs.Common.{arith}
use Rattle.rip_wire.proofs.AnswerLemmas.{read_exact, read_response, read_request, read_no_fault, refused_response, refused_request, refused_fault, longer_fault}
use Rattle.rip_wire.proofs.reading.read.Goals as goal

pub returns-in-Ok-clause-response : goal.returns-in-Ok-clause-response
returns-in-Ok-clause-response c entries = rw c.of_bytes.ensures (read_response c.args.bytes.now entries (λ i. omega (arith, c.type_inv.bytes i)) c.in-Ok.ensures.whole.readable)

pub returns-in-Ok-clause-request : goal.returns-in-Ok-clause-request
returns-in-Ok-clause-request c = rw c.of_bytes.ensures (read_request c.args.bytes.now c.in-Ok.ensures.whole.readable)

pub returns-in-Ok-clause-refused : goal.returns-in-Ok-clause-refused
returns-in-Ok-clause-refused c code at = (λ is. absurd (cc is), λ fault. absurd (read_no_fault c.args.bytes.now code at c.in-Ok.ensures.whole.readable fault))

pub returns-in-Ok-clause-exact : goal.returns-in-Ok-clause-exact
returns-in-Ok-clause-exact c = rw c.of_bytes.ensures (read_exact c.args.bytes.now c.in-Ok.ensures.whole.readable)

pub returns-in-Err-clause-response : goal.returns-in-Err-clause-response
returns-in-Err-clause-response c entries = (λ h. absurd h, λ h. refused_response c.args.bytes.now c.in-Err.error entries c.in-Err.ensures.fault h)

pub returns-in-Err-clause-request : goal.returns-in-Err-clause-request
returns-in-Err-clause-request c = (λ h. absurd h, λ h. refused_request c.args.bytes.now c.in-Err.error c.in-Err.ensures.fault h)

pub returns-in-Err-clause-refused : goal.returns-in-Err-clause-refused
returns-in-Err-clause-refused c code at = refused_fault c.args.bytes.now c.in-Err.error code at c.in-Err.ensures.fault

pub returns-in-Err-clause-longer : goal.returns-in-Err-clause-longer
returns-in-Err-clause-longer c long more = longer_fault c.args.bytes.now more c.in-Err.error c.in-Err.ensures.fault long
