use Rattle.rip_capture.proofs.AuthenticationRelations.{authentication-of, entries-left, tested-authentication}
use Rattle.rip_capture.proofs.laws.authentications.Goals as goal

pub returns-clause-tested : goal.returns-clause-tested
returns-clause-tested c = λ d. (authentication-of d, tested-authentication d)

pub returns-clause-left : goal.returns-clause-left
returns-clause-left c = λ d span is. entries-left d span is
