use Rattle.rip_wire.proofs.MessageLemmas.{response_again}
use Rattle.rip_wire.proofs.ResponseLemmas.{fields_response, response_fields}
use Rattle.rip_wire.proofs.laws.response_fields.Goals as goal

pub returns-clause-exact : goal.returns-clause-exact
returns-clause-exact c entries b = (response_fields b entries, fields_response b entries)

pub returns-clause-spelled : goal.returns-clause-spelled
returns-clause-spelled c entries b spelled = response_fields b entries (response_again b entries spelled)
