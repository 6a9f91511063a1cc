use Rattle.rip_wire.proofs.NameLemmas.{is_name-gives, is_name-holds}
use Rattle.rip_wire.proofs.laws.names.Goals as goal

pub returns-clause-exact : goal.returns-clause-exact
returns-clause-exact c text = (is_name-gives text, is_name-holds text)
