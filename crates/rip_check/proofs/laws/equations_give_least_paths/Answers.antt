use Rattle.rip_check.proofs.DescentLemmas.{reached, no_path_is_cheaper}
use Rattle.rip_check.proofs.laws.equations_give_least_paths.Goals as goal

pub returns-clause-reached : goal.returns-clause-reached
returns-clause-reached c k settled = reached k.net k.shown k.tables k.plan k.shows settled

pub returns-clause-least : goal.returns-clause-least
returns-clause-least c k settled = no_path_is_cheaper k.net k.shown k.tables k.plan k.shows settled
