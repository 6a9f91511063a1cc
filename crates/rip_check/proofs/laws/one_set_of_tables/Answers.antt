use Rattle.rip_check.proofs.ReadableLemmas.{one_there}
use Rattle.rip_check.proofs.laws.one_set_of_tables.Goals as goal

pub returns-clause-route : goal.returns-clause-route
returns-clause-route c n shown plan = one_there n plan shown

pub returns-clause-tables : goal.returns-clause-tables
returns-clause-tables c n shown plan T U is_T is_U r p known at = one_there n plan shown r p (T r p) (U r p) known (is_T.fits r p known at) (is_U.fits r p known at)
