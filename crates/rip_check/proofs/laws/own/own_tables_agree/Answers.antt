use Rattle.rip_check.proofs.RoundTripLemmas.{hold_alike, name_alike, one_equation, right_alike}
use Rattle.rip_check.proofs.laws.own.own_tables_agree.Goals as goal

pub returns-clause-equation : goal.returns-clause-equation
returns-clause-equation c k = one_equation k

pub returns-clause-holds : goal.returns-clause-holds
returns-clause-holds c k = hold_alike k

pub returns-clause-names : goal.returns-clause-names
returns-clause-names c k = name_alike k

pub returns-clause-right : goal.returns-clause-right
returns-clause-right c k = right_alike k
