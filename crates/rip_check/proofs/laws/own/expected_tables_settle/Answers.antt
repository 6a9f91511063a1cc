use Rattle.rip_check.proofs.ExpectedOwnLemmas.{expected_are_right, expected_settle}
use Rattle.rip_check.proofs.laws.own.expected_tables_settle.Goals as goal

pub returns-clause-right : goal.returns-clause-right
returns-clause-right c n t are = expected_are_right n t are

pub returns-clause-settle : goal.returns-clause-settle
returns-clause-settle c n told t plan own by are = expected_settle n t are told plan own by
