use Rattle.rip_check.proofs.ExpectingLemmas.{right_expected, expected_right}
use Rattle.rip_check.proofs.laws.expected_routes.Goals as goal

pub returns : goal.returns
returns c k = (right_expected k, expected_right k)
