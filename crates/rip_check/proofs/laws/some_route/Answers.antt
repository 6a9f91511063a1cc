use Rattle.rip_check.proofs.OverLemmas.{some_way}
use Rattle.rip_check.proofs.laws.some_route.Goals as goal

pub returns : goal.returns
returns c n r p m plan = some_way n plan p r m
