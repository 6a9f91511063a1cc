use Rattle.rip_check.proofs.OverLemmas.{no_way_back}
use Rattle.rip_check.proofs.laws.no_way_back.Goals as goal

pub returns : goal.returns
returns c n r p l m plan = no_way_back n plan p r l m
