use Rattle.rip_check.proofs.JudgingLemmas.{tables_are_right, places_are_settled}
use Rattle.rip_check.proofs.laws.settled_places.Goals as goal

pub returns : goal.returns
returns c n shown plan = (tables_are_right n shown plan, places_are_settled n shown plan)
