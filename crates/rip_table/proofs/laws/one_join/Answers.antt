use Rattle.rip_table.proofs.OneJoinLemmas.{one_join}
use Rattle.rip_table.proofs.laws.one_join.Goals as goal

pub returns : goal.returns
returns c n old s t log differ_s differ_t first second = one_join n old log s t differ_s differ_t first second
