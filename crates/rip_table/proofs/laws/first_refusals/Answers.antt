use Rattle.std.proofs.Common.{Some}
use Rattle.rip_table.proofs.FirstLemmas.{first-refusal}
use Rattle.rip_table.proofs.laws.first_refusals.Goals as goal

pub returns : goal.returns
returns c n old k text log all few is_log is_all = first-refusal n old log all (c.logs_said.ensures k (Some text) few) is_log is_all
