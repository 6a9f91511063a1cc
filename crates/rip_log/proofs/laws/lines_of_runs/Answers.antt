use Rattle.std.proofs.Common.{[], refl}
use Rattle.rip_log.proofs.PassLemmas.{passes_trans}
use Rattle.rip_log.proofs.FollowLemmas.{IsTaken-read}
use Rattle.rip_log.proofs.laws.lines_of_runs.Goals as goal

pub returns-clause-none : goal.returns-clause-none
returns-clause-none c text = ([], refl, refl)

pub returns-clause-more : goal.returns-clause-more
returns-clause-more c = passes_trans

pub returns-clause-read : goal.returns-clause-read
returns-clause-read c = IsTaken-read c.judged_lines.ensures
