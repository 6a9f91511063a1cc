use Rattle.rip_check.proofs.WalkLemmas.{walks_fall, walks_end, walks_end_there, walks_go_on}
use Rattle.rip_check.proofs.laws.walks_arrive.Goals as goal

pub returns-clause-fall : goal.returns-clause-fall
returns-clause-fall c k = walks_fall k.net k.shown k.tables k.plan k.shows

pub returns-clause-end : goal.returns-clause-end
returns-clause-end c k = walks_end k.net k.shown k.tables k.plan k.shows

pub returns-clause-go_on : goal.returns-clause-go_on
returns-clause-go_on c k settled = walks_go_on k.net k.shown k.tables k.plan k.shows settled

pub returns-clause-there : goal.returns-clause-there
returns-clause-there c k settled = walks_end_there k.net k.shown k.tables k.plan k.shows settled
