use Rattle.std.proofs.Common.{get_or}
use Rattle.rip_check.proofs.StayingLemmas.{stays}
use Rattle.rip_check.proofs.aftermath.find_after.Goals as goal

pub returns-else-touches : goal.returns-else-touches
returns-else-touches c = λ r lt.
    stays c.args.scenario.now.plan.now c.lawful.ensures c.args.scenario.now.failure c.args.scenario.now.prefix r (get_or c.fill_before.new.row r 0) lt (c.touches.ensures c.if-touches.false) (c.fill_before.ensures.up r lt)
    (c.fill_before.ensures.failed r lt)
