use Rattle.rip_plan.proofs.PlanAnswerLemmas.{carries_exact}
use Rattle.rip_plan.proofs.plan.Plan.is_place.Goals as goal

pub returns : goal.returns
returns c = carries_exact c.args.self.now c.args.link c.args.prefix c.is_carrier.result c.is_carrier.ensures
