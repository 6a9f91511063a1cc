use Rattle.rip_plan.proofs.PlanAnswerLemmas.{direct_exact}
use Rattle.rip_plan.proofs.plan.Plan.direct_cost.Goals as goal

pub returns : goal.returns
returns c = direct_exact c.args.self.now c.lawful.ensures c.args.router c.args.prefix c.cost_at.result c.cost_at.ensures
