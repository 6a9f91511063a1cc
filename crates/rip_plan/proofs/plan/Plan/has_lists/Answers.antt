use Rattle.rip_plan.proofs.PlanAnswerLemmas.{lists_exact}
use Rattle.rip_plan.proofs.plan.Plan.has_lists.Goals as goal

pub returns : goal.returns
returns c = lists_exact c.args.self.now c.self.inside.any_list (rw (← c.self.view_is) c.self.invariant.any_list)
