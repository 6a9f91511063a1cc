use Rattle.rip_plan.specs.Relations.{IsLawful}
use Rattle.rip_plan.proofs.PlanAnswerLemmas.{direct_planned, direct_unplanned}
use Rattle.rip_plan.proofs.plan.Plan.direct.Goals as goal

pub returns : goal.returns
returns c =
    let laws : IsLawful c.args.self.now = c.lawful.ensures in
    record {
      planned = direct_planned c.args.self.now laws c.args.router c.args.prefix c.cost_of.result c.cost_of.ensures;
      unplanned = direct_unplanned c.args.self.now c.args.router c.args.prefix c.cost_of.result c.cost_of.ensures;
    }
