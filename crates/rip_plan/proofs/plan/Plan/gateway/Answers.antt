use Rattle.rip_plan.proofs.PlanAnswerLemmas.{gateway_planned, gateway_unplanned}
use Rattle.rip_plan.proofs.plan.Plan.gateway.Goals as goal

pub returns : goal.returns
returns c =
    let n = c.args.self.now in
    record {
      planned = gateway_planned n c.lawful.ensures c.args.router c.args.prefix c.gateway_of.result c.gateway_of.ensures;
      unplanned = gateway_unplanned n c.args.router c.args.prefix c.gateway_of.result c.gateway_of.ensures;
    }
