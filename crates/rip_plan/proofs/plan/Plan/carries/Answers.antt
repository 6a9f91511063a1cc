use Rattle.rip_plan.specs.Relations.{IsLawful}
use Rattle.rip_plan.proofs.PlanAnswerLemmas.{carries_planned, carries_unplanned}
use Rattle.rip_plan.proofs.plan.Plan.carries.Goals as goal

pub returns : goal.returns
returns c =
    let laws : IsLawful c.args.self.now = c.lawful.ensures in
    record {
      planned = carries_planned c.args.self.now laws c.args.link c.args.prefix c.is_carrier_of.result c.is_carrier_of.ensures;
      unplanned = carries_unplanned c.args.self.now c.args.link c.args.prefix c.is_carrier_of.result c.is_carrier_of.ensures;
    }
