use Rattle.rip_plan.specs.Relations.{IsLawful}
use Rattle.rip_plan.proofs.PlanAnswerLemmas.{found_exact, found_below}
use Rattle.rip_plan.proofs.plan.Plan.find.Goals as goal

pub returns : goal.returns
returns c =
    let laws : IsLawful c.args.self.now = c.lawful.ensures in
    record {
      exact = found_exact c.args.self.now laws c.args.link_name.now c.args.address c.number_at.result c.number_at.ensures;
      below = found_below c.args.self.now c.args.link_name.now c.args.address c.number_at.result c.number_at.ensures;
      value = c.number_at.ensures;
    }
