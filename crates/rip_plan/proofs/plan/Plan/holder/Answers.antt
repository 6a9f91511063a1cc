use Rattle.rip_plan.proofs.LookupLemmas.{holder_exact}
use Rattle.rip_plan.proofs.plan.Plan.holder.Goals as goal

pub returns : goal.returns
returns c = holder_exact c.args.self.now c.lawful.ensures c.args.link c.args.address c.number_with.result c.number_with.ensures
