use Rattle.rip_plan.proofs.LookupLemmas.{named_exact}
use Rattle.rip_plan.proofs.plan.Plan.link_named.Goals as goal

pub returns : goal.returns
returns c = named_exact c.args.self.now.links c.lawful.ensures.link_names_differ c.args.name.now c.link_number.result c.link_number.ensures
