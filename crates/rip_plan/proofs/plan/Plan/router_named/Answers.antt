use Rattle.rip_plan.proofs.LookupLemmas.{named_exact}
use Rattle.rip_plan.proofs.plan.Plan.router_named.Goals as goal

pub returns : goal.returns
returns c = named_exact c.args.self.now.routers c.lawful.ensures.router_names_differ c.args.name.now c.router_number.result c.router_number.ensures
