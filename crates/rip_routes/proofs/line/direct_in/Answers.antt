use Rattle.rip_routes.proofs.PlanLemmas.{direct_is}
use Rattle.rip_routes.proofs.line.direct_in.Goals as goal

pub returns : goal.returns
returns c = direct_is c.args.plan.now c.lawful.ensures c.args.router c.args.prefix c.direct.result c.direct.ensures.planned c.direct.ensures.unplanned
