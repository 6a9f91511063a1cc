use Rattle.rip_routes.proofs.PlanLemmas.{on_link_exact, one_test}
use Rattle.rip_routes.proofs.line.is_on.Goals as goal

pub returns : goal.returns
returns c = one_test c.is_on.result _ c.is_on.ensures (on_link_exact c.args.plan.now c.args.router c.args.link)
