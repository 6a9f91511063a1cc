use Rattle.std.proofs.Common.{sym}
use Rattle.rip_routes.proofs.PlanLemmas.{named_below}
use Rattle.rip_routes.proofs.line.place_in.Goals as goal

pub returns-in-Some-prefix_in-clause-known : goal.returns-in-Some-prefix_in-clause-known
returns-in-Some-prefix_in-clause-known c =
    named_below c.args.plan.now.routers c.lawful.ensures.router_names_differ c.args.router.now c.in-Some.router (sym c.in-Some.ensures)
