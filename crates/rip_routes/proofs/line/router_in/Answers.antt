use Rattle.std.proofs.Common.{◌∙◌, ap}
use Rattle.rip_plan.specs.Names.{number_of_name}
use Rattle.rip_routes.proofs.PlanLemmas.{named, unnamed}
use Rattle.rip_routes.proofs.line.router_in.Goals as goal

pub returns-in-Ok : goal.returns-in-Ok
returns-in-Ok c =
    let n = c.args.plan.now in
    named n.routers c.lawful.ensures.router_names_differ c.in-Ok.text.now c.router_named.result c.router_named.ensures ∙ ap (λ name. number_of_name name n.routers) c.in-Ok.ensures.cases.0

pub returns-in-Err : goal.returns-in-Err
returns-in-Err c =
    let n = c.args.plan.now in
    unnamed n.routers c.lawful.ensures.router_names_differ c.lawful.ensures.router_named c.names.ensures.ascii c.args.name.now c.in-Err.ensures.cases.0
