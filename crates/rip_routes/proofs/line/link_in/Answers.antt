use Rattle.std.proofs.Common.{◌∙◌, ap}
use Rattle.rip_plan.specs.Names.{number_of_name}
use Rattle.rip_routes.proofs.PlanLemmas.{named, unnamed}
use Rattle.rip_routes.proofs.line.link_in.Goals as goal

pub returns-in-Ok : goal.returns-in-Ok
returns-in-Ok c =
    let n = c.args.plan.now in
    named n.links c.lawful.ensures.link_names_differ c.in-Ok.text.now c.link_named.result c.link_named.ensures ∙ ap (λ name. number_of_name name n.links) c.in-Ok.ensures.cases.0

pub returns-in-Err : goal.returns-in-Err
returns-in-Err c =
    let n = c.args.plan.now in
    unnamed n.links c.lawful.ensures.link_names_differ c.lawful.ensures.link_named c.names.ensures.ascii c.args.name.now c.in-Err.ensures.cases.0
