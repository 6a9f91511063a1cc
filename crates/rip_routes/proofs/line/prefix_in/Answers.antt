use Rattle.rip_routes.proofs.PlanLemmas.{no_prefix}
use Rattle.rip_routes.proofs.line.prefix_in.Goals as goal

pub returns-in-Err : goal.returns-in-Err
returns-in-Err c = no_prefix c.prefix_texts.ensures.ascii c.args.text.now c.in-Err.ensures.cases.0
