use Rattle.std.proofs.Common.{arith}
use Rattle.rip_routes.proofs.PlanLemmas.{direct_bounds}
use Rattle.rip_routes.proofs.line.metric_here.Goals as goal

pub unwrap-requires : goal.unwrap-requires
unwrap-requires c = grind (arith, direct_bounds c.args.plan.now c.lawful.ensures c.args.router c.args.prefix)
