use Rattle.std.proofs.Common.{arith, false, refl}
use Rattle.rip_plan.specs.Network.{own_seat}
use Rattle.rip_plan.proofs.PlanAnswerLemmas.{kept_exact, none_kept}
use Rattle.rip_plan.proofs.plan.Plan.keeps.Goals as goal

pub returns-in-Some : goal.returns-in-Some
returns-in-Some c = grind (arith, kept_exact c.args.self.now c.lawful.ensures c.args.router c.args.prefix c.own_seat.result c.is_kept.result)

pub returns-in-None : goal.returns-in-None
returns-in-None c = grind (arith, kept_exact c.args.self.now c.lawful.ensures c.args.router c.args.prefix c.own_seat.result false)

pub returns-then-not-self : goal.returns-then-not-self
returns-then-not-self c = grind (arith, none_kept, kept_exact c.args.self.now c.lawful.ensures c.args.router c.args.prefix (own_seat c.args.router c.args.prefix c.args.self.now.places) false refl)
