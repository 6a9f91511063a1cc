use Rattle.std.proofs.Common.{◌≡◌, true, false, refl}
use Rattle.rip_plan.proofs.PlanAnswerLemmas.{exchanges_exact}
use Rattle.rip_plan.proofs.plan.Plan.exchanges.Goals as goal

pub returns-else-is_listed : goal.returns-else-is_listed
returns-else-is_listed c =
    exchanges_exact c.args.self.now c.lawful.ensures c.args.link c.args.prefix c.carries.result (c.if-not-has_list.ensures.has.0 refl)
    (λ is. let clash : false ≡ true = c.if-is_listed.ensures.1 is in absurd cc) c.carries.ensures.planned c.carries.ensures.unplanned
