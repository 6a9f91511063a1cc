use Rattle.std.proofs.Common.{refl}
use Rattle.rip_plan.proofs.plan.Plan.is_on.Goals as goal

pub returns-in-Some : goal.returns-in-Some
returns-in-Some c =
    let own = c.in-Some.ensures.some in
    (λ _. (_, rw (own.0, own.1) at own.2), λ _. refl)

pub returns-in-None : goal.returns-in-None
returns-in-None c = (λ t. cc t, λ on. absurd (c.in-None.ensures.none on))
