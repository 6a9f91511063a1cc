use Rattle.std.proofs.Common.{◌≡◌, Some, None, refl}
use Rattle.rip_check.specs.Cases.{network_of, state_of, told_in}
use Rattle.rip_check.proofs.LoneLemmas.{lone_here, lone_nowhere}
use Rattle.rip_check.proofs.NetLemmas.{direct_at}
use Rattle.rip_check.proofs.routes.lone_route.Goals as goal

pub returns-in-Some : goal.returns-in-Some
returns-in-Some g c =
    let case = c.args.case.now in
    let direct = (direct_at case.plan.now c.lawful.ensures.plan (state_of case) case.fits c.args.router case.prefix c.in-Some.cost c.requires.router).1 ((c.in-Some.ensures c.in-Some.cost).0 refl) in
    rw c.from.ensures (lone_here (network_of case) c.lawful.ensures.network (told_in case) c.args.router case.prefix c.requires.off c.in-Some.cost direct)

pub returns-in-None : goal.returns-in-None
returns-in-None g c =
    let case = c.args.case.now in
    lone_nowhere (network_of case) c.lawful.ensures.network (told_in case) c.args.router case.prefix c.requires.off
    (λ v direct. let none : None ≡ Some v = (c.in-None.ensures v).1 ((direct_at case.plan.now c.lawful.ensures.plan (state_of case) case.fits c.args.router case.prefix v c.requires.router).0 direct) in cc none)
