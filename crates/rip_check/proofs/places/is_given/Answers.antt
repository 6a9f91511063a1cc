use Rattle.std.proofs.Common.{◌↔◌, subst, sym}
use Rattle.rip_plan.specs.Relations.{IsDirect}
use Rattle.rip_check.specs.Cases.{network_of, state_of, told_in}
use Rattle.rip_check.specs.Settled.{IsGiven}
use Rattle.rip_check.specs.declared.way.Way.{Way}
use Rattle.rip_check.proofs.NetLemmas.{direct_at}
use Rattle.rip_check.proofs.places.is_given.Goals as goal

pub returns-in-Here : goal.returns-in-Here
returns-in-Here g c =
    let case = c.args.case.now in
    let r = c.args.router in
    let m = c.args.route.metric in
    let by_plan : IsDirect (network_of case) r case.prefix m ↔ IsDirect case.plan.now r case.prefix m = direct_at case.plan.now c.lawful.ensures.plan (state_of case) case.fits r case.prefix m c.requires.router in (
      λ t. subst (λ (w : Way). IsGiven (network_of case) (told_in case) r case.prefix m w) (sym c.in-Here.is) (by_plan.1 (c.is_direct.ensures.0 t)),
      λ is. c.is_direct.ensures.1 (by_plan.0 (subst (λ (w : Way). IsGiven (network_of case) (told_in case) r case.prefix m w) c.in-Here.is is)),
    )
