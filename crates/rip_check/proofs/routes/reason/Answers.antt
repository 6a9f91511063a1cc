use Rattle.std.proofs.Common.{inl, inr, refl, subst}
use Rattle.rip_check.specs.Cases.{told_in}
use Rattle.rip_check.specs.Surveys.{IsLoudness}
use Rattle.rip_check.proofs.ReachLemmas.{not_loud}
use Rattle.rip_check.proofs.routes.reason.Goals as goal

pub returns-in-Some : goal.returns-in-Some
returns-in-Some g c =
    let case = c.args.case.now in
    inl (c.in-Some.link, subst (IsLoudness case.plan.now (told_in case) c.args.router case.prefix _) c.in-Some.is c.reach_of.ensures.loud, refl)

pub returns-in-None : goal.returns-in-None
returns-in-None g c =
    let case = c.args.case.now in
    inr (not_loud case.plan.now (told_in case) c.args.router case.prefix _ c.reach_of.ensures.loud c.in-None.is, c.reason_there.ensures)
