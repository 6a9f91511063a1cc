use Rattle.std.proofs.Common.{◌≡◌, inr, Some, refl, arith}
use Rattle.rip_plan.specs.Relations.{IsDirect}
use Rattle.rip_plan.proofs.PrefixNetworkLemmas.{plan_network}
use Rattle.rip_check.proofs.PlanLemmas.{direct_most}
use Rattle.rip_check.proofs.offers.direct_or_16.Goals as goal

pub returns-in-Some-clause-most : goal.returns-in-Some-clause-most
returns-in-Some-clause-most c =
    let d = (c.in-Some.ensures c.in-Some.cost).0 refl in
    omega (arith, direct_most c.args.plan.now (plan_network c.args.plan.now c.lawful.ensures) c.args.router c.args.prefix c.in-Some.cost d, c.from.ensures)

pub returns-in-Some-clause-chosen : goal.returns-in-Some-clause-chosen
returns-in-Some-clause-chosen c =
    let d : IsDirect c.args.plan.now c.args.router c.args.prefix c.in-Some.cost = (c.in-Some.ensures c.in-Some.cost).0 refl in
    inr (rw c.from.ensures d)

pub returns-in-Some-clause-least : goal.returns-in-Some-clause-least
returns-in-Some-clause-least c = λ v d.
    let e : Some c.in-Some.cost ≡ Some v = (c.in-Some.ensures v).1 d in
    let e' : c.in-Some.cost ≡ v = cc e in
    omega (arith, e', c.from.ensures)

pub returns-in-None-clause-least : goal.returns-in-None-clause-least
returns-in-None-clause-least c = λ v d. cc ((c.in-None.ensures v).1 d)
