use Rattle.std.proofs.Common.{List, refl, subst}
use Rattle.rip_wire.specs.Prefix.{Block}
use Rattle.rip_check.specs.Cases.{network_of, plan_of, state_of}
use Rattle.rip_check.specs.Networks.{network_at}
use Rattle.rip_check.specs.OwnSettled.{OwnHolds}
use Rattle.rip_routes.specs.OwnTables.{route_at}
use Rattle.rip_check.specs.OwnVerdicts.{IsWrong}
use Rattle.rip_check.proofs.OwnWrongLemmas.{told_unheard}
use Rattle.rip_check.proofs.own_audit.own_place.Goals as goal

pub returns-in-Some-clause-some : goal.returns-in-Some-clause-some
returns-in-Some-clause-some g c =
    let n = plan_of c.args.case.now in
    let state = state_of c.args.case.now in
    let t = g.G.RouteTables.tables c.args.tables.now in
    let same = told_unheard n state c.requires.told.unheard in
    let wrong : IsWrong n state c.args.router c.args.case.now.prefix (route_at t c.args.router c.args.case.now.prefix) c.in-Some.wrong = rw same at (rw c.in-Some.is at c.requires.some) in
    (refl, refl, record { metric = c.metric.ensures; wrong = wrong })

pub returns-in-None-clause-none : goal.returns-in-None-clause-none
returns-in-None-clause-none g c =
    let n = plan_of c.args.case.now in
    let state = state_of c.args.case.now in
    let t = g.G.RouteTables.tables c.args.tables.now in
    let r = c.args.router in
    let p = c.args.case.now.prefix in
    let same = told_unheard n state c.requires.told.unheard in
    let holds : OwnHolds (network_of c.args.case.now) state r p (route_at t r p) = rw same at (rw c.in-None.is at c.requires.none) in
    subst (λ (x : List Block). OwnHolds (network_at n x p) state r p (route_at t r p)) c.requires.told.prefixes holds
