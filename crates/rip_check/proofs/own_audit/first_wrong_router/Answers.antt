use Rattle.std.proofs.Common.{below_more}
use Rattle.rip_routes.specs.OwnTables.{route_at}
use Rattle.rip_check.specs.Cases.{told_in}
use Rattle.rip_check.proofs.OwnWrongLemmas.{wrong_fails}
use Rattle.rip_check.proofs.own_audit.first_wrong_router.Goals as goal

pub returns-in-Some : goal.returns-in-Some
returns-in-Some g c =
    let n = c.args.case.now.plan.now in
    let told = told_in c.args.case.now in
    let r = c.loop-router.router in
    let p = c.args.case.now.prefix in
    (c.loop-router-test.true, c.loop-router.invariant, wrong_fails n told r p (route_at (g.G.RouteTables.tables c.args.tables.now) r p) _ c.in-Some.ensures.some)

pub loop-router-preserved : goal.loop-router-preserved
loop-router-preserved g c = below_more _ _ c.loop-router.invariant c.in-None.ensures.none
