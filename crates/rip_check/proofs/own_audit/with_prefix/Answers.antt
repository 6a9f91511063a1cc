use Rattle.std.proofs.Common.{List, None, Some, subst, ◌∙◌}
use Rattle.rip_wire.specs.Prefix.{Block}
use Rattle.rip_routes.specs.OwnTables.{route_at}
use Rattle.rip_check.specs.Cases.{told_in}
use Rattle.rip_check.specs.Firsts.{IsFirstOf}
use Rattle.rip_check.specs.Networks.{network_at}
use Rattle.rip_check.specs.OwnSettled.{OwnHolds}
use Rattle.rip_check.specs.OwnVerdicts.{IsOwnSound}
use Rattle.rip_check.proofs.FirstPlaceLemmas.{IsRouterOf, next_none, next_some}
use Rattle.rip_check.proofs.own_audit.with_prefix.Goals as goal
use Rattle.rip_check.proofs.own_audit.with_prefix.Goals.{in-Some, in-None}

pub returns-in-Some-first_wrong_router : goal.returns-in-Some-first_wrong_router
returns-in-Some-first_wrong_router g c =
    let case = c.args.case.now in
    let n = case.plan.now in
    let t = g.G.RouteTables.tables c.args.tables.now in
    let p = case.prefix in
    let router : IsRouterOf n c.args.found c.match-found.below = elim c.match-found.branch [
      | in-Some w ↦ rw w.in-Some.is w.below-is
      | in-None w ↦ rw w.in-None.is (w.below-is ∙ w.routers-below.ensures)
    ] in
    let first = subst (λ (x : List Block). IsFirstOf c.match-found.below (λ r. OwnHolds (network_at n x p) (told_in case) r p (route_at t r p)) (Some c.in-Some-first_wrong_router.router))
    c.requires.prefixes c.in-Some-first_wrong_router.ensures in
    next_some n p (IsOwnSound n (told_in case) t) c.args.found c.match-found.below router c.requires.found c.in-Some-first_wrong_router.router first

pub returns-in-None-first_wrong_router : goal.returns-in-None-first_wrong_router
returns-in-None-first_wrong_router g c =
    let case = c.args.case.now in
    let n = case.plan.now in
    let t = g.G.RouteTables.tables c.args.tables.now in
    let p = case.prefix in
    let router : IsRouterOf n c.args.found c.match-found.below = elim c.match-found.branch [
      | in-Some w ↦ rw w.in-Some.is w.below-is
      | in-None w ↦ rw w.in-None.is (w.below-is ∙ w.routers-below.ensures)
    ] in
    let none = subst (λ (x : List Block). IsFirstOf c.match-found.below (λ r. OwnHolds (network_at n x p) (told_in case) r p (route_at t r p)) None)
    c.requires.prefixes c.in-None-first_wrong_router.ensures in
    next_none n p (IsOwnSound n (told_in case) t) c.args.found c.match-found.below router c.requires.found none
