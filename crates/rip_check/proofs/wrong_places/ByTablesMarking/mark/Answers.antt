use Rattle.std.proofs.Common.{List, length, ap, subst, arith}
use Rattle.rip_wire.specs.Prefix.{Block}
use Rattle.rip_routes.specs.OwnTables.{route_at}
use Rattle.rip_check.specs.Cases.{network_of, plan_of, state_of, told_in}
use Rattle.rip_check.specs.Networks.{network_at}
use Rattle.rip_check.specs.OwnSettled.{OwnHolds}
use Rattle.rip_check.specs.Settled.{IsLeastChoice}
use Rattle.rip_check.proofs.OnePlaceLemmas.{choice_low}
use Rattle.rip_check.proofs.OwnWrongLemmas.{told_unheard, wrong_fails}
use Rattle.rip_check.proofs.wrong_places.ByTablesMarking.mark.Goals as goal

pub wrong_by-requires-clause-prefix : goal.wrong_by-requires-clause-prefix
wrong_by-requires-clause-prefix g c = omega (arith, c.args.case.now.within, ap length c.requires.fits.prefixes)

pub wrong_by-requires-clause-equation : goal.wrong_by-requires-clause-equation
wrong_by-requires-clause-equation g c = record { chosen = c.least_choice-equation.ensures.chosen; least = c.least_choice-equation.ensures.least }

pub returns-in-Some : goal.returns-in-Some
returns-in-Some g c =
    let case = c.args.case.now in
    let n = plan_of case in
    let state = state_of case in
    let told = told_in case in
    let r = c.args.router in
    let p = case.prefix in
    let v = c.least_choice-equation.result in
    let route = route_at (g.G.RouteTables.tables c.args.self.now.tables.now) r p in
    let same = told_unheard n state c.requires.fits.unheard in
    let listed = c.requires.fits.prefixes in
    let is : IsLeastChoice (network_of case) told r p v = record { chosen = c.least_choice-equation.ensures.chosen; least = c.least_choice-equation.ensures.least } in
    let is' : IsLeastChoice (network_of case) state r p v = rw same at is in
    let fails : OwnHolds (network_of case) told r p route → ⊥ = wrong_fails n told r p route _ c.in-Some.ensures.some in
    let fails' : OwnHolds (network_of case) state r p route → ⊥ = rw same at fails in
    record {
      sound = tt;
      fails = (
        choice_low (network_of case) told c.lawful.ensures.network r p v is.chosen,
        c.least_choice-equation.ensures.most,
        subst (λ (x : List Block). IsLeastChoice (network_at n x p) state r p v) listed is',
        subst (λ (x : List Block). OwnHolds (network_at n x p) state r p route → ⊥) listed fails',
      );
    }

pub returns-in-None : goal.returns-in-None
returns-in-None g c =
    let case = c.args.case.now in
    let n = plan_of case in
    let state = state_of case in
    let r = c.args.router in
    let p = case.prefix in
    let route = route_at (g.G.RouteTables.tables c.args.self.now.tables.now) r p in
    let same = told_unheard n state c.requires.fits.unheard in
    let holds : OwnHolds (network_of case) state r p route = rw same at c.in-None.ensures.none in
    record { sound = subst (λ (x : List Block). OwnHolds (network_at n x p) state r p route) c.requires.fits.prefixes holds; fails = tt }
