use Rattle.std.proofs.Common.{◌≡◌, ◌≢◌, inl, inr, true, false, refl, sym, ◌∙◌, arith}
use Rattle.std.proofs.lemmas.Bool.Decides.{not_from_Decides}
use Rattle.rip_plan.specs.Relations.{IsDirect}
use Rattle.rip_routes.specs.OwnTables.{route_at}
use Rattle.rip_check.specs.Cases.{network_of, state_of, told_in}
use Rattle.rip_check.specs.Settled.{IsLeastChoice}
use Rattle.rip_check.proofs.NetLemmas.{direct_at}
use Rattle.rip_check.proofs.OnePlaceLemmas.{choice_low}
use Rattle.rip_check.proofs.OwnWrongLemmas.{holds_all, wrong_next}
use Rattle.rip_check.proofs.own_audit.wrong_by.Goals as goal
use Rattle.rip_check.proofs.own_audit.wrong_by.Goals.{else-is_here-via-then-is_here+else-not-is_direct, else-is_here-via-else-is_here}

pub metric_of-requires-clause-low : goal.metric_of-requires-clause-low
metric_of-requires-clause-low g c = choice_low (network_of c.args.case.now) (told_in c.args.case.now) c.lawful.ensures.network c.args.router c.args.case.now.prefix c.args.equation c.requires.equation.chosen

pub metric_of-requires-clause-high : goal.metric_of-requires-clause-high
metric_of-requires-clause-high g c = c.requires.equation.least 16 (inl refl)

pub returns-then-metric-equation-clause-some : goal.returns-then-metric-equation-clause-some
returns-then-metric-equation-clause-some g c =
    let is : IsLeastChoice (network_of c.args.case.now) (told_in c.args.case.now) c.args.router c.args.case.now.prefix c.metric_of.result =
    rw c.metric_of.ensures c.requires.equation in
    let metric = c.get-metric.ensures.value ∙ c.metric.ensures in
    let other : (route_at (g.G.RouteTables.tables c.args.tables.now) c.args.router c.args.case.now.prefix).metric ≢ c.metric_of.result = λ e. c.if-metric-equation.true (metric ∙ e ∙ c.metric_of.ensures) in
    inl (c.metric_of.result, is, other, refl)

pub returns-then-not-is_direct-clause-some : goal.returns-then-not-is_direct-clause-some
returns-then-not-is_direct-clause-some g c =
    let metric = c.get-metric.ensures.value ∙ c.metric.ensures in
    let is : IsLeastChoice (network_of c.args.case.now) (told_in c.args.case.now) c.args.router c.args.case.now.prefix c.get-metric.result =
    rw c.if-metric-equation.false c.requires.equation in
    let case = c.args.case.now in
    let exact = direct_at case.plan.now c.lawful.ensures.plan (state_of case) case.fits c.args.router case.prefix c.get-metric.result c.requires.router in
    let not_direct : IsDirect (network_of case) c.args.router case.prefix c.get-metric.result → ⊥ =
    λ direct. not_from_Decides c.is_direct.result c.is_direct.ensures c.if-not-is_direct.true (exact.0 direct) in
    inr (rw metric at is, inl (sym c.is_here.ensures ∙ c.if-is_here.true, rw metric at not_direct, refl))

pub first_wrong_hop-requires-clause-least : goal.first_wrong_hop-requires-clause-least
first_wrong_hop-requires-clause-least g c = λ v choice. omega (arith, c.if-metric-equation.false, c.requires.equation.least v choice)

pub returns-clause-some : goal.returns-clause-some
returns-clause-some g c =
    let case = c.args.case.now in
    let told = told_in case in
    let r = c.args.router in
    let p = case.prefix in
    let route = route_at (g.G.RouteTables.tables c.args.tables.now) r p in
    let metric = c.get-metric.ensures.value ∙ c.metric.ensures in
    let is : IsLeastChoice (network_of case) told r p c.get-metric.result =
    rw c.if-metric-equation.false c.requires.equation in
    let exact = direct_at case.plan.now c.lawful.ensures.plan (state_of case) case.fits r p c.get-metric.result c.requires.router in
    let here : route.here ≡ true → IsDirect (network_of case) r p c.get-metric.result = λ e. elim c.else-is_here.branch [
      | else-is_here-via-then-is_here+else-not-is_direct w ↦ exact.1 (w.is_direct.ensures.0 w.if-not-is_direct.false)
      | else-is_here-via-else-is_here w ↦ let clash : true ≡ false = sym (c.is_here.ensures ∙ e) ∙ w.if-is_here.false in absurd cc
    ] in
    wrong_next case.plan.now told r p route c.first_wrong_hop.result (rw metric at is) (rw metric at here) c.first_wrong_hop.ensures.some

pub returns-clause-none : goal.returns-clause-none
returns-clause-none g c =
    let case = c.args.case.now in
    let told = told_in case in
    let r = c.args.router in
    let p = case.prefix in
    let route = route_at (g.G.RouteTables.tables c.args.tables.now) r p in
    let metric = c.get-metric.ensures.value ∙ c.metric.ensures in
    let is : IsLeastChoice (network_of case) told r p c.get-metric.result =
    rw c.if-metric-equation.false c.requires.equation in
    let exact = direct_at case.plan.now c.lawful.ensures.plan (state_of case) case.fits r p c.get-metric.result c.requires.router in
    let here : route.here ≡ true → IsDirect (network_of case) r p c.get-metric.result = λ e. elim c.else-is_here.branch [
      | else-is_here-via-then-is_here+else-not-is_direct w ↦ exact.1 (w.is_direct.ensures.0 w.if-not-is_direct.false)
      | else-is_here-via-else-is_here w ↦ let clash : true ≡ false = sym (c.is_here.ensures ∙ e) ∙ w.if-is_here.false in absurd cc
    ] in
    holds_all case.plan.now told r p route c.first_wrong_hop.result (rw metric at is) (rw metric at here) (rw metric at c.first_wrong_hop.ensures.none)
