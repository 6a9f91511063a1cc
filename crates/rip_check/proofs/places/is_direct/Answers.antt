use Rattle.std.proofs.Common.{◌≡◌, Some, refl, sym, ◌∙◌}
use Rattle.std.proofs.lemmas.Bool.{eqb-true, eq-eqb}
use Rattle.rip_plan.specs.Relations.{IsDirect}
use Rattle.rip_check.proofs.places.is_direct.Goals as goal

pub returns-in-Some : goal.returns-in-Some
returns-in-Some c =
    let m = c.args.metric in (
      λ t.
          let e : c.in-Some.cost ≡ m = sym c.from.ensures ∙ eqb-true c.from.result m t in
          let d : IsDirect c.args.plan.now c.args.router c.args.prefix c.in-Some.cost = (c.in-Some.ensures c.in-Some.cost).0 refl in
          rw e at d,
      λ d.
          let e : Some c.in-Some.cost ≡ Some m = (c.in-Some.ensures m).1 d in
          let e' : c.in-Some.cost ≡ m = cc e in
          eq-eqb c.from.result m (c.from.ensures ∙ e'),
    )

pub returns-in-None : goal.returns-in-None
returns-in-None c = (λ t. cc t, λ d. cc ((c.in-None.ensures c.args.metric).1 d))
