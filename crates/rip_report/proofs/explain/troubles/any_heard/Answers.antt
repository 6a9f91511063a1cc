use Rattle.std.proofs.Common.{IsTrue, arith, get_or, refl}
use Rattle.rip_report.proofs.ExplainLemmas.{on_below, on_number, on_place}
use Rattle.rip_report.proofs.explain.troubles.any_heard.Goals as goal

pub heard-requires : goal.heard-requires
heard-requires g c = omega (arith, c.requires.fits.interfaces, on_below c.args.plan.now c.args.link c.on_link-numbers.result.now c.on_link-numbers.ensures.exact c.loop-i.i-index c.loop-i-test.true)

pub returns-then-heard : goal.returns-then-heard
returns-then-heard g c =
    let h = on_number c.args.plan.now c.args.link c.on_link-numbers.result.now c.on_link-numbers.ensures.exact c.loop-i.i-index c.loop-i-test.true in
    (λ t. (get_or c.on_link-numbers.result.now c.loop-i.i-index 0, h.0, h.1, h.2, cc (c.heard.ensures, c.if-heard.true)), λ o. refl)

pub returns : goal.returns
returns g c = (
  λ t. cc t,
  λ o.
      let s = g.T.Table.state c.args.table.now in
      let h = on_place c.args.plan.now c.args.link c.on_link-numbers.result.now c.on_link-numbers.ensures.exact o.0 o.1 o.2 o.3 in
      let heard : IsTrue (s.heard (get_or c.on_link-numbers.result.now h.0 0)) = rw h.2 o.4 in
      absurd (c.loop-i.invariant.none h.0 (omega (arith, h.1, c.loop-i-test.false)) heard),
)
