use Rattle.std.proofs.Common.{◌≡◌, inl, inr, true, refl, sym, ◌∙◌, arith}
use Rattle.std.proofs.lemmas.Bool.{cases_lt}
use Rattle.rip_check.proofs.OwnedLemmas.{within}
use Rattle.rip_check.proofs.audit.first_unheard.Goals as goal

pub loop-i-preserved : goal.loop-i-preserved
loop-i-preserved g c = λ j s k d lt at.
    elim (cases_lt j c.loop-i.i) [
      | inl less ↦ c.loop-i.invariant j s k d less at
      | inr big ↦
          let e : j ≡ c.loop-i.i = omega arith in
          let on : (g.T.Table.state c.args.table.now).heard c.loop-i.i ≡ true = sym c.heard.ensures ∙ c.if-not-heard.false in
          rw e (rw on refl)
    ]

pub returns-clause-none : goal.returns-clause-none
returns-clause-none g c = λ i r l d at.
    c.loop-i.invariant i r l d (omega (arith, within c.args.plan.now i r l d at, c.loop-i-test.false)) at
