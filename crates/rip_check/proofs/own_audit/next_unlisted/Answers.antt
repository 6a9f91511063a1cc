use Rattle.std.proofs.Common.{◌≡◌, true, false, sym, ◌∙◌, arith}
use Rattle.rip_check.proofs.own_audit.next_unlisted.Goals as goal

pub returns-then-not-is_listed-clause-some : goal.returns-then-not-is_listed-clause-some
returns-then-not-is_listed-clause-some g c = record {
  from_on = c.loop-router.auto.router;
  router = omega (arith, c.loop-router-test.true, c.loop-router.auto.router-end, c.routers-router-end.ensures);
  unlisted = λ e. let clash : true ≡ false = sym e ∙ sym c.is_listed.ensures ∙ c.if-not-is_listed.true in cc;
  before = c.loop-router.invariant;
}
