use Rattle.std.proofs.Common.{ap, not, sym, ◌∙◌, arith}
use Rattle.rip_plan.proofs.ClashLemmas.{bare_later}
use Rattle.rip_plan.proofs.passes.first_without_interface.Goals as goal

pub returns-then-not-has_interface : goal.returns-then-not-has_interface
returns-then-not-has_interface c = grind arith

pub loop-r-preserved : goal.loop-r-preserved
loop-r-preserved c = bare_later c.args.interfaces.now c.args.routers c.loop-r.r _ c.loop-r-test.true (ap not (sym c.has_interface.ensures ∙ c.if-not-has_interface.false)) c.loop-r.invariant
