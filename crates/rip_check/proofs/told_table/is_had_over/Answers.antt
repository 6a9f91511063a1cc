use Rattle.std.proofs.Common.{refl}
use Rattle.rip_check.proofs.HopLemmas.{had_across, not_had}
use Rattle.rip_check.proofs.told_table.is_had_over.Goals as goal

pub returns-in-Some : goal.returns-in-Some
returns-in-Some c = (
  λ t. had_across c.args.plan.now c.args.own.router c.args.own.link c.args.own.cost c.args.prefix c.args.address _ c.requires c.in-Some.ensures.0,
  λ had. refl,
)

pub returns-in-None : goal.returns-in-None
returns-in-None c = (
  λ t. cc t,
  λ had. absurd (not_had c.args.plan.now c.args.own.router c.args.own.link c.args.prefix c.args.address c.in-None.ensures had),
)
