use Rattle.std.proofs.Common.{refl}
use Rattle.rip_check.proofs.LeftLemmas.{was_direct}
use Rattle.rip_check.proofs.failures.direct_left.Goals as goal

pub returns-then-has_left-clause-least : goal.returns-then-has_left-clause-least
returns-then-has_left-clause-least c = λ d direct. c.direct_or_16.ensures.least d (was_direct c.args.plan.now c.args.failure c.args.router c.args.prefix d direct).0

pub returns-else-has_left-clause-least : goal.returns-else-has_left-clause-least
returns-else-has_left-clause-least c = λ d direct. absurd (c.if-has_left.ensures.lost refl d direct)
