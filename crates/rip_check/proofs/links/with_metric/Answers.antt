use Rattle.std.proofs.Common.{arith}
use Rattle.rip_check.proofs.StepLemmas.{lower, keep, new_least, new_next}
use Rattle.rip_check.proofs.links.with_metric.Goals as goal

pub returns-then-metric-two-clause-least : goal.returns-then-metric-two-clause-least
returns-then-metric-two-clause-least c = λ n seen l j is has. lower n seen l j c.args.two c.args.router c.args.metric is has c.if-router-two.true c.if-metric-two.true

pub returns-else-metric-two-clause-least : goal.returns-else-metric-two-clause-least
returns-else-metric-two-clause-least c = λ n seen l j is has. keep n seen l j c.args.two c.args.router c.args.metric is has c.if-metric-two.false (λ other. absurd (other c.if-router-two.true))

pub returns-then-metric-two-2-clause-least : goal.returns-then-metric-two-2-clause-least
returns-then-metric-two-2-clause-least c = λ n seen l j is has. new_least n seen l j c.args.two c.args.router c.args.metric is has c.if-router-two.false c.if-metric-two-2.true

pub returns-then-metric-two-3-clause-least : goal.returns-then-metric-two-3-clause-least
returns-then-metric-two-3-clause-least c = λ n seen l j is has.
    new_next n seen l j c.args.two c.args.router c.args.metric is has c.if-router-two.false c.if-metric-two-2.false c.if-metric-two-3.true

pub returns-else-metric-two-3-clause-least : goal.returns-else-metric-two-3-clause-least
returns-else-metric-two-3-clause-least c = λ n seen l j is has.
    keep n seen l j c.args.two c.args.router c.args.metric is has c.if-metric-two-2.false (λ other. omega (arith, c.if-metric-two-3.false))
