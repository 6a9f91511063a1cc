use Rattle.rip_report.specs.ExpectText.{other, right}
use Rattle.rip_report.proofs.OutLemmas.{adds_nothing, adds_one}
use Rattle.rip_report.proofs.expect.add_way.Goals as goal

pub returns-then-is_right : goal.returns-then-is_right
returns-then-is_right g c = adds_one (right c.metric-metric.result ((c.is_right.ensures c.metric-metric.result c.metric-metric.ensures).0 c.if-is_right.true)) c.push_route_line.ensures

pub returns-else-is_right : goal.returns-else-is_right
returns-else-is_right g c = adds_nothing (other (λ m e. let is = (c.is_right.ensures m e.right.least).1 e in cc (is, c.if-is_right.false)))
