use Rattle.std.proofs.Common.{arith}
use Rattle.std.proofs.lemmas.List.{length-map}
use Rattle.rip_plan.proofs.PlanAnswerLemmas.{carrier_past}
use Rattle.rip_plan.proofs.plan.Plan.is_carrier.Goals as goal

pub returns-then-len-link : goal.returns-then-len-link
returns-then-len-link c = grind (arith, length-map, carrier_past)
