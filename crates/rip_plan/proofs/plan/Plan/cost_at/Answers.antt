use Rattle.std.proofs.Common.{arith}
use Rattle.std.proofs.lemmas.Nat.{mul-add-lt}
use Rattle.std.proofs.lemmas.List.{length-map}
use Rattle.rip_plan.proofs.PlanAnswerLemmas.{direct_past, direct_zero}
use Rattle.rip_plan.proofs.plan.Plan.cost_at.Goals as goal

pub returns-then-len-router : goal.returns-then-len-router
returns-then-len-router c = grind (arith, length-map, direct_past)

pub returns-in-0 : goal.returns-in-0
returns-in-0 c = grind (arith, mul-add-lt, direct_zero)
