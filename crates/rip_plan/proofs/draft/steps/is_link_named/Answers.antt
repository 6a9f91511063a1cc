use Rattle.std.proofs.Common.{arith}
use Rattle.rip_plan.proofs.ItemLemmas.{any_found}
use Rattle.rip_plan.proofs.draft.steps.is_link_named.Goals as goal

pub returns : goal.returns
returns c = grind (arith, any_found)
