use Rattle.std.proofs.Common.{ap}
use Rattle.std.specs.Result.{result_err}
use Rattle.rip_plan.proofs.PlanMatchLemmas.{network_matches}
use Rattle.rip_plan.proofs.TextLemmas.{TextLaws}
use Rattle.rip_plan.proofs.plan.Plan.read.Goals as goal

pub returns-in-Ok-clause-plan : goal.returns-in-Ok-clause-plan
returns-in-Ok-clause-plan c =
    let laws : TextLaws = record { name = c.names.ensures.exact; address = c.address_texts.ensures.exact; prefix = c.prefix_texts.ensures.exact } in
    network_matches laws c.args.bytes.now c.in-Ok.plan c.in-Ok.ensures.gives

pub returns-in-Ok-clause-no_fault : goal.returns-in-Ok-clause-no_fault
returns-in-Ok-clause-no_fault c = (c.first_faults.ensures.none c.args.bytes.now).0 (ap result_err c.in-Ok.ensures.gives)
