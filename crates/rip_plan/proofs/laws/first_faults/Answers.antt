use Rattle.rip_plan.proofs.LawfulPlanLemmas.{plan_stands}
use Rattle.rip_plan.proofs.TextFaultLemmas.{fault_told, never_memory, none_told}
use Rattle.rip_plan.proofs.laws.first_faults.Goals as goal

pub returns-clause-told : goal.returns-clause-told
returns-clause-told c = fault_told (record { name = c.names.ensures.exact; address = c.address_texts.ensures.exact; prefix = c.prefix_texts.ensures.exact })

pub returns-clause-none : goal.returns-clause-none
returns-clause-none c = none_told (record { name = c.names.ensures.exact; address = c.address_texts.ensures.exact; prefix = c.prefix_texts.ensures.exact })

pub returns-clause-plan : goal.returns-clause-plan
returns-clause-plan c = plan_stands (record { name = c.names.ensures.exact; address = c.address_texts.ensures.exact; prefix = c.prefix_texts.ensures.exact })

pub returns-clause-memory : goal.returns-clause-memory
returns-clause-memory c = never_memory
