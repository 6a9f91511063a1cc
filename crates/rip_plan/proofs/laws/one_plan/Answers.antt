use Rattle.rip_plan.proofs.OnePlanLemmas.{one_plan}
use Rattle.rip_plan.proofs.laws.one_plan.Goals as goal

pub returns : goal.returns
returns c = one_plan (record { name = c.names.ensures.exact; address = c.address_texts.ensures.exact; prefix = c.prefix_texts.ensures.exact })
