use Rattle.rip_plan.proofs.TextLemmas.{TextLaws}
use Rattle.rip_plan.proofs.WellFormedTextLemmas.{faultless_is, is_faultless}
use Rattle.rip_plan.proofs.laws.well_formed_texts.Goals as goal

pub returns : goal.returns
returns c bytes =
    let laws : TextLaws = record { name = c.names.ensures.exact; address = c.address_texts.ensures.exact; prefix = c.prefix_texts.ensures.exact } in
    (faultless_is c.first_faults.ensures.plan bytes, is_faultless laws bytes)
