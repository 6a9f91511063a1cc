use Rattle.rip_table.proofs.MetricLemmas.{lower_laws}
use Rattle.rip_table.proofs.RefusedLemmas.{response_refused}
use Rattle.rip_table.proofs.laws.refused_responses.Goals as goal

pub returns : goal.returns
returns c n s capture i entries error lawful valid fits is =
    response_refused (lower_laws c.response_fields.ensures.exact c.senders.ensures.gives c.senders.ensures.finds) n s capture i entries error lawful valid fits is
