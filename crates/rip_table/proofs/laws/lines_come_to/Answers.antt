use Rattle.rip_table.proofs.EventLemmas.{come_to, words_lines}
use Rattle.rip_table.proofs.MetricLemmas.{lower_laws}
use Rattle.rip_table.proofs.laws.lines_come_to.Goals as goal

pub returns : goal.returns
returns c n old new said events lawful valid fits =
    let below = lower_laws c.response_fields.ensures.exact c.senders.ensures.gives c.senders.ensures.finds in
    (λ h. come_to below n old new lawful valid fits said events h.0 h.1, words_lines below n old new lawful valid fits said events)
