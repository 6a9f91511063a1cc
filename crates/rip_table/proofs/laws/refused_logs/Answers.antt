use Rattle.rip_table.proofs.MetricLemmas.{lower_laws}
use Rattle.rip_table.proofs.RefusedLemmas.{is_outcome, is_refused, outcome_is, refused_is}
use Rattle.rip_table.proofs.laws.refused_logs.Goals as goal

pub returns-clause-records : goal.returns-clause-records
returns-clause-records c n old log cause lawful valid fits = (
  is_refused (lower_laws c.response_fields.ensures.exact c.senders.ensures.gives c.senders.ensures.finds) n old lawful valid fits log cause,
  λ h. refused_is
      (lower_laws c.response_fields.ensures.exact c.senders.ensures.gives c.senders.ensures.finds) n old lawful valid fits log h.0 h.1 cause h.2,
)

pub returns-clause-outcome : goal.returns-clause-outcome
returns-clause-outcome c n old s log fault lawful valid fits = (
  is_outcome (lower_laws c.response_fields.ensures.exact c.senders.ensures.gives c.senders.ensures.finds) n old lawful valid fits log s fault,
  outcome_is
      (lower_laws c.response_fields.ensures.exact c.senders.ensures.gives c.senders.ensures.finds) n old lawful valid fits log s fault,
)
