use Rattle.rip_table.proofs.MetricLemmas.{lower_laws}
use Rattle.rip_table.proofs.RefusedLemmas.{is_joined, joined_is}
use Rattle.rip_table.proofs.SaidLemmas.{fits_log}
use Rattle.rip_table.proofs.laws.joined_logs.Goals as goal

pub returns-clause-join : goal.returns-clause-join
returns-clause-join c n old new log lawful valid fits = (
  is_joined (lower_laws c.response_fields.ensures.exact c.senders.ensures.gives c.senders.ensures.finds) n old lawful valid fits log new,
  joined_is
      (lower_laws c.response_fields.ensures.exact c.senders.ensures.gives c.senders.ensures.finds) n old lawful valid fits log new,
)

pub returns-clause-fits : goal.returns-clause-fits
returns-clause-fits c n old new log fits h = fits_log n old new log fits h
