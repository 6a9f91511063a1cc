use Rattle.rip_table.proofs.MetricLemmas.{lower_laws}
use Rattle.rip_table.proofs.UpdateLemmas.{changed_metric}
use Rattle.rip_table.proofs.laws.changed_metrics.Goals as goal

pub returns : goal.returns
returns c = changed_metric (lower_laws c.response_fields.ensures.exact c.senders.ensures.gives c.senders.ensures.finds)
