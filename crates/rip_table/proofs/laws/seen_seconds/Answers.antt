use Rattle.rip_table.proofs.MetricLemmas.{lower_laws}
use Rattle.rip_table.proofs.SeenLemmas.{seen-seconds}
use Rattle.rip_table.proofs.laws.seen_seconds.Goals as goal

pub returns : goal.returns
returns c n window k second said v lawful some at =
    seen-seconds (lower_laws c.response_fields.ensures.exact c.senders.ensures.gives c.senders.ensures.finds) c.windows.ensures.told n window k second said v lawful some at
