use Rattle.rip_table.proofs.CountLemmas.{calm_counted, counted_calm}
use Rattle.rip_table.proofs.laws.calm_counts.Goals as goal

pub returns : goal.returns
returns c events = (calm_counted events, counted_calm events)
