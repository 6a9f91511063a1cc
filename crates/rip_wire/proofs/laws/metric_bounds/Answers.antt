use Rattle.rip_wire.proofs.ViewLemmas.{metric_bounds}
use Rattle.rip_wire.proofs.laws.metric_bounds.Goals as goal

pub returns : goal.returns
returns c = metric_bounds
