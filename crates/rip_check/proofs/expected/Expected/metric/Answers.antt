use Rattle.rip_plan.proofs.PrefixNetworkLemmas.{prefix_network}
use Rattle.rip_check.specs.Networks.{block_at, network_at}
use Rattle.rip_check.proofs.OverLemmas.{least_low}
use Rattle.rip_check.proofs.expected.Expected.metric.Goals as goal

pub metric_of-requires-clause-low : goal.metric_of-requires-clause-low
metric_of-requires-clause-low c =
    let n = c.args.plan.now in
    let p = c.args.prefix in
    least_low (network_at n n.prefixes p) (prefix_network n c.lawful.ensures (block_at n.prefixes p)) p c.args.router c.number.result c.number.ensures
