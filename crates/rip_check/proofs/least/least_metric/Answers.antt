use Rattle.std.proofs.Common.{inl, arith}
use Rattle.rip_plan.proofs.PrefixNetworkLemmas.{prefix_network}
use Rattle.rip_check.specs.Networks.{block_at, network_at}
use Rattle.rip_check.specs.Paths.{IsLeast}
use Rattle.rip_check.proofs.ExpectingLemmas.{planned}
use Rattle.rip_check.proofs.OverLemmas.{least_low}
use Rattle.rip_check.proofs.least.least_metric.Goals as goal

pub returns-then-prefix-prefixes : goal.returns-then-prefix-prefixes
returns-then-prefix-prefixes c =
    let n = c.args.plan.now in
    let p = c.args.prefix in
    let net = network_at n n.prefixes p in
    record {
      reached = inl c.metric_of.ensures;
      least = λ hops w path. let lt = planned net (prefix_network n c.lawful.ensures (block_at n.prefixes p)) p c.args.router hops w path in absurd (omega (arith, lt, c.if-prefix-prefixes.true, c.prefixes.ensures));
    }

pub metric_of-requires-2-clause-low : goal.metric_of-requires-2-clause-low
metric_of-requires-2-clause-low c =
    let n = c.args.plan.now in
    let p = c.args.prefix in
    let net = network_at n n.prefixes p in
    let least : IsLeast net p c.args.router c.from.result = rw c.from.ensures (c.find_least.ensures c.args.router c.requires) in
    least_low net (prefix_network n c.lawful.ensures (block_at n.prefixes p)) p c.args.router c.from.result least
