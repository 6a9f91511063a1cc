use Rattle.std.proofs.Common.{arith, inl}
use Rattle.rip_plan.proofs.PrefixNetworkLemmas.{prefix_network}
use Rattle.rip_check.specs.Networks.{block_at, network_at}
use Rattle.rip_check.proofs.ExpectingLemmas.{planned}
use Rattle.rip_check.proofs.expected.Expected.least.Goals as goal

pub returns : goal.returns
returns c =
    let n = c.args.plan.now in
    let p = c.args.prefix in
    record {
      reached = inl c.metric_of.ensures;
      least = λ hops w path.
          let lt = planned (network_at n n.prefixes p) (prefix_network n c.lawful.ensures (block_at n.prefixes p)) p c.args.router hops w path in
          absurd (omega (arith, lt, c.if-prefix-prefixes.false, c.prefixes.ensures));
    }
