use Rattle.std.proofs.Common.{None}
use Rattle.rip_plan.proofs.PrefixNetworkLemmas.{prefix_network}
use Rattle.rip_check.specs.Networks.{block_at, network_at}
use Rattle.rip_check.proofs.LeftLemmas.{direct_left, direct_own}
use Rattle.rip_check.proofs.OverLemmas.{here_right, over_right}
use Rattle.rip_check.proofs.expected.Expected.is_right.Goals as goal

pub returns-then-metric-lt16 : goal.returns-then-metric-lt16
returns-then-metric-lt16 c = λ m is.
    let n = c.args.plan.now in
    let laws = c.lawful.ensures in
    let r = c.args.router in
    let p = c.args.prefix in
    let v = c.number-metric.result in
    here_right (network_at n n.prefixes p) (prefix_network n laws (block_at n.prefixes p)) p r v m c.is_direct.result c.args.way c.number-metric.ensures is
    c.if-metric-lt16.true c.in-Here.is
    (λ t. direct_left n laws None p r v (c.is_direct.ensures.0 t), λ direct. c.is_direct.ensures.1 (direct_own n laws None p r v c.requires.router direct))

pub returns-then-metric-lt16-2 : goal.returns-then-metric-lt16-2
returns-then-metric-lt16-2 c = λ m is.
    let n = c.args.plan.now in
    let p = c.args.prefix in
    over_right (network_at n n.prefixes p) (prefix_network n c.lawful.ensures (block_at n.prefixes p)) p c.args.router c.number-metric.result m c.begins_over.result c.args.way c.number-metric.ensures is
    c.if-metric-lt16-2.true c.in-Over.link c.in-Over.is c.begins_over.ensures
