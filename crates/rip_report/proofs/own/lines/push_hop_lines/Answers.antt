use Rattle.std.proofs.Common.{Contains, sym, subst}
use Rattle.rip_report.proofs.own.lines.push_hop_lines.Goals as goal

pub push_hop_line-requires : goal.push_hop_line-requires
push_hop_line-requires g c l is =
    let listed : Contains c.args.hops.now c.hop-item.result = (c.loop-hop.hop-index, c.loop-hop-test.true, sym c.hop-item.is) in
    c.requires l (subst (Contains c.args.hops.now) is listed)
