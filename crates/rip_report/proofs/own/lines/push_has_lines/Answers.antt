use Rattle.rip_report.proofs.own.lines.push_has_lines.Goals as goal

pub push_hop_lines-requires : goal.push_hop_lines-requires
push_hop_lines-requires g c = rw c.next_hops.ensures c.requires.links
