use Rattle.std.proofs.Common.{take}
use Rattle.std.specs.List.{flat_map}
use Rattle.rip_report.specs.Outs.{Adds}
use Rattle.rip_report.specs.OwnText.{has_line, hop_text}
use Rattle.rip_report.proofs.own.lines.push_hop_lines.Given as goal

abbrev pub invariant-loop-hop : goal.invariant-loop-hop
invariant-loop-hop g l = record { adds : Adds l.fn.out l.out (flat_map (λ h. has_line l.metric (hop_text l.plan h)) (take l.hop-index l.hops)) }
