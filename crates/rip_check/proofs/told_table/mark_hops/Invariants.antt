use Rattle.rip_plan.specs.PrefixNetworks.{network_for}
use Rattle.rip_check.proofs.ToldCellLemmas.{SendsOverBefore}
use Rattle.rip_check.specs.ToldCells.{AreMarks}
use Rattle.rip_check.proofs.told_table.mark_hops.Given as goal

abbrev pub invariant-loop-hop : goal.invariant-loop-hop
invariant-loop-hop g l = AreMarks (λ k. SendsOverBefore (network_for l.plan l.block) l.router l.prefix l.hops k l.hop-index) l.marks
