use Rattle.rip_plan.specs.PrefixNetworks.{network_for}
use Rattle.rip_check.specs.OwnTells.{IsHadOn}
use Rattle.rip_check.proofs.HopLemmas.{IsOneSoFar}
use Rattle.rip_check.proofs.told_table.only_link_with.Given as goal

abbrev pub invariant-loop-i : goal.invariant-loop-i
invariant-loop-i l = IsOneSoFar l.plan l.router (λ k. IsHadOn (network_for l.plan l.block) l.router l.prefix l.address k) l.numbers l.i-index l.found
