use Rattle.rip_check.specs.Firsts.{IsLeastOf}
use Rattle.rip_check.proofs.HopLemmas.{IsAcrossBefore}
use Rattle.rip_check.proofs.told_table.first_across.Given as goal

abbrev pub invariant-loop-k : goal.invariant-loop-k
invariant-loop-k l = IsLeastOf (IsAcrossBefore l.plan l.own.router l.own.link l.address l.places l.k-index) l.first
