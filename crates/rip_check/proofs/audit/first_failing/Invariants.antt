use Rattle.std.proofs.Common.{None}
use Rattle.rip_check.specs.Firsts.{CanBeRead, IsFirstOf}
use Rattle.rip_check.specs.Verdicts.{IsSound}
use Rattle.rip_check.proofs.FirstPlaceLemmas.{IsFirstSoFar}
use Rattle.rip_check.proofs.audit.first_failing.Given as goal
use Rattle.rip_check.specs.Cases.{told_in}

abbrev pub invariant-loop-router : goal.invariant-loop-router
invariant-loop-router g l = record {
  readable : IsFirstOf l.router (λ s. CanBeRead l.case.plan.now (told_in l.case) s l.case.prefix) None;
  failing : IsFirstSoFar l.below l.router (λ s. IsSound l.case.plan.now (told_in l.case) s l.case.prefix) l.first;
}
