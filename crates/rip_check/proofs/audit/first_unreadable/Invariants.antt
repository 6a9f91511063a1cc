use Rattle.std.proofs.Common.{None}
use Rattle.rip_check.specs.Firsts.{CanBeRead, IsFirstOf}
use Rattle.rip_check.proofs.audit.first_unreadable.Given as goal
use Rattle.rip_check.specs.Cases.{told_in}

abbrev pub invariant-loop-router : goal.invariant-loop-router
invariant-loop-router g l = IsFirstOf l.router (λ s. CanBeRead l.case.plan.now (told_in l.case) s l.case.prefix) None
