use Rattle.rip_check.specs.Cases.{told_in}
use Rattle.rip_check.proofs.ReachLemmas.{IsReachBefore}
use Rattle.rip_check.proofs.surveys.reach_of.Given as goal

abbrev pub invariant-loop-i : goal.invariant-loop-i
invariant-loop-i g l = IsReachBefore l.case.plan.now (told_in l.case) l.case.prefix l.router l.numbers l.i-index l.found.first l.found.more l.found.loud
