use Rattle.rip_check.proofs.untouched.Scenario.is_given.Given as goal

abbrev pub invariant-loop-i : goal.invariant-loop-i
invariant-loop-i l = Unit {0}
