use Rattle.rip_check.proofs.untouched.Scenario.is_given_over.Given as goal

abbrev pub invariant-loop-j : goal.invariant-loop-j
invariant-loop-j l = Unit {0}
