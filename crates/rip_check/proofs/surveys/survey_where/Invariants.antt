use Rattle.std.proofs.Common.{ℕ, ◌<◌, ◌≤◌, get_or, length}
use Rattle.rip_check.specs.Surveys.{IsSurvey}
use Rattle.rip_check.proofs.surveys.survey_where.Given as goal
use Rattle.rip_check.specs.Cases.{network_of, told_in}

abbrev pub invariant-loop-i : goal.invariant-loop-i
invariant-loop-i g l =
    (b : ℕ) → ((j : ℕ) → j < l.i-index → get_or l.numbers j 0 < b) → (l.i-index < length l.numbers → b ≤ get_or l.numbers l.i-index 0) →
    IsSurvey (network_of l.case) (told_in l.case) l.router l.case.prefix b l.found
