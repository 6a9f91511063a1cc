use Rattle.std.proofs.lemmas.Bool.{both_ways}
use Rattle.rip_check.proofs.surveys.survey_of.Goals as goal

pub survey_where-requires-else-has_lists-clause-free : goal.survey_where-requires-else-has_lists-clause-free
survey_where-requires-else-has_lists-clause-free g c = λ e l has. both_ways _ c.if-has_lists.false (c.has_lists.ensures.1 (l, has))
