use Rattle.rip_check.proofs.PlainPathLemmas.{path_plain, plain_path, right_plain, plain_right}
use Rattle.rip_check.proofs.laws.plain_paths.Goals as goal

pub returns-clause-paths : goal.returns-clause-paths
returns-clause-paths c n p r hops v plain = (path_plain n plain p r hops v, plain_path n plain p r hops v)

pub returns-clause-routes : goal.returns-clause-routes
returns-clause-routes c n r p t plain = (right_plain n plain r p t, plain_right n plain r p t)
