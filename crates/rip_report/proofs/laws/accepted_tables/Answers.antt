use Rattle.std.proofs.Common.{subst}
use Rattle.rip_plan.specs.Relations.{IsLawful}
use Rattle.rip_check.specs.Told.{told}
use Rattle.rip_report.proofs.laws.accepted_tables.Goals as goal

pub returns : goal.returns
returns c plan text n s accepted = c.one_set_of_tables.ensures.tables n (told n s) (subst IsLawful accepted.network accepted.well_formed.lawful)
