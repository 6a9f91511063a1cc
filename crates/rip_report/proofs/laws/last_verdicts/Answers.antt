use Rattle.std.proofs.Common.{subst}
use Rattle.rip_plan.specs.Relations.{IsLawful}
use Rattle.rip_report.proofs.WatchRunLemmas.{ends_judged}
use Rattle.rip_report.proofs.laws.last_verdicts.Goals as goal

pub returns : goal.returns
returns c plan text plain window n s said accepted within says =
    let lawful = subst IsLawful accepted.network accepted.well_formed.lawful in
    ends_judged c.timed_texts.ensures.lines c.timed_texts.ensures.one c.timed_records.ensures c.last_seconds.ensures n window text plain lawful within s accepted.table said says
