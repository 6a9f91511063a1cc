use Rattle.std.proofs.Common.{rules}
use Rattle.rip_log.proofs.CalendarLemmas.{late_date}
use Rattle.rip_log.proofs.time.date.date_after.Goals as goal

pub overflow_cast-result : goal.overflow_cast-result
overflow_cast-result c =
    let found = c.from_days_since_min-date in
    let late = late_date found.result c.args.days found.ensures in
    let small = late.is_date.0.1 in
    rw late.cast (search rules)

pub returns-clause-date : goal.returns-clause-date
returns-clause-date c =
    let found = c.from_days_since_min-date in
    let late = late_date found.result c.args.days found.ensures in
    rw late.cast late.is_date

pub returns-clause-days : goal.returns-clause-days
returns-clause-days c =
    let found = c.from_days_since_min-date in
    let late = late_date found.result c.args.days found.ensures in
    rw late.cast late.counted
