use Rattle.std.proofs.Common.{arith, w16}
use Rattle.std.proofs.lemmas.Int.{to_z_pos}
use Rattle.rip_log.specs.Calendar.{IsDate}
use Rattle.rip_log.proofs.CalendarLemmas.{counted}
use Rattle.rip_log.proofs.time.date.days_before.Goals as goal

pub overflow_sub-result : goal.overflow_sub-result
overflow_sub-result c =
    let year = to_z_pos w16 c.args.year (omega arith) in
    let days = rw year at c.days_in_month.ensures.value in
    let is_date : IsDate c.args.year c.args.month c.args.day =
    ((omega arith, omega arith), (omega arith, omega arith), (omega arith, omega (arith, days)))
    in
    let count = rw year at c.days_since_min.ensures.value in
    omega (arith, counted c.args.year c.args.month c.args.day c.days_since_min.result is_date count)

pub returns : goal.returns
returns c =
    let year = to_z_pos w16 c.args.year (omega arith) in
    let days = rw year at c.days_in_month.ensures.value in
    let is_date : IsDate c.args.year c.args.month c.args.day =
    ((omega arith, omega arith), (omega arith, omega arith), (omega arith, omega (arith, days)))
    in
    let count = rw year at c.days_since_min.ensures.value in
    let here = counted c.args.year c.args.month c.args.day c.days_since_min.result is_date count in
    (is_date, omega (arith, c.days_since_min.ensures.bound), omega arith)
