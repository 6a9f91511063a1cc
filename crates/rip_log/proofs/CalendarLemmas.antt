-- The calendar counted from 1970 is jiff_core's, which counts from the year -10000.
use Rattle.std.proofs.Common.{◌≡◌, ℕ, zero, suc, ◌+◌, ◌-◌, ◌≤◌, refl, arith, ℤ, pos, negsuc, ◌+ℤ◌, ◌≤ℤ◌, to_z, of_z, w16}
use Rattle.std.proofs.lemmas.Int.{by_lt_z}
use Rattle.jiff_core.specs.Calendar as jiff
use Rattle.jiff_core.specs.Date.{epoch_day}
use Rattle.jiff_core.specs.declared.civil.date.Date.{Date}
use Rattle.jiff_core.proofs.SignedLemmas.{back_small, signed_arith}
use Rattle.jiff_core.proofs.CalendarLemmas.{day_count-epoch, day_count-next_year, day_count-day_of_year, day_count-lt_year, days_from_civil-day_count}
use Rattle.jiff_core.proofs.DateLemmas.{civil}
use Rattle.rip_log.specs.Calendar.{IsDate, days_before, days_in_year, days_of_years, days_of_months}

-- the first months of a year have the same days in both
months_agree : (y n : ℕ) → jiff.days_of_months (pos y) n ≡ days_of_months y n
unfolding jiff.days_of_months days_of_months
months_agree y zero = refl
months_agree y (suc n) = rw (months_agree y n) refl

-- the next year begins after all days of this one
next_year : (n : ℕ) →
    jiff.day_count (pos (1970 + suc n)) 1 1
    ≡ jiff.day_count (pos (1970 + n)) 1 1 + days_in_year (1970 + n)
next_year n =
    day_count-next_year (pos (1970 + n)) (pos (1970 + suc n))
    (omega (arith, signed_arith)) (omega (arith, signed_arith))

-- so do the first years from 1970 on
years_agree : (n : ℕ) → jiff.day_count (pos (1970 + n)) 1 1 ≡ 4_371_953 + days_of_years n
unfolding days_of_years
years_agree zero = day_count-epoch
years_agree (suc n) = omega (arith, years_agree n, next_year n)

-- and the days before a date
pub days_agree : (y m d : ℕ) → 1970 ≤ y → 1 ≤ d →
    jiff.day_count (pos y) m d ≡ 4_371_953 + days_before y m d
days_agree y m d late first =
    let same : 1970 + (y - 1970) ≡ y = omega arith in
    let years = rw same at (years_agree (y - 1970)) in
    let in_year = day_count-day_of_year (pos y) m d first in
    omega (arith, years, months_agree y (m - 1), in_year)

-- a day from 1970 on lies in a year from 1970 on
late_year : (y : ℤ) (m d : ℕ) → jiff.IsCivilDate y m d → 4_371_953 ≤ jiff.day_count y m d →
    pos 1970 ≤ℤ y
late_year y m d is_date late =
    by_lt_z y (pos 1970) (λ early.
    let before = day_count-lt_year y m d (pos 1970) 1 1 is_date (omega arith) early in
    absurd (omega (arith, before, day_count-epoch))) (λ is. is)

-- the date of a year from 1970 on, where a cast makes the year a number without a sign
pub record IsLate (y : ℤ) (m d days : ℕ) : Type 0 where
  pub year : ℕ
  pub cast : to_z w16 (of_z w16 y) ≡ pos year
  pub is_date : IsDate year m d
  pub counted : days_before year m d ≡ days

-- what jiff_core counts from -9999-01-01 is counted here from 1970-01-01
pub late_date : (date : Date) (days : ℕ) →
    epoch_day date +ℤ pos 4_371_587 ≡ pos (days + 4_371_587) →
    IsLate date.year date.month date.day days
late_date date days e =
    let epoch = days_from_civil-day_count date.year date.month date.day in
    let count : jiff.day_count date.year date.month date.day ≡ 4_371_953 + days =
    omega (arith, signed_arith, epoch)
    in
    go date.year refl (late_year date.year date.month date.day (civil date) (omega arith)) count
  where
    go : (y : ℤ) → date.year ≡ y → pos 1970 ≤ℤ y →
        jiff.day_count date.year date.month date.day ≡ 4_371_953 + days →
        IsLate date.year date.month date.day days
    go (pos y) is late count =
        let low : 1970 ≤ y = omega (arith, signed_arith) in
        let high : y ≤ 9999 = omega (arith, signed_arith, is, date.year_in) in
        let agree = days_agree y date.month date.day low date.day_in.0 in record {
          year = y;
          cast = rw is (back_small w16 (pos y) (omega arith));
          is_date = ((low, high), date.month_in, rw is at date.day_in);
          counted = omega (arith, rw is at count, agree);
        }
    go (negsuc y) is late count = absurd (omega (arith, signed_arith))

-- and the other way
pub counted : (y m d count : ℕ) → IsDate y m d →
    jiff.days_from_civil (pos y) m d +ℤ pos 4_371_587 ≡ pos count →
    count ≡ 4_371_587 + days_before y m d
counted y m d count is_date e =
    let agree = days_agree y m d is_date.0.0 is_date.2.0 in
    omega (arith, signed_arith, days_from_civil-day_count (pos y) m d, agree)

-- a date here is one there
pub IsDate-civil : (y m d : ℕ) → IsDate y m d → jiff.IsCivilDate (pos y) m d
IsDate-civil y m d is_date =
    ((omega (arith, signed_arith), omega (arith, signed_arith)), is_date.1, is_date.2)
