-- The Gregorian calendar, from 1970-01-01 on.
use Rattle.std.specs.Prelude.{ℕ, zero, suc, ◌+◌, ◌-◌, ◌%◌, Bool, not, ◌&&◌, ◌||◌, ◌==◌, if◌then◌else◌}
use Rattle.std.specs.Int.{IsInRange}

-- every fourth year is a leap year, but of those that end in 00 only every fourth
abbrev pub is_leap_year : ℕ → Bool
is_leap_year y = (y % 4 == 0) && (not (y % 100 == 0) || (y % 400 == 0))

-- the days of a year
abbrev pub days_in_year : ℕ → ℕ
days_in_year y = if is_leap_year y then 366 else 365

-- thirty days have April, June, September and November
abbrev pub days_in_month : ℕ → ℕ → ℕ
days_in_month y m =
    if m == 2 then (if is_leap_year y then 29 else 28)
    else (if (m == 4) || (m == 6) || (m == 9) || (m == 11) then 30 else 31)

-- the days of the first n years from 1970 on
unfoldable pub days_of_years : ℕ → ℕ
days_of_years zero = 0
days_of_years (suc n) = days_of_years n + days_in_year (1970 + n)

-- the days of the first n months of a year
unfoldable pub days_of_months : ℕ → ℕ → ℕ
days_of_months y zero = 0
days_of_months y (suc n) = days_of_months y n + days_in_month y (suc n)

-- the days before a date, from 1970-01-01 on: of the years, the months and the days before it
abbrev pub days_before : ℕ → ℕ → ℕ → ℕ
days_before y m d = days_of_years (y - 1970) + days_of_months y (m - 1) + (d - 1)

-- the calendar has this date, in a year of 1970 to 9999
abbrev pub IsDate : ℕ → ℕ → ℕ → Type 0
IsDate y m d = IsInRange 1970 9999 y × IsInRange 1 12 m × IsInRange 1 (days_in_month y m) d
