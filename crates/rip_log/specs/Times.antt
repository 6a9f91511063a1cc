-- Times in text, as ISO 8601 writes them in UTC: `2026-11-27T01:16:20.394151Z`.
use Rattle.std.specs.Prelude.{◌≡◌, ℕ, ◌+◌, ◌*◌, ◌/◌, ◌%◌, ◌<◌, List, [], ◌∷◌, ◌++◌, codes}
use Rattle.rip_log.specs.Calendar.{IsDate, days_before}
use Rattle.rip_log.specs.declared.time.date_time.DateTime.{DateTime}

-- a number below 100, in two digits
abbrev pub two_digits : ℕ → List ℕ
two_digits n = (48 + n / 10) ∷ (48 + n % 10) ∷ []

-- a date: `2026-11-27`
abbrev pub date_text : DateTime → List ℕ
date_text t =
    two_digits (t.year / 100) ++ two_digits (t.year % 100) ++ codes "-" ++ two_digits t.month
    ++ codes "-" ++ two_digits t.day

-- a time of day, to the second: `01:16:20`
abbrev pub clock_text : DateTime → List ℕ
clock_text t =
    two_digits t.hour ++ codes ":" ++ two_digits t.minute ++ codes ":" ++ two_digits t.second

-- the millionths of a second, always six digits: `.394151`
abbrev pub fraction_text : ℕ → List ℕ
fraction_text micro =
    codes "." ++ two_digits (micro / 10_000) ++ two_digits (micro / 100 % 100)
    ++ two_digits (micro % 100)

-- `2026-11-27T01:16:20.394151Z`
abbrev pub time_text : DateTime → List ℕ
time_text t =
    date_text t ++ codes "T" ++ clock_text t ++ fraction_text t.micro ++ codes "Z"

-- without the fraction: `2026-11-27T01:16:20Z`
abbrev pub second_text : DateTime → List ℕ
second_text t = date_text t ++ codes "T" ++ clock_text t ++ codes "Z"

-- a time of day: each minute has 60 seconds
abbrev pub IsTimeOfDay : DateTime → Type 0
IsTimeOfDay t = (t.hour < 24) × (t.minute < 60) × (t.second < 60) × (t.micro < 1_000_000)

-- the calendar has the date, and the clock the time of day
abbrev pub IsDateTime : DateTime → Type 0
IsDateTime t = IsDate t.year t.month t.day × IsTimeOfDay t

-- the seconds since 1970-01-01T00:00:00Z: each day has 86,400
abbrev pub seconds_of : DateTime → ℕ
seconds_of t =
    days_before t.year t.month t.day * 86_400 + t.hour * 3600 + t.minute * 60 + t.second

-- the micros since then, millionths of a second
abbrev pub micros_of : DateTime → ℕ
micros_of t = seconds_of t * 1_000_000 + t.micro

-- the text of the time so many micros after 1970-01-01T00:00:00Z
pub record IsTimeText (micros : ℕ) (text : List ℕ) : Type 0 where
  pub shown : DateTime
  pub exists : IsDateTime shown
  pub counted : micros_of shown ≡ micros
  pub spelled : time_text shown ≡ text

-- the text, without a fraction, of the second that begins so many seconds after that time
pub record IsSecondText (second : ℕ) (text : List ℕ) : Type 0 where
  pub shown : DateTime
  pub exists : IsDateTime shown
  pub counted : seconds_of shown ≡ second
  pub spelled : second_text shown ≡ text
