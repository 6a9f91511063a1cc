-- Points in time, as capture files have them (draft-ietf-opsawg-pcapng, section 4.2).
use Rattle.std.specs.Prelude.{◌≡◌, ◌<◌, ◌≤◌, ◌+◌, ◌-◌, ◌*◌, ◌/◌, ◌%◌, ◌^◌, if◌then◌else◌, ℕ, nat_lt, min}
use Rattle.rip_log.specs.declared.limits.TheConstants.{MOST_MICROS}
use Rattle.rip_capture.specs.declared.time.Time.{Time}

-- how many units of time a second has
abbrev pub unit_of : ℕ → ℕ
unit_of resolution = if nat_lt resolution 128 then 10 ^ resolution else 2 ^ (resolution - 128)

-- the whole seconds of a time, and the millionths beside them; what is finer is cut off
abbrev pub whole_seconds : Time → ℕ
whole_seconds t = t.ticks / unit_of t.resolution

abbrev pub millionths : Time → ℕ
millionths t = t.ticks % unit_of t.resolution * 1000000 / unit_of t.resolution

-- so many whole seconds are at this second since 1970, by the offset: a number with a sign
pub data IsAt (t : Time) (whole second : ℕ) : Type 0 where
  later : t.offset < 2 ^ 63 → second ≡ whole + t.offset → IsAt t whole second
  sooner : 2 ^ 63 ≤ t.offset → second + (2 ^ 64 - t.offset) ≡ whole → IsAt t whole second

-- the millionths of a second since 1970, from then to the end of the year 9999
pub record IsMicros (t : Time) (micros : ℕ) : Type 0 where
  pub second : ℕ
  pub at : IsAt t (whole_seconds t) second
  pub whole : micros ≡ second * 1000000 + millionths t
  pub known : micros ≤ MOST_MICROS

-- a unit that is no finer than is reckoned with
abbrev pub coarse : ℕ → ℕ
coarse resolution = if nat_lt resolution 128 then min resolution 38 else resolution
