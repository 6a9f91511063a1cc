-- The times in front of the lines of a log.
use Rattle.std.specs.Prelude.{◌≡◌, ◌≤◌, ℕ, Bool, true, false, List, [], ◌∷◌, ◌++◌, codes, Option, Some, None, IfSome, Result, Ok, Err}
use Rattle.rip_log.specs.Times.{IsDateTime, micros_of, second_text, time_text}
use Rattle.rip_log.specs.declared.limits.TheConstants.{MOST_MICROS}
use Rattle.rip_log.specs.declared.time.date_time.DateTime.{DateTime}
use Rattle.rip_capture.specs.Clocks.{IsMicros}
use Rattle.rip_capture.specs.Pcap.{Frame}
use Rattle.rip_capture.specs.declared.time.Time.{Time}
use Rattle.rip_report.specs.Selections.{Carrier}
use Rattle.rip_report.specs.declared.captures.ending.RefusalCode.{RefusalCode}
use Rattle.rip_report.specs.declared.captures.ending.RefusalCode.TheVariants as codes

-- a packet was captured so many millionths of a second after 1970-01-01T00:00:00Z
pub record HasMicros (p : Frame) (micros : ℕ) : Type 0 where
  pub time : Time
  pub has : p.time ≡ Some time
  pub is : IsMicros time micros

-- so many micros are this point in time; none are none
abbrev pub IsShown : Option ℕ → Option DateTime → Type 0
IsShown None time = time ≡ None
IsShown (Some micros) time =
    (t : DateTime) × (time ≡ Some t) × IsDateTime t × (micros_of t ≡ micros)
    × (micros ≤ MOST_MICROS)

-- the time in front of a packet's line, where there has to be one
pub record IsTimed (asked : Bool) (p : Frame) (time : Option DateTime) : Type 0 where
  pub micros : Option ℕ
  pub shown : IsShown micros time
  pub none : asked ≡ false → micros ≡ None
  pub some : asked ≡ true → (n : ℕ) × (micros ≡ Some n) × HasMicros p n

-- `2026-11-27T01:16:20.394151Z `
abbrev pub time_part : Option DateTime → List ℕ
time_part None = []
time_part (Some t) = time_text t ++ codes " "

-- what is found of the time of a packet's line, where there has to be one
abbrev pub FindsTime : Bool → Frame → Result (Option ℕ) RefusalCode → Type 0
FindsTime asked p (Ok None) = asked ≡ false
FindsTime asked p (Ok (Some micros)) = (asked ≡ true) × HasMicros p micros
FindsTime asked p (Err codes.Time) = (asked ≡ true) × ((micros : ℕ) → ¬ HasMicros p micros)
FindsTime asked p (Err other) = ⊥

-- ---- the first and the last time of a file

-- the same behind one line more
abbrev pub span_with : Option (DateTime × DateTime) → Option DateTime → Option (DateTime × DateTime)
span_with span None = span
span_with None (Some t) = Some (t, t)
span_with (Some span) (Some t) = Some (span.0, t)

abbrev pub span_behind : Option (DateTime × DateTime) → List Carrier → Option (DateTime × DateTime)
span_behind span [] = span
span_behind span (c ∷ carriers) = span_behind (span_with span c.time) carriers

-- the first and the last time in front of the lines of these packets
abbrev pub span_of : List Carrier → Option (DateTime × DateTime)
span_of carriers = span_behind None carriers

-- `, 2026-11-27T01:16:20Z to 2026-11-27T01:17:49Z`, where there are times
unfoldable pub span_part : Option (DateTime × DateTime) → List ℕ
span_part None = []
span_part (Some span) = codes ", " ++ second_text span.0 ++ codes " to " ++ second_text span.1

-- the first and the last time in micros
abbrev pub AreShown : Option (ℕ × ℕ) → Option (DateTime × DateTime) → Type 0
AreShown None span = span ≡ None
AreShown (Some micros) span =
    (first last : DateTime) × (span ≡ Some (first, last)) × IsShown (Some micros.0) (Some first)
    × IsShown (Some micros.1) (Some last)

-- times that can be written
abbrev pub FitsSpan : Option (ℕ × ℕ) → Type 0
FitsSpan span = IfSome span (λ s. (s.0 ≤ MOST_MICROS) × (s.1 ≤ MOST_MICROS))

-- micros of one line more
abbrev pub noted_span : Option (ℕ × ℕ) → Option ℕ → Option (ℕ × ℕ)
noted_span span None = span
noted_span None (Some micros) = Some (micros, micros)
noted_span (Some span) (Some micros) = Some (span.0, micros)
