-- The times in front of the lines of a log.
use Rattle.std.proofs.Common.{◌≡◌, ◌/◌, ◌∙◌, ℕ, List, [], ◌∷◌, ◌++◌, Option, Some, None, Bool, true, Ok, ap, arith, refl, sym}
use Rattle.rip_log.specs.Times.{IsSecondText, second_text}
use Rattle.rip_capture.specs.Pcap.{Frame}
use Rattle.rip_log.specs.declared.time.date_time.DateTime.{DateTime}
use Rattle.rip_report.specs.LineTimes.{AreShown, FitsSpan, FindsTime, HasMicros, IsShown, IsTimed, noted_span, span_behind, span_with}
use Rattle.rip_report.specs.Selections.{Carrier}

-- the second of a time that is shown
pub second-shown : (micros : ℕ) (t : DateTime) → IsShown (Some micros) (Some t) → IsSecondText (micros / 1000000) (second_text t)
second-shown micros t (u, e, is, counted, few) =
    let same : t ≡ u = cc e in
    record { shown = u; exists = is; counted = omega (arith, counted, is.1.3); spelled = ap second_text (sym same) }

-- one line more
pub shown-with : (micros : Option (ℕ × ℕ)) (span : Option (DateTime × DateTime)) (more : Option ℕ) (at : Option DateTime) → AreShown micros span → IsShown more at → AreShown (noted_span micros more) (span_with span at)
shown-with micros span None at are is = rw is are
shown-with None span (Some n) at are (t, e, exists, counted, few) =
    rw (e, are) (t, t, refl, (t, refl, exists, counted, few), (t, refl, exists, counted, few))
shown-with (Some m) span (Some n) at (first, last, is, one, other) (t, e, exists, counted, few) =
    rw (e, is) (first, t, refl, one, (t, refl, exists, counted, few))

pub span-snoc : (span : Option (DateTime × DateTime)) (cs : List Carrier) (c : Carrier) → span_behind span (cs ++ c ∷ []) ≡ span_with (span_behind span cs) c.time
span-snoc span [] c = refl
span-snoc span (d ∷ cs) c = span-snoc (span_with span d.time) cs c

-- what is shown can be written
pub shown-fits : (micros : Option (ℕ × ℕ)) (span : Option (DateTime × DateTime)) → AreShown micros span → FitsSpan micros
shown-fits None span are = tt
shown-fits (Some m) span (first, last, is, one, other) = (one.4, other.4)

-- ---- the time of a packet's line

pub found-time : (asked : Bool) (p : Frame) (time : Option ℕ) → asked ≡ true → FindsTime asked p (Ok time) → (micros : ℕ) × HasMicros p micros
found-time asked p None e found = absurd (cc (sym e ∙ found))
found-time asked p (Some micros) e found = (micros, found.1)

pub timed-so : (asked : Bool) (p : Frame) (time : Option ℕ) (at : Option DateTime) → FindsTime asked p (Ok time) → IsShown time at → IsTimed asked p at
timed-so asked p None at found shown = record { micros = None; shown = shown; none = λ e. refl; some = λ e. absurd (cc (sym e ∙ found)) }
timed-so asked p (Some micros) at found shown = record { micros = Some micros; shown = shown; none = λ e. absurd (cc (sym e ∙ found.0)); some = λ e. (micros, refl, found.1) }
