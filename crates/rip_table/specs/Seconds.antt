-- The seconds of a log with times, and what is to be seen at the end of each.
use Rattle.std.specs.Prelude.{◌≡◌, ℕ, ◌<◌, ◌+◌, ◌-◌, ◌/◌, nat_lt, if◌then◌else◌, zero, suc, List, [], ◌∷◌, ◌++◌, Option, Some, None, slice_get}
use Rattle.rip_plan.specs.Network.{Network}
use Rattle.rip_log.specs.TimedText.{LineSaid, TimedSaid, captured, bad, untimed}
use Rattle.rip_table.specs.Scenes.{View, after_said, closed_view, new_view, passed_view}
use Rattle.rip_table.specs.State.{State}
use Rattle.rip_table.specs.Window.{shown}

-- so many seconds from this one on, in which no line comes
abbrev pub quiet : Network → ℕ → ℕ → View → List (ℕ × View)
quiet n zero second v = []
quiet n (suc count) second v =
    (second, closed_view n v) ∷ quiet n count (second + 1) (passed_view (closed_view n v))

-- what is to be seen behind them
abbrev pub after_quiet : Network → ℕ → View → View
after_quiet n zero v = v
after_quiet n (suc count) v = after_quiet n count (passed_view (closed_view n v))

-- the second of a line's time, if it has one
abbrev pub own_second : TimedSaid → Option ℕ
own_second (captured micros c) = Some (micros / 1_000_000)
own_second (bad micros code) = Some (micros / 1_000_000)
own_second (untimed code) = None

-- the second of a line: its own, or the one before, whichever is later
abbrev pub later_second : ℕ → Option ℕ → ℕ
later_second second None = second
later_second second (Some own) = if nat_lt second own then own else second

-- What is to be seen at the end of each second, from the present one on to that of the last line.
abbrev pub seconds_of : Network → ℕ → ℕ → View → List LineSaid → List (ℕ × View)
seconds_of n window second v [] = (second, closed_view n v) ∷ []
seconds_of n window second v (l ∷ lines) =
    quiet n (later_second second (own_second l.said) - second) second v
    ++ seconds_of n window (later_second second (own_second l.said))
    (after_said n window l.line l.said
    (after_quiet n (later_second second (own_second l.said) - second) v)) lines

-- the same from the second of the first line on, where it has one
abbrev pub from_first : Network → ℕ → Option ℕ → List LineSaid → List (ℕ × View)
from_first n window None lines = []
from_first n window (Some second) lines = seconds_of n window second (new_view n) lines

-- The seconds of a log: from that of its first line to that of its last. There is none where the
-- first line has no time.
abbrev pub log_seconds : Network → ℕ → List LineSaid → List (ℕ × View)
log_seconds n window [] = []
log_seconds n window (l ∷ lines) = from_first n window (own_second l.said) (l ∷ lines)

-- ---- a log that lies within a window

-- the first line has a second, and each line comes less than so many seconds after it
pub record AreWithin (window : ℕ) (said : List LineSaid) : Type 0 where
  pub first : LineSaid
  pub rest : List LineSaid
  pub split : said ≡ first ∷ rest
  pub second : ℕ
  pub begins : own_second first.said ≡ Some second
  pub close : (k own : ℕ) (l : LineSaid) → slice_get said k ≡ Some l
      → own_second l.said ≡ Some own → own < second + window

-- at the end of the last of these seconds there is no episode, and this is shown
pub record EndsShowing (seconds : List (ℕ × View)) (s : State) : Type 0 where
  pub before : List (ℕ × View)
  pub second : ℕ
  pub view : View
  pub split : seconds ≡ before ++ (second, view) ∷ []
  pub calm : view.episode ≡ None
  pub shows : shown view.window ≡ s
