-- How far a film of verdicts has come, and what was printed for it.
use Rattle.std.specs.Prelude.{◌≡◌, ◌⊎◌, ℕ, ◌+◌, ◌-◌, ◌<◌, ◌≤◌, Bool, true, false, List, [], ◌∷◌, ◌++◌, length, Option, Some, None, Result, Ok, Err}
use Rattle.std.specs.declared.alloc.AllocError.{AllocError}
use Rattle.rip_plan.specs.Network.{Network}
use Rattle.rip_log.specs.Cuts.{DropsLines, PassesLines}
use Rattle.rip_log.specs.Lines.{lines_of}
use Rattle.rip_log.specs.Taken.{Taken}
use Rattle.rip_log.specs.TimedCall.{bad_said, timed_capture, timed_said_of}
use Rattle.rip_log.specs.TimedText.{AreTimedSaid, LineSaid, TimedSaid, captured}
use Rattle.rip_log.specs.declared.limits.TheConstants.{MOST_LINE_NUMBER, MOST_SECONDS}
use Rattle.rip_log.specs.declared.timed.reader.TimedFault.{TimedFault}
use Rattle.rip_log.specs.declared.timed.reader.TimedLine.{TimedLine}
use Rattle.rip_log.specs.declared.timed.reader.TimedLine.TheVariants.{Bad, Record, Skipped}
use Rattle.rip_table.specs.State.{Fits}
use Rattle.rip_table.specs.Scenes.{LastsFor, View, new_view}
use Rattle.rip_table.specs.SceneViews.{view_of}
use Rattle.rip_table.specs.Seconds.{later_second, log_seconds, own_second, quiet, seconds_of}
use Rattle.rip_table.specs.Window.{Window, shown}
use Rattle.rip_table.specs.declared.scene.LineCause.TheVariants.{Log}
use Rattle.rip_report.specs.Hearings.{IsUnread}
use Rattle.rip_report.specs.Outs.{Adds, AddsOne, IsOnItsWay, Progress}
use Rattle.rip_report.specs.RefusalText.{refusal_line}
use Rattle.rip_report.specs.WatchText.{FilmOf, FilmToSettled, Watched, WatchedFront}
use Rattle.rip_report.specs.declared.status.RunError.{RunError}
use Rattle.rip_report.specs.declared.status.Status.{Status}
use Rattle.rip_report.specs.declared.status.Status.TheVariants.{Refused, Settled}
use Rattle.rip_report.specs.declared.watch.Watch.{Watch}

-- ---- seconds in which no line comes

-- what is printed for so many quiet seconds, or for those up to the first that is settled
abbrev pub QuietFilm : Network → Bool → List ℕ → ℕ → View → ℕ → Bool → List ℕ → List ℕ → Type 0
QuietFilm n until last second v count false ended text =
    FilmOf n until last (quiet n count second v) ended text
QuietFilm n until last second v count true ended text =
    (until ≡ true) × ((k : ℕ) × (k < count)
    × FilmToSettled n last (quiet n (k + 1) second v) ended text)

-- what is printed for the first of so many quiet seconds
abbrev pub QuietBegun : Network → Bool → List ℕ → ℕ → View → ℕ → List ℕ → Type 0
QuietBegun n until last second v count text =
    (k : ℕ) × (k < count)
    × ((ended : List ℕ) × FilmOf n until last (quiet n k second v) ended text)

-- ---- a line that is lent

-- the second of its time, if it has one
abbrev pub said_second : Option TimedSaid → Option ℕ
said_second None = None
said_second (Some said) = own_second said

abbrev pub line_second : TimedLine → Option ℕ
line_second line = said_second (timed_said_of line)

-- how many seconds come before it, the present one with them
abbrev pub seconds_before : ℕ → TimedLine → ℕ
seconds_before second line = later_second second (line_second line) - second

-- what is printed for the first of so many quiet seconds, or for all
abbrev pub LineBegun : Network → Bool → List ℕ → ℕ → View → ℕ → List ℕ → Type 0
LineBegun n until last second v count = QuietBegun n until last second v (count + 1)

-- lines, the first of which is lent, unless it is skipped
abbrev pub with_line : TimedLine → List LineSaid → List LineSaid
with_line Skipped lines = lines
with_line (Record r) lines =
    record { line = r.line; said = captured r.micros (timed_capture r) } ∷ lines
with_line (Bad fault) lines =
    record { line = fault.line; said = bad_said fault.micros fault.code } ∷ lines

-- ---- the lines of a log

-- where a film stands: whether it has begun, its present second, the verdict of the second before
-- it, and what is to be seen
pub record Stage : Type 0 where
  pub begun : Bool
  pub second : ℕ
  pub last : List ℕ
  pub view : View

abbrev pub stage_of : {T : Type 0} → (T → Window) → Watch T → Stage
stage_of window w = record {
  begun = w.begun;
  second = w.film.second;
  last = w.film.last.items;
  view = view_of window w.film.scene;
}

-- the table fits the plan, the second is one of the years to 9999, and nothing lasts for longer
-- than a window
pub record IsStage (n : Network) (window : ℕ) (s : Stage) : Type 0 where
  pub fits : Fits n (shown s.view.window)
  pub second : s.second ≤ MOST_SECONDS
  pub lasts : LastsFor window s.view

-- Of all these lines those at the end are to come, and this was printed for the seconds before the
-- present one.
pub data HasShown (n : Network) (window : ℕ) (until : Bool) (s : Stage)
    (all to_come : List LineSaid) (text : List ℕ) : Type 0 where
  nothing : s.begun ≡ false → s.last ≡ [] → s.view ≡ new_view n → all ≡ to_come → text ≡ []
      → HasShown n window until s all to_come text
  seconds : (before : List (ℕ × View)) → s.begun ≡ true
      → log_seconds n window all ≡ before ++ seconds_of n window s.second s.view to_come
      → FilmOf n until [] before s.last text → HasShown n window until s all to_come text

-- a film that has not begun, of a table in which nothing was heard
pub record IsNew (n : Network) (s : Stage) : Type 0 where
  pub begun : s.begun ≡ false
  pub last : s.last ≡ []
  pub view : s.view ≡ new_view n

-- a first line that has no time: it is skipped, or its refusal is added and ends the film
abbrev pub IsNotTimed : TimedLine → Progress → Progress → Option Status → Type 0
IsNotTimed line before after None = (line ≡ Skipped) × (after ≡ before)
IsNotTimed line before after (Some status) =
    (fault : TimedFault) × (line ≡ Bad fault) × (fault.micros ≡ None) × (status ≡ Refused)
    × Adds before after (refusal_line fault.line (Log fault.code))

-- What taking in a line adds, whatever was printed before and comes behind it: the film goes on, or
-- ends with a status, or memory lacks.
abbrev pub TakesLine : Network → ℕ → Bool → TimedLine → Stage → Stage → Progress → Progress
    → Result (Option Status) AllocError → Type 0
TakesLine n window until line old new before after (Ok None) = AddsOne before after (λ more.
    (all to_come : List LineSaid) (text : List ℕ)
    → HasShown n window until old all (with_line line to_come) text
    → HasShown n window until new all to_come (text ++ more))
TakesLine n window until line old new before after (Ok (Some status)) =
    AddsOne before after (λ more. (all to_come : List LineSaid) (text : List ℕ)
    → HasShown n window until old all (with_line line to_come) text
    → Watched n window until all (record { text = text ++ more; status = status }))
TakesLine n window until line old new before after (Err e) = AddsOne before after (λ more.
    (all to_come : List LineSaid) (text : List ℕ)
    → HasShown n window until old all (with_line line to_come) text
    → WatchedFront n window until all (text ++ more))

-- a status ends a film before its last line: that of a first line without a time, or of a settled
-- second that ends it
abbrev pub IsEnd : Bool → Status → Type 0
IsEnd until status = (status ≡ Refused) ⊎ ((until ≡ true) × (status ≡ Settled))

-- What the last second adds, whatever was printed before, or that memory lacks.
abbrev pub EndsFilm : Network → ℕ → Bool → Stage → Progress → Progress → Result Status AllocError
    → Type 0
EndsFilm n window until old before after (Ok status) =
    AddsOne before after (λ more. (all : List LineSaid) (text : List ℕ)
    → HasShown n window until old all [] text
    → Watched n window until all (record { text = text ++ more; status = status }))
EndsFilm n window until old before after (Err e) = after ≡ before

-- lines of known text say this, of which n others come before
abbrev pub SaysBehind : ℕ → Option (List ℕ) → List LineSaid → Type 0
SaysBehind n None said = Unit {0}
SaysBehind n (Some text) said = AreTimedSaid n (lines_of text) said

-- what was printed for the lines of a text before those to come, of which so many are behind
abbrev pub HasShownOf : Network → ℕ → Bool → Option (List ℕ) → Option (List ℕ) → ℕ → Stage
    → List ℕ → Type 0
HasShownOf n window until text left behind s printed =
    (to_come : List LineSaid) → SaysBehind behind left to_come
    → (all : List LineSaid) × SaysBehind 0 text all × HasShown n window until s all to_come printed

-- what is printed for a text to its end, or to a beginning of it
abbrev pub ShowsText : Network → ℕ → Bool → Option (List ℕ) → Result Status RunError → List ℕ
    → Type 0
ShowsText n window until text (Ok status) printed =
    (all : List LineSaid) × SaysBehind 0 text all
    × Watched n window until all (record { text = printed; status = status })
ShowsText n window until text (Err e) printed =
    (all : List LineSaid) × SaysBehind 0 text all × WatchedFront n window until all printed

-- known text was not read to its end: the source failed, or a line has no end, or the number of
-- lines
abbrev pub IsUnreadTo : Bool → Option (List ℕ) → Type 0
IsUnreadTo broken None = Unit {0}
IsUnreadTo broken (Some text) =
    IsUnread broken text ⊎ (MOST_LINE_NUMBER ≤ length (lines_of text))

-- A film is in step with its log: after the lines before the last one that was read, of a text of
-- which this is left now, what was printed for them was on its way, and no write had failed.
pub record IsInStep {K : Type 0} (taken : K → Taken) (broken : K → Bool) (n : Network) (window : ℕ)
    (until : Bool) (before : Progress) (text left : Option (List ℕ)) : Type 0 where
  pub behind : ℕ
  pub to_come : Option (List ℕ)
  pub passed : PassesLines text 0 to_come behind
  pub stage : Stage
  pub printed : List ℕ
  pub shown : HasShownOf n window until text to_come behind stage printed
  pub way : IsOnItsWay taken broken before.start (before.text ++ printed)
  pub drops : DropsLines text 0 left (behind + 1)
