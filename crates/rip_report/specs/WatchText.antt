-- What `watch` prints.
use Rattle.std.specs.Prelude.{◌≡◌, ◌≢◌, ◌↔◌, ℕ, Bool, true, false, List, [], ◌∷◌, ◌++◌, All, codes, Some, None}
use Rattle.rip_plan.specs.Network.{Network}
use Rattle.rip_log.specs.LogText.{AreLines}
use Rattle.rip_log.specs.TimedText.{AreTimedOf, AreTimedSaid, LineSaid, TextSays, untimed}
use Rattle.rip_log.specs.Times.{IsSecondText}
use Rattle.rip_log.specs.declared.error.LogCode.{LogCode}
use Rattle.rip_table.specs.Scenes.{View}
use Rattle.rip_table.specs.Seconds.{AreWithin, log_seconds}
use Rattle.rip_table.specs.State.{State}
use Rattle.rip_table.specs.Window.{shown}
use Rattle.rip_check.specs.Laws.{ShowsRightTables}
use Rattle.rip_check.specs.Told.{told}
use Rattle.rip_check.specs.Walks.{PacketsArrive}
use Rattle.rip_table.specs.declared.scene.Episode.{Episode}
use Rattle.rip_table.specs.declared.scene.LineCause.TheVariants.{Log}
use Rattle.rip_report.specs.AuditText.{VerdictText}
use Rattle.rip_report.specs.PlanText.{OfPlan}
use Rattle.rip_report.specs.RefusalText.{refusal_line}
use Rattle.rip_report.specs.Written.{Written}
use Rattle.rip_report.specs.declared.status.Status.{Status}
use Rattle.rip_report.specs.declared.status.Status.TheVariants.{Refused, Settled, Unclear}

-- the verdict of a second: the line of the episode's first refusal, or the verdict on what is shown
pub data SceneText (n : Network) (v : View) : Written → Type 0 where
  a_refusal : (e : Episode) → v.episode ≡ Some e
      → SceneText n v (record { text = refusal_line e.first.line e.first.cause; status = Refused })
  of_table : (w : Written) → v.episode ≡ None → VerdictText n (shown v.window) false w
      → SceneText n v w

-- a second is right: nothing is refused, and what is shown shows right tables
abbrev pub IsRightSecond : Network → View → Type 0
IsRightSecond n v = (v.episode ≡ None) × ShowsRightTables n (told n (shown v.window))

-- its verdict is Settled exactly where it is right, and then packets arrive
pub record SettlesRightly (n : Network) (v : View) (status : Status) : Type 0 where
  pub right : (status ≡ Settled) ↔ IsRightSecond n v
  pub arrive : status ≡ Settled → PacketsArrive n (told n (shown v.window))

-- What is printed for a second, where `last` is the verdict of the second before: its time and its
-- verdict, unless the verdict is the same.
pub record IsShot (n : Network) (second : ℕ) (v : View) (last : List ℕ) (w : Written)
    (text : List ℕ) : Type 0 where
  pub verdict : SceneText n v w
  pub settles : SettlesRightly n v w.status
  pub same : w.text ≡ last → text ≡ []
  pub other : w.text ≢ last → (time : List ℕ) × IsSecondText second time
      × (text ≡ time ++ codes " " ++ w.text)

-- Seconds, one after the other, with what is to be seen at the end of each: what is printed for
-- them, the last verdict, and the statuses of all.
pub data Shots (n : Network)
    : List ℕ → List (ℕ × View) → List ℕ → List ℕ → List Status → Type 0 where
  none : (last : List ℕ) → Shots n last [] [] last []
  one : (last text more ended : List ℕ) (second : ℕ) (v : View) (w : Written)
      (seconds : List (ℕ × View)) (statuses : List Status)
      → IsShot n second v last w text → Shots n w.text seconds more ended statuses
      → Shots n last ((second, v) ∷ seconds) (text ++ more) ended (w.status ∷ statuses)

-- no status is Settled
abbrev pub AreNotSettled : List Status → Type 0
AreNotSettled statuses = All (λ status. status ≢ Settled) statuses

-- What is printed for seconds, and the last verdict; no second is settled where that ends a film.
abbrev pub FilmOf : Network → Bool → List ℕ → List (ℕ × View) → List ℕ → List ℕ → Type 0
FilmOf n until last seconds ended text =
    (statuses : List Status) × Shots n last seconds text ended statuses
    × (until ≡ true → AreNotSettled statuses)

-- the same, where the last of the seconds is the first that is settled
abbrev pub FilmToSettled : Network → List ℕ → List (ℕ × View) → List ℕ → List ℕ → Type 0
FilmToSettled n last seconds ended text =
    (statuses : List Status) × Shots n last seconds text ended (statuses ++ Settled ∷ [])
    × AreNotSettled statuses

-- What is printed for the lines of a log: where there is none, nothing; where the first has no
-- time, its refusal; or else for all its seconds, of which none is settled where that would end it;
-- or for those up to the first that is, where that ends it.
pub data Watched (n : Network) (window : ℕ) (until : Bool) (said : List LineSaid)
    : Written → Type 0 where
  no_line : said ≡ [] → Watched n window until said (record { text = []; status = Unclear })
  no_time : (first : LineSaid) (others : List LineSaid) (code : LogCode) → said ≡ first ∷ others
      → first.said ≡ untimed code → Watched n window until said
      (record { text = refusal_line first.line (Log code); status = Refused })
  to_end : (text ended : List ℕ) (statuses : List Status) (status : Status)
      → Shots n [] (log_seconds n window said) text ended (statuses ++ status ∷ [])
      → (until ≡ true → AreNotSettled (statuses ++ status ∷ []))
      → Watched n window until said (record { text = text; status = status })
  to_settled : (text ended : List ℕ) (before after : List (ℕ × View)) → until ≡ true
      → log_seconds n window said ≡ before ++ after → FilmToSettled n [] before ended text
      → Watched n window until said (record { text = text; status = Settled })

-- a second of a log is right: its last, or any where the first such ends a film
abbrev pub EndsRight : Network → ℕ → Bool → List LineSaid → Type 0
EndsRight n window until said =
    (before after : List (ℕ × View)) × (second : ℕ) × (v : View)
    × (log_seconds n window said ≡ before ++ (second, v) ∷ after)
    × (until ≡ false → after ≡ []) × IsRightSecond n v

-- all that is printed for them, or what is printed for the first of their seconds
pub data WatchedFront (n : Network) (window : ℕ) (until : Bool) (said : List LineSaid)
    (text : List ℕ) : Type 0 where
  all : (status : Status) → Watched n window until said (record { text = text; status = status })
      → WatchedFront n window until said text
  seconds : (ended : List ℕ) (before after : List (ℕ × View))
      → log_seconds n window said ≡ before ++ after → FilmOf n until [] before ended text
      → WatchedFront n window until said text

-- what is printed for the text of a log with times, and for a beginning of it
abbrev pub WatchedLog : Network → ℕ → Bool → List ℕ → Written → Type 0
WatchedLog n window until log w =
    (said : List LineSaid) × TextSays log said × Watched n window until said w

abbrev pub WatchedLogFront : Network → ℕ → Bool → List ℕ → Written → Type 0
WatchedLogFront n window until log w =
    (said : List LineSaid) × TextSays log said × WatchedFront n window until said w.text

-- the same for the bytes of a plan: what refuses the plan, or what is printed for the log
abbrev pub WatchText : ℕ → Bool → List ℕ → List ℕ → Written → Type 0
WatchText window until plan log = OfPlan (λ n. WatchedLog n window until log) plan

abbrev pub WatchFront : ℕ → Bool → List ℕ → List ℕ → Written → Type 0
WatchFront window until plan log = OfPlan (λ n. WatchedLogFront n window until log) plan

-- ---- a log that lies within a window

-- the text of a log with times that lie within so many seconds, and that of the log without them
pub record LiesWithin (window : ℕ) (text plain : List ℕ) : Type 0 where
  pub lines : List (List ℕ)
  pub are_lines : AreLines text lines
  pub bares : List (List ℕ)
  pub are_bares : AreLines plain bares
  pub timed : AreTimedOf lines bares
  pub said : List LineSaid
  pub says : AreTimedSaid 0 lines said
  pub within : AreWithin window said

-- a status is that of a verdict on the table
abbrev pub IsVerdictStatus : Network → State → Status → Type 0
IsVerdictStatus n s status =
    (text : List ℕ) × VerdictText n s false (record { text = text; status = status })

-- the verdicts that the last of these seconds may have are those on the table
pub record EndsAsJudged (n : Network) (seconds : List (ℕ × View)) (s : State) : Type 0 where
  pub before : List (ℕ × View)
  pub second : ℕ
  pub view : View
  pub split : seconds ≡ before ++ (second, view) ∷ []
  pub same : (w : Written) → SceneText n view w ↔ VerdictText n s false w
