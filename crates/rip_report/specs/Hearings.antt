-- What a run makes of a log that it reads to its end, whatever its lines say.
use Rattle.std.specs.Prelude.{◌≡◌, ◌⊎◌, ℕ, Bool, true, List, ◌++◌, Result, Ok, Err}
use Rattle.rip_plan.specs.Network.{Network}
use Rattle.rip_log.specs.Said.{AllSaid, AreAllSaid}
use Rattle.rip_log.specs.NextLineCall.{BeginsEndless}
use Rattle.rip_log.specs.Lines.{lines_of}
use Rattle.rip_table.specs.Events.{ComeTo, EventAt, last_event}
use Rattle.rip_table.specs.State.{State, new_state}
use Rattle.rip_table.specs.Tallies.{counts_of}
use Rattle.rip_table.specs.declared.error.CollectAllError.{CollectAllError}
use Rattle.rip_table.specs.declared.error.CollectAllError.TheVariants.{Log, Memory}
use Rattle.rip_report.specs.AnywayText.{AnywayRoutes, AnywayTable}
use Rattle.rip_report.specs.HeardText.{HeardText}
use Rattle.rip_report.specs.LeftOut.{is_all_joined}
use Rattle.rip_report.specs.PlanText.{OfPlan}
use Rattle.rip_report.specs.Written.{Written}
use Rattle.rip_report.specs.declared.status.RunError.{RunError}
use Rattle.rip_report.specs.declared.status.RunError.TheVariants as run

-- the lines of the text of a log come to these events, and make this table of a plan's new one
pub record LogComesTo (n : Network) (text : List ℕ) (events : List EventAt) (s : State)
    : Type 0 where
  pub all : AllSaid
  pub said : AreAllSaid text all
  pub of_lines : List EventAt
  pub come : ComeTo n (new_state n) all.said of_lines s
  pub whole : events ≡ of_lines ++ last_event all.too_many

-- one of the texts that a command has for the events and the table that the text of a log comes to
abbrev pub EventsOf
    : (List EventAt → State → Written → Type 0) → Network → List ℕ → Written → Type 0
EventsOf IsText n text w =
    (events : List EventAt) × (s : State) × LogComesTo n text events s × IsText events s w

-- the same for the bytes of a plan: what refuses the plan, or one of these texts
abbrev pub EventsText : (Network → List EventAt → State → Written → Type 0)
    → List ℕ → List ℕ → Written → Type 0
EventsText IsText plan log = OfPlan (λ n. EventsOf (IsText n) n log) plan

-- one of these texts, for a table from which nothing is left out
pub record OfAccepted (IsText : Network → List EventAt → State → Written → Type 0) (n : Network)
    (s : State) (w : Written) : Type 0 where
  pub events : List EventAt
  pub all : is_all_joined (counts_of events) ≡ true
  pub is_text : IsText n events s w

-- who is in a log, by the events that its lines come to
abbrev pub HeardOf : Network → List EventAt → State → Written → Type 0
HeardOf n events s = HeardText n events

-- the table of what is not refused in it
abbrev pub TableAnyway : Network → List EventAt → State → Written → Type 0
TableAnyway n events s = AnywayTable n s (counts_of events)

-- the routes of that table
abbrev pub RoutesAnyway : Network → List EventAt → State → Written → Type 0
RoutesAnyway n events s = AnywayRoutes n s (counts_of events)

-- a text has a line of more than 2^64 - 1 bytes
abbrev pub HasEndless : List ℕ → Type 0
HasEndless text =
    (front rest : List (List ℕ)) × (lines_of text ≡ front ++ rest) × BeginsEndless rest

-- a text was not read to its end: the source failed, or a line has no end
abbrev pub IsUnread : Bool → List ℕ → Type 0
IsUnread broken text = (broken ≡ true) ⊎ HasEndless text

-- why a run gives up where a log was not read to its end
abbrev pub heard_in : Result (Unit {0}) CollectAllError → Result (Unit {0}) RunError
heard_in (Ok u) = Ok u
heard_in (Err (Log e)) = Err run.Read
heard_in (Err Memory) = Err run.Memory
