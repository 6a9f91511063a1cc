-- What refuses a log, by the events of its lines: the first that is refused, a stranger's or bad.
use Rattle.std.specs.Prelude.{◌≡◌, ℕ, List, ◌∷◌, ◌++◌, Option, Some, None}
use Rattle.rip_plan.specs.Network.{Network}
use Rattle.rip_log.specs.Said.{AllSaid, SaidAt}
use Rattle.rip_table.specs.State.{State}
use Rattle.rip_table.specs.Events.{AreCalm, Event, EventAt, joined, refused, stranger, request, bad, all_events, events_of, state_after}
use Rattle.rip_table.specs.declared.error.CollectCause.{CollectCause}
use Rattle.rip_table.specs.declared.error.CollectCause.TheVariants.{Log as OfLog, Table, UnknownSender}
use Rattle.rip_table.specs.declared.error.CollectError.{CollectError}

-- why a line that comes to this event refuses a log, if it does
abbrev pub refusal_by : ℕ → Event → Option CollectCause
refusal_by line (joined i) = None
refusal_by line (request of) = None
refusal_by line (refused i error hop) = Some (Table error)
refusal_by line (stranger o) = Some UnknownSender
refusal_by line (bad code o of) = Some (OfLog (record { code = code; line = line }))

-- the first event that refuses is at this line and for this cause, and the table is what the lines
-- before it leave
pub record IsFirstRefusal (n : Network) (old : State) (all : AllSaid) (new : State)
    (e : CollectError) : Type 0 where
  pub before : List SaidAt
  pub rest : List SaidAt
  pub said : all.said ≡ before ++ rest
  pub event : Event
  pub later : List EventAt
  pub events : all_events n old all
      ≡ events_of n old before ++ (record { line = e.line; event = event }) ∷ later
  pub calm : AreCalm (events_of n old before)
  pub cause : refusal_by e.line event ≡ Some e.cause
  pub state : new ≡ state_after n old before

-- no event refuses, and the table is the one that all lines leave; or this is the first that does
abbrev pub IsUpToRefusal : Network → State → AllSaid → State → Option CollectError → Type 0
IsUpToRefusal n old all new None =
    AreCalm (all_events n old all) × (new ≡ state_after n old all.said)
IsUpToRefusal n old all new (Some e) = IsFirstRefusal n old all new e
