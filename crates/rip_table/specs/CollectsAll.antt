-- What `collect_all` tells a listener, and what it leaves.
use Rattle.std.specs.Prelude.{◌≡◌, ◌⊎◌, ◌+◌, ◌<◌, ◌≤◌, ℕ, Bool, true, false, List, [], ◌∷◌, ◌++◌, length, Option, Some, None, Result, Ok, Err, IfSome, is_ok, ⊤}
use Rattle.std.specs.Option.{option_map}
use Rattle.rip_wire.specs.Datagram.{entries_of, message_of}
use Rattle.rip_plan.specs.Network.{Network}
use Rattle.rip_log.specs.Said.{AllSaid, Origin, Said, SaidAt, captured, bad as bad_line, all_of, onto_said}
use Rattle.rip_log.specs.NextCall.{IsOver, has_stopped, lines_behind, source_of, text}
use Rattle.rip_log.specs.NextLineCall.{BeginsEndless, said_to_come}
use Rattle.rip_log.specs.Lines.{lines_of}
use Rattle.rip_log.specs.Wholes.{OfWhole, Went}
use Rattle.rip_log.specs.declared.error.LogCode.TheVariants as codes
use Rattle.rip_log.specs.declared.error.LogError.{LogError}
use Rattle.rip_log.specs.declared.limits.TheConstants.{MOST_LINES}
use Rattle.rip_log.specs.declared.reader.LogReader.{LogReader}
use Rattle.rip_table.specs.Events.{Event, EventAt, joined, refused, stranger, request, bad, ComeTo, all_events, came, events_of, hop_of, last_event, state_after}
use Rattle.rip_table.specs.Joined.{MayAllocateFor}
use Rattle.rip_table.specs.State.{Fits, State}
use Rattle.rip_table.specs.declared.error.CollectAllError.{CollectAllError}
use Rattle.rip_table.specs.declared.error.CollectAllError.TheVariants.{Log as OfLog, Memory}
use Rattle.rip_table.specs.declared.events.Event.{Event as EventTold}
use Rattle.rip_table.specs.declared.events.Event.TheVariants as told
use Rattle.rip_table.specs.declared.events.Sender.{Sender}

-- the origin that a sender tells
abbrev pub origin_of_sender : Sender → Origin
origin_of_sender s = record { link = s.link.now; sender = s.address }

-- the event that is told to a listener
abbrev pub event_told : Network → EventTold → Event
event_told n (told.Joined i) = joined i
event_told n (told.Refused r) =
    refused r.interface r.error
    (hop_of n r.interface r.error (entries_of (message_of r.datagram.now)))
event_told n (told.Stranger s) = stranger (origin_of_sender s)
event_told n (told.Request of) = request of
event_told n (told.Bad b) = bad b.code (option_map origin_of_sender b.origin) b.interface

-- the interface that an event names, if any, is one of the plan
abbrev pub IsPlanned : Network → Event → Type 0
IsPlanned n (joined i) = i < length n.interfaces
IsPlanned n (refused i error hop) = i < length n.interfaces
IsPlanned n (stranger o) = ⊤
IsPlanned n (request of) = IfSome of (λ i. i < length n.interfaces)
IsPlanned n (bad code o of) = IfSome of (λ i. i < length n.interfaces)

-- a listener that holds of some events then holds of these more; what it holds of is told by `was`
-- before and by `then` after
abbrev pub HoldsMore : (List EventAt → Type 0) → (List EventAt → Type 0) → List EventAt → Type 0
HoldsMore was then more = (events : List EventAt) → was events → then (events ++ more)

-- it holds of some events, of no more than a log has lines
abbrev pub HasRoom : (List EventAt → Type 0) → Type 0
HasRoom holds = (events : List EventAt) × holds events × (length events ≤ MOST_LINES)

-- a table may allocate for a line that says this: for a record that brings a pair
abbrev pub SaidMayAllocate : Network → State → Said → Type 0
SaidMayAllocate n s (captured c) = MayAllocateFor n s c
SaidMayAllocate n s (bad_line code o) = ⊥

-- memory was refused at a line that says this: to the table, which is as it was, and nothing is
-- told of the line; or to the listener, which may allocate at such an event, and the table is what
-- the line makes of it
abbrev pub IsRefusedMemory : (Event → Type 0) → Network → State → Said → State → Type 0 → Type 0
IsRefusedMemory may n old said new untold =
    ((new ≡ old) × SaidMayAllocate n old said × untold)
    ⊎ ((new ≡ (came n old said).state) × may (came n old said).event)

-- what a line that says this makes of the table and the listener, or that memory was refused
abbrev pub Hears : (Event → Type 0) → Network → State → Said → ℕ → State → (List EventAt → Type 0)
    → (List EventAt → Type 0) → Result (Unit {0}) CollectAllError → Type 0
Hears may n old said line new was then (Ok u) =
    (new ≡ (came n old said).state)
    × HoldsMore was then ((record { line = line; event = (came n old said).event }) ∷ [])
Hears may n old said line new was then (Err e) =
    (e ≡ Memory) × IsRefusedMemory may n old said new (HoldsMore was then [])

-- of what is said some lines were told, and the others are left
pub record Told (n : Network) (old : State) (all : AllSaid) (new : State) (events : List EventAt)
    (left : AllSaid) : Type 0 where
  pub taken : List SaidAt
  pub said : all.said ≡ taken ++ left.said
  pub too_many : all.too_many ≡ left.too_many
  pub events_are : events ≡ events_of n old taken
  pub state_is : new ≡ state_after n old taken

-- the same where bytes are modelled
abbrev pub ToldKnown
    : Network → State → Option AllSaid → State → List EventAt → Option AllSaid → Type 0
ToldKnown n old None new events left = Unit {0}
ToldKnown n old (Some all) new events None = ⊥
ToldKnown n old (Some all) new events (Some left) = Told n old all new events left

-- what a listener heard of a whole log, and the table then
abbrev pub ToldOutcome : Network → State → Option AllSaid → State → (List EventAt → Type 0)
    → (List EventAt → Type 0) → Result (Unit {0}) CollectAllError → Type 0
ToldOutcome n old (Some all) new was then (Ok u) =
    HoldsMore was then (all_events n old all) × (new ≡ state_after n old all.said)
ToldOutcome n old all new was then result = Unit {0}

-- the same in the words of the subject
abbrev pub SaidOutcome : Network → State → Option AllSaid → State → (List EventAt → Type 0)
    → (List EventAt → Type 0) → Result (Unit {0}) CollectAllError → Type 0
SaidOutcome n old (Some all) new was then (Ok u) =
    (events : List EventAt) × ComeTo n old all.said events new
    × HoldsMore was then (events ++ last_event all.too_many)
SaidOutcome n old all new was then result = Unit {0}

-- the line after those behind could not be read, of a text that others come before: the lines
-- before it were told; the source failed, or the line has no end
pub record UnreadAt (n : Network) (old : State) (text : List ℕ) (others behind : ℕ) (failed : Bool)
    (new : State) (was then : List EventAt → Type 0) : Type 0 where
  pub passed : List (List ℕ)
  pub rest : List (List ℕ)
  pub lines : lines_of text ≡ passed ++ rest
  pub before : behind ≡ others + length passed
  pub events : List EventAt
  pub told : Told n old (all_of others (lines_of text)) new events (all_of behind rest)
  pub heard : HoldsMore was then events
  pub cause : (failed ≡ true) ⊎ BeginsEndless rest

-- the same where bytes are modelled
abbrev pub UnreadAtKnown : Network → State → Option (List ℕ) → ℕ → ℕ → Bool → State
    → (List EventAt → Type 0) → (List EventAt → Type 0) → Type 0
UnreadAtKnown n old None others behind failed new was then = Unit {0}
UnreadAtKnown n old (Some text) others behind failed new was then =
    UnreadAt n old text others behind failed new was then

-- memory was refused at a line: those before it were told, and those after it are left
pub record StuckAt (may : Event → Type 0) (n : Network) (old : State) (all : AllSaid) (new : State)
    (was then : List EventAt → Type 0) (line : ℕ) (left : AllSaid) : Type 0 where
  pub said : Said
  pub mid : State
  pub events : List EventAt
  pub told : Told n old all mid events (onto_said (record { line = line; said = said }) left)
  pub allocates : IsRefusedMemory may n mid said new (HoldsMore was then events)

-- the same where bytes are modelled; or memory was refused at the line too many, at which the
-- reader stops
abbrev pub StuckAtKnown : (Event → Type 0) → Network → State → Option AllSaid → State
    → (List EventAt → Type 0) → (List EventAt → Type 0) → ℕ → Option AllSaid → Bool → Type 0
StuckAtKnown may n old None new was then line left stopped = Unit {0}
StuckAtKnown may n old (Some all) new was then line left true =
    (all.too_many ≡ true) × (new ≡ state_after n old all.said)
    × may (bad codes.TooManyLines None None)
StuckAtKnown may n old (Some all) new was then line None false = ⊥
StuckAtKnown may n old (Some all) new was then line (Some left) false =
    StuckAt may n old all new was then line left

-- the reader's error is this one
abbrev pub IsLogError : Result (Unit {0}) CollectAllError → (LogError → Type 0) → Type 0
IsLogError (Ok u) P = Unit {0}
IsLogError (Err (OfLog e)) P = P e
IsLogError (Err Memory) P = Unit {0}

-- what is answered of a reader that had stopped
abbrev pub already_ended : {R : Type 0} → LogReader R → CollectAllError
already_ended before =
    OfLog (record { code = codes.Ended; line = lines_behind before + 1 })

-- the reader failed
abbrev pub has_failed : Result (Unit {0}) CollectAllError → Bool
has_failed (Ok u) = false
has_failed (Err (OfLog e)) = true
has_failed (Err Memory) = false

-- what `collect_all` tells a listener and leaves
pub record CollectsAll {R : Type 0} (given : R → List ℕ) (coming : R → Option (List ℕ))
    (broken at_end : R → Bool) (n : Network) (old new : State) (before after : LogReader R)
    (may : Event → Type 0) (was then : List EventAt → Type 0)
    (result : Result (Unit {0}) CollectAllError) : Type 0 where
  -- of whichever text the source has begun to give
  pub told : has_stopped before ≡ false → OfWhole given at_end (source_of after) (λ coming.
      ToldOutcome n old (said_to_come coming before) new was then result)
  pub said : has_stopped before ≡ false → OfWhole given at_end (source_of after) (λ coming.
      SaidOutcome n old (said_to_come coming before) new was then result)
  -- the reader's error is Read, and comes only where the source failed while a line was read, or
  -- that line has no end
  pub read : has_stopped before ≡ false → IsLogError result (λ e. (e.code ≡ codes.Read)
      × OfWhole given at_end (source_of after) (λ coming.
      UnreadAtKnown n old (text coming before) (lines_behind before) (lines_behind after)
      (broken (source_of after)) new was then))
  -- it is at the line after those behind the reader, which has stopped
  pub here : IsLogError result (λ e.
      (e.line ≡ lines_behind after + 1) × (has_stopped after ≡ true))
  -- Memory only at a line that was read, or at the line too many, where table or listener may
  -- allocate
  pub allocates : result ≡ Err Memory → OfWhole given at_end (source_of after) (λ coming.
      StuckAtKnown may n old (said_to_come coming before) new was then (lines_behind after)
      (said_to_come coming after) (has_stopped after))
  pub further : result ≡ Err Memory →
      (lines_behind before < lines_behind after) ⊎ (has_stopped after ≡ true)
  pub marks : has_failed result ≡ false → broken (source_of after) ≡ broken (source_of before)
  -- of a reader that had stopped there is nothing to tell
  pub stopped : has_stopped before ≡ true
      → (new ≡ old) × HoldsMore was then [] × (result ≡ Err (already_ended before))
  -- Ok only where the text has come to its end, or the reader has stopped at a line too many
  pub over : is_ok result ≡ true → has_stopped after ≡ false → IsOver at_end after
  pub stops : is_ok result ≡ true → OfWhole given at_end (source_of after) (λ coming.
      IfSome (said_to_come coming before) (λ all. has_stopped after ≡ all.too_many))
  pub went : Went given coming at_end (source_of before) (source_of after)
  pub fits : Fits n new
