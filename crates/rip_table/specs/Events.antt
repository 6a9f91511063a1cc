-- What the lines of a log come to where nothing ends the reading, and the table that they leave.
use Rattle.std.specs.Prelude.{◌≡◌, ◌+◌, ℕ, ◌&&◌, Bool, true, false, if◌then◌else◌, List, [], ◌∷◌, ◌++◌, Option, Some, None, Result, Ok, Err, ⊤}
use Rattle.std.specs.List.{AllByRecursion}
use Rattle.rip_wire.specs.Prefix.{Block}
use Rattle.rip_wire.specs.Message.{Message, request as a_request, response}
use Rattle.rip_wire.specs.Response.{IsResponseOf}
use Rattle.rip_wire.specs.declared.entry.Entry.{Entry}
use Rattle.rip_plan.specs.Network.{Network, found_at}
use Rattle.rip_plan.specs.Passes.{same_prefix}
use Rattle.rip_plan.specs.Relations.{IsAt}
use Rattle.rip_log.specs.Said.{AllSaid, Origin, Said, SaidAt, captured, bad as bad_line}
use Rattle.rip_log.specs.Lines.{Capture}
use Rattle.rip_log.specs.declared.error.LogCode.{LogCode}
use Rattle.rip_log.specs.declared.error.LogCode.TheVariants.{TooManyLines}
use Rattle.rip_log.specs.declared.limits.TheConstants.{MOST_LINES}
use Rattle.rip_table.specs.State.{State}
use Rattle.rip_table.specs.Joined.{interface_of, is_foreign, joined_message, message_of_capture}
use Rattle.rip_table.specs.LogJoin.{HasBadEntry, IsJoined, IsResponse, IsUnknown}
use Rattle.rip_table.specs.declared.error.TableError.{TableError}
use Rattle.rip_table.specs.declared.error.TableError.TheVariants.{NextHop}

-- what became of a response, a request or a bad line: a response is joined, or the table refuses
-- it, or nobody planned sent it
pub data Event : Type 0 where
  -- the interface
  joined : ℕ → Event
  -- the interface, why, and after NextHop the next hop of the first bad entry
  refused : ℕ → TableError → Option ℕ → Event
  stranger : Origin → Event
  -- of an interface, or of nobody planned
  request : Option ℕ → Event
  -- why, from where, and the interface that has that origin
  bad : LogCode → Option Origin → Option ℕ → Event

-- it, with the number of the line
pub record EventAt : Type 0 where
  pub line : ℕ
  pub event : Event

-- where a capture came from
abbrev pub origin_of_capture : Capture → Origin
origin_of_capture c = record { link = c.link; sender = c.sender }

-- ---- in the words of the subject

-- the interface, if any, that has this address on the link of this name
abbrev pub IsOf : Network → Origin → Option ℕ → Type 0
IsOf n o None = (i : ℕ) → IsAt n o.link o.sender i → ⊥
IsOf n o (Some i) = IsAt n o.link o.sender i

-- the same of an origin that may not be known
abbrev pub IsOfKnown : Network → Option Origin → Option ℕ → Type 0
IsOfKnown n None i = i ≡ None
IsOfKnown n (Some o) i = IsOf n o i

-- the next hop that is told after an error at an entry
abbrev pub IsHopAfter : TableError → Entry → Option ℕ → Type 0
IsHopAfter (NextHop p) e hop = hop ≡ Some e.next_hop
IsHopAfter other e hop = hop ≡ None

-- a response of interface i is refused by its first bad entry
pub record IsRefusedBy (n : Network) (s : State) (c : Capture) (i : ℕ) (error : TableError)
    (hop : Option ℕ) : Type 0 where
  pub first : HasBadEntry n s c error
  pub of : first.interface ≡ i
  pub after : IsHopAfter error first.entry hop

-- a record is a response of interface i, and is joined into this table
pub record IsJoinedBy (n : Network) (old : State) (line : ℕ) (c : Capture) (i : ℕ)
    (new : State) : Type 0 where
  pub entries : List Entry
  pub response : IsResponse n c i entries
  pub joined : IsJoined n old ((record { line = line; capture = c }) ∷ []) new

-- a record that is no response, of whom
pub record IsRequest (n : Network) (c : Capture) (of : Option ℕ) : Type 0 where
  pub says : (entries : List Entry) → IsResponseOf entries c.datagram → ⊥
  pub sender : IsOf n (origin_of_capture c) of

-- a line that says this comes to this event, and the table becomes this one
abbrev pub ComesTo : Network → State → ℕ → Said → Event → State → Type 0
ComesTo n old line (captured c) (joined i) new = IsJoinedBy n old line c i new
ComesTo n old line (captured c) (refused i error hop) new =
    (new ≡ old) × IsRefusedBy n old c i error hop
ComesTo n old line (captured c) (stranger o) new =
    (new ≡ old) × IsUnknown n c × (o ≡ origin_of_capture c)
ComesTo n old line (captured c) (request of) new = (new ≡ old) × IsRequest n c of
ComesTo n old line (captured c) (bad code o of) new = ⊥
ComesTo n old line (bad_line code o) (bad why from of) new =
    (new ≡ old) × (why ≡ code) × (from ≡ o) × IsOfKnown n o of
ComesTo n old line (bad_line code o) (joined i) new = ⊥
ComesTo n old line (bad_line code o) (refused i error hop) new = ⊥
ComesTo n old line (bad_line code o) (stranger from) new = ⊥
ComesTo n old line (bad_line code o) (request of) new = ⊥

-- lines come to these events, one each, in order, and the table becomes this one
abbrev pub ComeTo : Network → State → List SaidAt → List EventAt → State → Type 0
ComeTo n old [] events new = (events ≡ []) × (new ≡ old)
ComeTo n old (x ∷ said) [] new = ⊥
ComeTo n old (x ∷ said) (e ∷ events) new =
    (e.line ≡ x.line)
    × (mid : State) × ComesTo n old x.line x.said e.event mid × ComeTo n mid said events new

-- nothing is refused, a stranger's or bad
abbrev pub IsCalm : Event → Type 0
IsCalm (joined i) = ⊤
IsCalm (refused i error hop) = ⊥
IsCalm (stranger o) = ⊥
IsCalm (request of) = ⊤
IsCalm (bad code o of) = ⊥

abbrev pub AreCalm : List EventAt → Type 0
AreCalm events = AllByRecursion (λ e. IsCalm e.event) events

-- ---- what is computed

-- the next hop of the first of these entries that is of the prefix, below 16 and by another next
-- hop
abbrev pub hop_among : Network → ℕ → Block → List Entry → Option ℕ
hop_among n i p [] = None
hop_among n i p (e ∷ es) =
    if same_prefix e.prefix p && is_foreign n i e then Some e.next_hop else hop_among n i p es

-- the next hop that is told where interface i's entries are refused by this
abbrev pub hop_of : Network → ℕ → TableError → List Entry → Option ℕ
hop_of n i (NextHop p) entries = hop_among n i p entries
hop_of n i other entries = None

-- an event, and the table then
pub record Outcome : Type 0 where
  pub event : Event
  pub state : State

abbrev pub taken : Network → State → ℕ → List Entry → Result State TableError → Outcome
taken n s i entries (Ok t) = record { event = joined i; state = t }
taken n s i entries (Err error) =
    record { event = refused i error (hop_of n i error entries); state = s }

-- what a message from this origin comes to, by the interface that has it
abbrev pub came_from : Network → State → Origin → Message → Option ℕ → Outcome
came_from n s o a_request of = record { event = request of; state = s }
came_from n s o (response entries) None = record { event = stranger o; state = s }
came_from n s o (response entries) (Some i) =
    taken n s i entries (joined_message n i s (response entries))

-- the interface that has an origin, if both are known
abbrev pub interface_at : Network → Option Origin → Option ℕ
interface_at n None = None
interface_at n (Some o) = found_at n o.link o.sender

-- what a line that says this comes to
abbrev pub came : Network → State → Said → Outcome
came n s (captured c) =
    came_from n s (origin_of_capture c) (message_of_capture c) (interface_of n c)
came n s (bad_line code o) = record { event = bad code o (interface_at n o); state = s }

-- what lines come to, in order
abbrev pub events_of : Network → State → List SaidAt → List EventAt
events_of n s [] = []
events_of n s (x ∷ said) =
    (record { line = x.line; event = (came n s x.said).event })
    ∷ events_of n (came n s x.said).state said

-- the table that they leave
abbrev pub state_after : Network → State → List SaidAt → State
state_after n s [] = s
state_after n s (x ∷ said) = state_after n (came n s x.said).state said

-- the line that ends the reading where there are too many
abbrev pub last_event : Bool → List EventAt
last_event false = []
last_event true =
    (record { line = MOST_LINES + 1; event = bad TooManyLines None None }) ∷ []

-- what all lines of a text come to
abbrev pub all_events : Network → State → AllSaid → List EventAt
all_events n s all = events_of n s all.said ++ last_event all.too_many
