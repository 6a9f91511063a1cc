-- Who spoke in a log: of the events of each kind how many there are, and the lines of the first and
-- of the last.
use Rattle.std.specs.Prelude.{◌≡◌, ℕ, zero, suc, ◌+◌, ◌<◌, ◌≤◌, ◌==◌, ◌&&◌, ◌||◌, nat_le, if◌then◌else◌, Bool, true, false, not, List, [], ◌∷◌, ◌++◌, length, map, Option, Some, None, slice_get, bytes_eq, string_bytes}
use Rattle.std.specs.List.{list_any}
use Rattle.std.specs.Option.{option_or, option_map_or}
use Rattle.rip_log.specs.Said.{Origin}
use Rattle.rip_log.specs.declared.error.LogCode.{LogCode}
use Rattle.rip_log.specs.declared.error.LogCode.TheVariants.{LongLine, Fields, LinkName, Sender, Hex, TooManyLines}
use Rattle.rip_log.specs.declared.limits.TheConstants.{MOST_LINES}
use Rattle.rip_table.specs.Events.{Event, EventAt, joined, refused, stranger, request, bad}
use Rattle.rip_table.specs.declared.tallies.Tallies.{Tallies}
use Rattle.rip_table.specs.declared.tallies.counts.Counts.{Counts}
use Rattle.rip_table.specs.declared.tallies.lines.Lines.{Lines}
use Rattle.rip_table.specs.declared.tallies.strangers.Stranger.{Stranger}
use Rattle.rip_table.specs.declared.tallies.strangers.StrangerTally.{StrangerTally}
use Rattle.rip_table.specs.declared.tallies.strangers.TheConstants.{MOST_STRANGERS}
use Rattle.rip_table.specs.declared.tallies.interface.InterfaceTally.{InterfaceTally}
use Rattle.rip_table.specs.declared.tallies.interface.Refusal.{Refusal}
use Rattle.rip_table.specs.declared.tallies.interface.Sent.{Sent}
use Rattle.rip_table.specs.declared.tallies.interface.Sent.TheVariants.{Joined, Refused, Bad, Asked}

-- ---- lines

-- the lines of the events of a kind
abbrev pub lines_where : (Event → Bool) → List EventAt → List ℕ
lines_where is [] = []
lines_where is (e ∷ events) =
    if is e.event then e.line ∷ lines_where is events else lines_where is events

-- the last of these numbers, or this one
abbrev pub last_of : ℕ → List ℕ → ℕ
last_of n [] = n
last_of n (m ∷ numbers) = last_of m numbers

-- how many lines these are, the first and the last
abbrev pub lines_in : List ℕ → Lines
lines_in [] = record { count = 0; first = 0; last = 0 }
lines_in (n ∷ numbers) =
    record { count = length (n ∷ numbers); first = n; last = last_of n numbers }

-- the lines with one more
abbrev pub with_line : Lines → ℕ → Lines
with_line lines n = record {
  count = lines.count + 1;
  first = if lines.count == 0 then n else lines.first;
  last = n;
}

-- ---- of an interface

abbrev pub is_joined : ℕ → Event → Bool
is_joined i (joined j) = i == j
is_joined i other = false

abbrev pub is_refused : ℕ → Event → Bool
is_refused i (refused j error hop) = i == j
is_refused i other = false

-- a request of the interface
abbrev pub is_asked : ℕ → Event → Bool
is_asked i (request (Some j)) = i == j
is_asked i other = false

-- a bad line of the interface
abbrev pub is_bad : ℕ → Event → Bool
is_bad i (bad code origin (Some j)) = i == j
is_bad i other = false

-- why a response of the interface is refused, if it is
abbrev pub refusal_of : ℕ → Event → Option Refusal
refusal_of i (refused j error hop) =
    if i == j then Some (record { error = error; next_hop = hop }) else None
refusal_of i other = None

-- why a line of the interface is bad, if it is
abbrev pub code_of : ℕ → Event → Option LogCode
code_of i (bad code origin (Some j)) = if i == j then Some code else None
code_of i other = None

-- the first of what the events have
abbrev pub first_of : {X : Type 0} → (Event → Option X) → List EventAt → Option X
first_of has [] = None
first_of has (e ∷ events) = option_or (has e.event) (first_of has events)

-- the responses of an interface: true where one was joined, false where it was refused
abbrev pub outcomes_of : ℕ → List EventAt → List Bool
outcomes_of i [] = []
outcomes_of i (e ∷ events) =
    if is_joined i e.event then true ∷ outcomes_of i events
    else if is_refused i e.event then false ∷ outcomes_of i events
    else outcomes_of i events

-- whether the last response was joined, where one was before these or none
abbrev pub last_outcome : Bool → List Bool → Bool
last_outcome was [] = was
last_outcome was (b ∷ outcomes) = last_outcome b outcomes

-- the refused responses before which one was joined
abbrev pub runs_in : Bool → List Bool → ℕ
runs_in was [] = 0
runs_in was (true ∷ outcomes) = runs_in true outcomes
runs_in true (false ∷ outcomes) = runs_in false outcomes + 1
runs_in false (false ∷ outcomes) = runs_in false outcomes

-- what an interface sent
abbrev pub interface_tally : ℕ → List EventAt → InterfaceTally
interface_tally i events = record {
  joined = lines_in (lines_where (is_joined i) events);
  refused = lines_in (lines_where (is_refused i) events);
  runs = runs_in true (outcomes_of i events);
  first_refusal = first_of (refusal_of i) events;
  bad = lines_in (lines_where (is_bad i) events);
  first_bad = first_of (code_of i) events;
  requests = lines_in (lines_where (is_asked i) events);
  in_order = last_outcome true (outcomes_of i events);
}

-- ---- one event more

-- the lines with this one, where it is one of them
abbrev pub if_line : Bool → Lines → ℕ → Lines
if_line b lines n = if b then with_line lines n else lines

-- what an interface sent, with one event more
abbrev pub with_event : ℕ → InterfaceTally → EventAt → InterfaceTally
with_event i t e = record {
  joined = if_line (is_joined i e.event) t.joined e.line;
  refused = if_line (is_refused i e.event) t.refused e.line;
  runs = if is_refused i e.event && t.in_order then t.runs + 1 else t.runs;
  first_refusal = option_or t.first_refusal (refusal_of i e.event);
  bad = if_line (is_bad i e.event) t.bad e.line;
  first_bad = option_or t.first_bad (code_of i e.event);
  requests = if_line (is_asked i e.event) t.requests e.line;
  in_order = is_joined i e.event || (t.in_order && not (is_refused i e.event));
}

-- what an interface sent is this event; of a bad line, with this origin
abbrev pub sent_event : ℕ → Option Origin → Sent → Event
sent_event i origin Joined = joined i
sent_event i origin (Refused r) = refused i r.error r.next_hop
sent_event i origin (Bad code) = bad code origin (Some i)
sent_event i origin Asked = request (Some i)

-- no number of it is above n
pub record IsAtMost (n : ℕ) (t : InterfaceTally) : Type 0 where
  pub joined : t.joined.count ≤ n
  pub refused : t.refused.count ≤ n
  pub runs : t.runs ≤ n
  pub bad : t.bad.count ≤ n
  pub requests : t.requests.count ≤ n

-- each interface has its tally
pub record AreInterfaceTallies (tallies : List InterfaceTally) (events : List EventAt)
    : Type 0 where
  pub at : (i : ℕ) → i < length tallies → slice_get tallies i ≡ Some (interface_tally i events)

-- ---- of strangers

-- two origins are the same
abbrev pub same_origin : Origin → Origin → Bool
same_origin o p = bytes_eq o.link p.link && (o.sender == p.sender)

-- an origin is among these
abbrev pub is_origin_of : List Origin → Origin → Bool
is_origin_of origins o = list_any (same_origin o) origins

-- the stranger that sent it: a response, or a line that is bad by its datagram
abbrev pub stranger_of : Event → Option Origin
stranger_of (stranger o) = Some o
stranger_of (bad code (Some o) None) = Some o
stranger_of other = None

-- a stranger's response, or a line of one that is bad by its datagram
abbrev pub IsOfStranger : Event → Type 0
IsOfStranger e = (o : Origin) × (stranger_of e ≡ Some o)

-- a response of the stranger
abbrev pub is_response_of : Origin → Event → Bool
is_response_of o (stranger p) = same_origin o p
is_response_of o other = false

-- a bad line of the stranger
abbrev pub is_bad_of : Origin → Event → Bool
is_bad_of o (bad code (Some p) None) = same_origin o p
is_bad_of o other = false

-- why a line of the stranger is bad, if it is
abbrev pub code_of_stranger : Origin → Event → Option LogCode
code_of_stranger o (bad code (Some p) None) = if same_origin o p then Some code else None
code_of_stranger o other = None

-- the strangers that are told, with one who comes then: unless there are too many already
abbrev pub with_told : Option Origin → List Origin → List Origin
with_told None told = told
with_told (Some o) told =
    if is_origin_of told o || nat_le MOST_STRANGERS (length told) then told else told ++ o ∷ []

-- the strangers that are told after these: the first of them, in the order in which they came
abbrev pub told_after : List Origin → List EventAt → List Origin
told_after told [] = told
told_after told (e ∷ events) = told_after (with_told (stranger_of e.event) told) events

-- a stranger sent it that is not told
abbrev pub is_of_others : List Origin → Event → Bool
is_of_others told e = option_map_or (λ o. not (is_origin_of told o)) (stranger_of e) false

-- what a stranger sent
abbrev pub stranger_tally : Origin → List EventAt → StrangerTally
stranger_tally o events = record {
  responses = lines_in (lines_where (is_response_of o) events);
  bad = lines_in (lines_where (is_bad_of o) events);
  first_bad = first_of (code_of_stranger o) events;
}

-- what a stranger sent, with one event more
abbrev pub with_stranger_event : Origin → StrangerTally → EventAt → StrangerTally
with_stranger_event o t e = record {
  responses = if_line (is_response_of o e.event) t.responses e.line;
  bad = if_line (is_bad_of o e.event) t.bad e.line;
  first_bad = option_or t.first_bad (code_of_stranger o e.event);
}

-- what a stranger sent is this event: a response, or a line that is bad by this code
abbrev pub stranger_event : Origin → Option LogCode → Event
stranger_event o None = stranger o
stranger_event o (Some code) = bad code (Some o) None

-- strangers and what they sent
abbrev pub StrangerRows : Type 0
StrangerRows = List (Origin × StrangerTally)

-- these strangers and what they sent
abbrev pub stranger_rows : List Origin → List EventAt → StrangerRows
stranger_rows told events = map (λ o. (o, stranger_tally o events)) told

-- the strangers of rows
abbrev pub strangers_of : StrangerRows → List Origin
strangers_of rows = map (λ row. row.0) rows

-- the rows of a map's entries
abbrev pub rows_of_strangers : List (Stranger × StrangerTally) → StrangerRows
rows_of_strangers entries =
    map (λ e. ((record { link = string_bytes e.0.link; sender = e.0.address }), e.1)) entries

-- the origin of this name and address
abbrev pub origin_of : List ℕ → ℕ → Origin
origin_of link address = record { link = link; sender = address }

-- a line of a stranger: a response, or a line that is bad by this code
abbrev pub stranger_line : Origin → ℕ → Option LogCode → EventAt
stranger_line o line code = record { line = line; event = stranger_event o code }

-- one line more in row k
abbrev pub with_row_line : StrangerRows → ℕ → ℕ → Option LogCode → StrangerRows
with_row_line [] k line code = []
with_row_line (row ∷ rows) zero line code =
    (row.0, with_stranger_event row.0 row.1 (stranger_line row.0 line code)) ∷ rows
with_row_line (row ∷ rows) (suc k) line code = row ∷ with_row_line rows k line code

-- the row of a stranger with one line
abbrev pub new_row : Origin → ℕ → Option LogCode → Origin × StrangerTally
new_row o line code = (o, stranger_tally o (stranger_line o line code ∷ []))

-- the strangers that are told, and the lines of the others
pub record AreStrangers (rows : StrangerRows) (others : Lines) (events : List EventAt)
    : Type 0 where
  pub are_told : rows ≡ stranger_rows (told_after [] events) events
  pub are_others : others ≡ lines_in (lines_where (is_of_others (told_after [] events)) events)

-- ---- of all

abbrev pub is_any_joined : Event → Bool
is_any_joined (joined i) = true
is_any_joined other = false

abbrev pub is_any_refused : Event → Bool
is_any_refused (refused i error hop) = true
is_any_refused other = false

-- a response of any stranger
abbrev pub is_any_stranger : Event → Bool
is_any_stranger (stranger o) = true
is_any_stranger other = false

abbrev pub is_any_bad : Event → Bool
is_any_bad (bad code origin i) = true
is_any_bad other = false

-- a request of nobody that is planned
abbrev pub is_other_request : Event → Bool
is_other_request (request None) = true
is_other_request other = false

-- how many of each kind there are
abbrev pub counts_of : List EventAt → Counts
counts_of events = record {
  joined = length (lines_where is_any_joined events);
  refused = length (lines_where is_any_refused events);
  strangers = length (lines_where is_any_stranger events);
  bad = length (lines_where is_any_bad events);
}

-- the number, with one more where it is one of them
abbrev pub if_one : Bool → ℕ → ℕ
if_one b n = if b then n + 1 else n

-- the counts, with one event more
abbrev pub counts_with : Counts → Event → Counts
counts_with c e = record {
  joined = if_one (is_any_joined e) c.joined;
  refused = if_one (is_any_refused e) c.refused;
  strangers = if_one (is_any_stranger e) c.strangers;
  bad = if_one (is_any_bad e) c.bad;
}

-- no count is above n
pub record AreAtMost (n : ℕ) (c : Counts) : Type 0 where
  pub joined : c.joined ≤ n
  pub refused : c.refused ≤ n
  pub strangers : c.strangers ≤ n
  pub bad : c.bad ≤ n

-- the number of a code among those of lines that say nothing of where they came from
abbrev pub plain_code : LogCode → Option ℕ
plain_code LongLine = Some 0
plain_code Fields = Some 1
plain_code LinkName = Some 2
plain_code Sender = Some 3
plain_code Hex = Some 4
plain_code TooManyLines = Some 5
plain_code other = None

-- a line that is bad by the code of this number, of nobody
abbrev pub is_plain_bad : ℕ → Event → Bool
is_plain_bad k (bad code None None) = option_map_or (λ j. k == j) (plain_code code) false
is_plain_bad k other = false

-- what is kept of these events is theirs: how many there are of each kind, what each interface and
-- each stranger sent, the lines that are bad and of nobody, and the requests of nobody
pub record AreTallied (counts : Counts) (interfaces : List InterfaceTally) (rows : StrangerRows)
    (others : Lines) (plain : List Lines) (requests : Lines) (events : List EventAt) : Type 0 where
  pub counted : counts ≡ counts_of events
  pub of_interfaces : AreInterfaceTallies interfaces events
  pub of_strangers : AreStrangers rows others events
  pub codes : length plain ≡ 6
  pub of_lines : (k : ℕ) (lines : Lines) → slice_get plain k ≡ Some lines
      → lines ≡ lines_in (lines_where (is_plain_bad k) events)
  pub of_requests : requests ≡ lines_in (lines_where is_other_request events)

-- tallies are those of these events
abbrev pub HasHeard : {S H : Type 0} → Tallies S H → List EventAt → Type 0
HasHeard t events =
    AreTallied t.counts t.interfaces.items (rows_of_strangers t.strangers.told.entries)
    t.strangers.others t.plain t.other_requests events

-- the number of interfaces
abbrev pub interfaces_of : {S H : Type 0} → Tallies S H → ℕ
interfaces_of t = length t.interfaces.items

-- the number of strangers that are told
abbrev pub strangers_told : {S H : Type 0} → Tallies S H → ℕ
strangers_told t = length (rows_of_strangers t.strangers.told.entries)

-- tallies are those of some events, no more than there are lines in a log
abbrev pub HasRoom : {S H : Type 0} → Tallies S H → Type 0
HasRoom t = (events : List EventAt) × HasHeard t events × (length events ≤ MOST_LINES)
