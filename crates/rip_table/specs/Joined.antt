-- What entries, datagrams, records and logs make of a table: the definitions that compute.
use Rattle.std.specs.Prelude.{◌≡◌, ℕ, ◌==◌, nat_le, nat_lt, Bool, true, false, ◌&&◌, ◌||◌, not, if◌then◌else◌, List, [], ◌∷◌, length, Option, Some, None, is_none, is_ok, Result, Ok, Err, slice_get}
use Rattle.std.specs.List.{list_any}
use Rattle.std.specs.Option.{option_map_or}
use Rattle.rip_wire.specs.Prefix.{Block}
use Rattle.rip_wire.specs.Message.{Message, request, response, message_in}
use Rattle.rip_wire.specs.Datagram.{message_or_request}
use Rattle.rip_wire.specs.declared.entry.Entry.{Entry}
use Rattle.rip_plan.specs.declared.parts.Place.{Place}
use Rattle.rip_plan.specs.declared.parts.Seat.{Seat}
use Rattle.rip_plan.specs.declared.parts.Seat.TheVariants.{Link, Own}
use Rattle.rip_plan.specs.Network.{Network, found_at}
use Rattle.rip_plan.specs.Passes.{same_prefix}
use Rattle.rip_log.specs.Lines.{Capture}
use Rattle.rip_log.specs.Logs.{Log, Numbered, IfElse}
use Rattle.rip_log.specs.declared.error.LogError.{LogError}
use Rattle.rip_table.specs.State.{State, is_among, with_prefix}
use Rattle.rip_table.specs.declared.limits.TheConstants.{MOST_PREFIXES}
use Rattle.rip_table.specs.declared.error.TableError.{TableError}
use Rattle.rip_table.specs.declared.error.TableError.TheVariants.{Changed, NextHop, TooManyPrefixes, Memory}
use Rattle.rip_table.specs.declared.error.CollectCause.{CollectCause}
use Rattle.rip_table.specs.declared.error.CollectCause.TheVariants.{Log as OfLog, Table, UnknownSender}
use Rattle.rip_table.specs.declared.error.CollectError.{CollectError}

-- ---- an entry

-- a metric at an interface and a prefix; a new prefix comes last in the list
abbrev pub with_metric : State → ℕ → Block → ℕ → State
with_metric s i p m = record {
  interfaces = s.interfaces;
  prefixes = with_prefix p s.prefixes;
  shows = λ j q. if (j == i) && same_prefix q p then Some m else s.shows j q;
  heard = s.heard;
}

abbrev pub with_heard : State → ℕ → State
with_heard s i = record s { heard = λ j. if j == i then true else s.heard j }

-- the interface has the address, its own or a further one
abbrev pub holds_address : Network → ℕ → ℕ → Bool
holds_address n i a =
    option_map_or (λ x. option_map_or (λ also. list_any (λ b. b == a) (x.address ∷ also))
    (slice_get n.also i) false) (slice_get n.interfaces i) false

-- the seat is with the router, with this gateway
abbrev pub has_gateway : ℕ → ℕ → Seat → Bool
has_gateway r a (Link l) = false
has_gateway r a (Own own) = (own.router == r) && option_map_or (λ b. b == a) own.via false

-- the place is the prefix as the router's own, with this gateway
abbrev pub is_gateway : Network → ℕ → Block → ℕ → Place → Bool
is_gateway n r p a q =
    has_gateway r a q.seat && option_map_or (same_prefix p) (slice_get n.prefixes q.prefix) false

-- the router of the interface has this gateway for the prefix
abbrev pub knows_gateway : Network → ℕ → Block → ℕ → Bool
knows_gateway n i p a =
    option_map_or (λ x. list_any (is_gateway n x.router p a) n.places) (slice_get n.interfaces i)
    false

-- a next hop that interface i may tell of the prefix
abbrev pub may_tell : Network → ℕ → Block → ℕ → Bool
may_tell n i p a = (a == 0) || (holds_address n i a || knows_gateway n i p a)

-- a route below 16 by another next hop (RFC 2453, 4.4)
abbrev pub is_foreign : Network → ℕ → Entry → Bool
is_foreign n i e = nat_lt e.metric 16 && not (may_tell n i e.prefix e.next_hop)

-- the prefix is new, and there are as many as a table may have
abbrev pub is_past : State → Block → Bool
is_past s p = nat_le MOST_PREFIXES (length s.prefixes) && not (is_among p s.prefixes)

-- one entry of interface i, where this metric or none stands at its place
abbrev pub joined_at : Network → ℕ → State → Entry → Option ℕ → Result State TableError
joined_at n i s e (Some old) =
    if not (old == e.metric) then Err (Changed e.prefix old e.metric)
    else if is_foreign n i e then Err (NextHop e.prefix)
    else Ok s
joined_at n i s e None =
    if is_foreign n i e then Err (NextHop e.prefix)
    else if is_past s e.prefix then Err TooManyPrefixes
    else Ok (with_metric s i e.prefix e.metric)

-- ---- a datagram

abbrev pub and_then : {E : Type 0} → Result State E → (State → Result State E) → Result State E
and_then (Ok s) f = f s
and_then (Err e) f = Err e

-- the entries of an interface, one after the other
abbrev pub joined_entries : Network → ℕ → State → List Entry → Result State TableError
joined_entries n i s [] = Ok s
joined_entries n i s (e ∷ es) =
    and_then (joined_at n i s e (s.shows i e.prefix)) (λ t. joined_entries n i t es)

-- a message of an interface; a request adds nothing
abbrev pub joined_message : Network → ℕ → State → Message → Result State TableError
joined_message n i s request = Ok s
joined_message n i s (response es) = joined_entries n i (with_heard s i) es

-- some entry is of a prefix that the interface did not show
abbrev pub brings_pair : ℕ → State → Message → Bool
brings_pair i s request = false
brings_pair i s (response es) = list_any (λ e. is_none (s.shows i e.prefix)) es

-- a response without a bad entry that brings a pair of interface and prefix: it may allocate
pub record MayAllocate (n : Network) (i : ℕ) (s : State) (m : Message) : Type 0 where
  pub good : is_ok (joined_message n i s m) ≡ true
  pub brings : brings_pair i s m ≡ true

-- what `take` answers and leaves
abbrev pub Takes
    : Network → ℕ → State → Message → State → Result (Unit {0}) TableError → Type 0
Takes n i old m new (Ok u) = joined_message n i old m ≡ Ok new
Takes n i old m new (Err Memory) = (new ≡ old) × MayAllocate n i old m
Takes n i old m new (Err (Changed p x y)) =
    (new ≡ old) × (joined_message n i old m ≡ Err (Changed p x y))
Takes n i old m new (Err (NextHop p)) =
    (new ≡ old) × (joined_message n i old m ≡ Err (NextHop p))
Takes n i old m new (Err TooManyPrefixes) =
    (new ≡ old) × (joined_message n i old m ≡ Err TooManyPrefixes)

-- ---- a record

abbrev pub as_cause : Result State TableError → Result State CollectCause
as_cause (Ok s) = Ok s
as_cause (Err e) = Err (Table e)

-- a message of the interface that sent it; where there is none, a response is refused and a request
-- skipped
abbrev pub joined_from : Network → State → Message → Option ℕ → Result State CollectCause
joined_from n s request None = Ok s
joined_from n s (response es) None = Err UnknownSender
joined_from n s m (Some i) = as_cause (joined_message n i s m)

-- the message of a capture
abbrev pub message_of_capture : Capture → Message
message_of_capture c = message_or_request (message_in c.datagram)

-- the interface on the link of a capture with the address of its sender
abbrev pub interface_of : Network → Capture → Option ℕ
interface_of n c = found_at n c.link c.sender

-- what one record makes of a table
abbrev pub joined_capture : Network → State → Capture → Result State CollectCause
joined_capture n s c = joined_from n s (message_of_capture c) (interface_of n c)

-- a record may allocate
abbrev pub MayAllocateAt : Network → State → Message → Option ℕ → Type 0
MayAllocateAt n s m None = ⊥
MayAllocateAt n s m (Some i) = MayAllocate n i s m

abbrev pub MayAllocateFor : Network → State → Capture → Type 0
MayAllocateFor n s c = MayAllocateAt n s (message_of_capture c) (interface_of n c)

abbrev pub is_memory : CollectCause → Bool
is_memory (Table Memory) = true
is_memory other = false

-- what joining a record answers and leaves
abbrev pub Joins : Network → State → Capture → State → Result (Unit {0}) CollectCause → Type 0
Joins n old c new (Ok u) = joined_capture n old c ≡ Ok new
Joins n old c new (Err cause) =
    (new ≡ old)
    × IfElse (is_memory cause) (MayAllocateFor n old c) (joined_capture n old c ≡ Err cause)

-- ---- a log

-- the records of a log, one after the other
abbrev pub joined_records : Network → State → List Numbered → Result State CollectCause
joined_records n s [] = Ok s
joined_records n s (r ∷ records) =
    and_then (joined_capture n s r.capture) (λ t. joined_records n t records)

-- a table, and what refused the rest of a log
pub record Outcome : Type 0 where
  pub state : State
  pub fault : Option CollectError

-- a table, and the cause that refused the rest of a log at a line
abbrev pub refused_at : State → ℕ → CollectCause → Outcome
refused_at s line cause = record { state = s; fault = Some (record { line = line; cause = cause }) }

abbrev pub log_fault : Option LogError → Option CollectError
log_fault None = None
log_fault (Some e) = Some (record { line = e.line; cause = OfLog e })

abbrev pub with_record : State → ℕ → Result State CollectCause → (State → Outcome) → Outcome
with_record s line (Ok t) later = later t
with_record s line (Err cause) later = refused_at s line cause

-- what the records of a log make of a table, up to the first refusal
abbrev pub outcome_of : Network → State → List Numbered → Option LogError → Outcome
outcome_of n s [] fault = record { state = s; fault = log_fault fault }
outcome_of n s (r ∷ records) fault =
    with_record s r.line (joined_capture n s r.capture) (λ t. outcome_of n t records fault)

abbrev pub outcome : Network → State → Log → Outcome
outcome n s log = outcome_of n s log.records log.fault
