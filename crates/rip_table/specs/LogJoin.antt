-- What a log makes of a table: who tells what, what stands in the table then, and what refuses a
-- log.
use Rattle.std.specs.Prelude.{◌≡◌, ◌≢◌, ◌↔◌, ◌⊎◌, ℕ, ◌<◌, ◌≤◌, true, List, ◌∷◌, ◌++◌, length, Option, Some, None, slice_get}
use Rattle.rip_wire.specs.Prefix.{Block}
use Rattle.rip_wire.specs.Response.{IsResponseOf}
use Rattle.rip_wire.specs.declared.entry.Entry.{Entry}
use Rattle.rip_plan.specs.Network.{Network}
use Rattle.rip_plan.specs.Relations.{HasAddress, IsAt, IsGateway, IsInterface, IsPrefix}
use Rattle.rip_log.specs.Lines.{Capture}
use Rattle.rip_log.specs.Logs.{Log, Numbered}
use Rattle.rip_log.specs.declared.error.LogError.{LogError}
use Rattle.rip_table.specs.State.{IsState, State}
use Rattle.rip_table.specs.Joined.{with_heard}
use Rattle.rip_table.specs.declared.limits.TheConstants.{MOST_PREFIXES}
use Rattle.rip_table.specs.declared.error.TableError.{TableError}
use Rattle.rip_table.specs.declared.error.TableError.TheVariants.{Changed, NextHop, TooManyPrefixes, Memory}
use Rattle.rip_table.specs.declared.error.CollectCause.{CollectCause}
use Rattle.rip_table.specs.declared.error.CollectCause.TheVariants.{Log as OfLog, Table, UnknownSender}
use Rattle.rip_table.specs.declared.error.CollectError.{CollectError}

-- ---- who tells what

-- a capture is a response of interface i, with these entries: it was on the interface's link, its
-- sender has the address there
pub record IsResponse (n : Network) (c : Capture) (i : ℕ) (entries : List Entry) : Type 0 where
  pub from : IsAt n c.link c.sender i
  pub says : IsResponseOf entries c.datagram

-- record k of a log is a response of interface i, with these entries
abbrev pub HasResponse : Network → List Numbered → ℕ → ℕ → List Entry → Type 0
HasResponse n log k i entries =
    (r : Numbered) × (slice_get log k ≡ Some r) × IsResponse n r.capture i entries

-- entry j is of prefix p and has metric x
abbrev pub HasEntry : List Entry → ℕ → Block → ℕ → Type 0
HasEntry entries j p x =
    (e : Entry) × (slice_get entries j ≡ Some e) × (e.prefix ≡ p) × (e.metric ≡ x)

-- entry j of record k is interface i's, of prefix p, and has metric x
abbrev pub IsSaid : Network → List Numbered → ℕ → ℕ → ℕ → Block → ℕ → Type 0
IsSaid n log k j i p x =
    (entries : List Entry) × HasResponse n log k i entries × HasEntry entries j p x

-- a log tells metric x of prefix p at interface i
abbrev pub IsTold : Network → List Numbered → ℕ → Block → ℕ → Type 0
IsTold n log i p x = (k j : ℕ) × IsSaid n log k j i p x

-- interface i has a response in a log
abbrev pub HasUpdate : Network → List Numbered → ℕ → Type 0
HasUpdate n log i = (k : ℕ) × (entries : List Entry) × HasResponse n log k i entries

-- entry j of record k is of prefix p
abbrev pub IsNamed : Network → List Numbered → ℕ → ℕ → Block → Type 0
IsNamed n log k j p = (i x : ℕ) × IsSaid n log k j i p x

-- entry j of record k comes before entry m of record l
abbrev pub ComesBefore : ℕ → ℕ → ℕ → ℕ → Type 0
ComesBefore k j l m = (k < l) ⊎ ((k ≡ l) × (j < m))

-- ---- what stands in the table then

-- the prefix is in the list of the table
abbrev pub IsListed : State → Block → Type 0
IsListed s p = (k : ℕ) × (slice_get s.prefixes k ≡ Some p)

-- prefixes stand in the order of their first appearance: before each entry of the later one there
-- is one of the earlier
abbrev pub AreInOrder : Network → List Numbered → List Block → Type 0
AreInOrder n log prefixes =
    (a b : ℕ) (p q : Block) → a < b → slice_get prefixes a ≡ Some p → slice_get prefixes b ≡ Some q
    → (l m : ℕ) → IsNamed n log l m q → (k j : ℕ) × IsNamed n log k j p × ComesBefore k j l m

-- a log makes this table of an old one
pub record IsJoin (n : Network) (old : State) (log : List Numbered) (new : State) : Type 0 where
  pub interfaces : new.interfaces ≡ old.interfaces
  -- what was shown, and what the log tells, is shown
  pub shown : (i : ℕ) (p : Block) (x : ℕ)
      → (new.shows i p ≡ Some x) ↔ ((old.shows i p ≡ Some x) ⊎ IsTold n log i p x)
  pub heard : (i : ℕ) → (new.heard i ≡ true) ↔ ((old.heard i ≡ true) ⊎ HasUpdate n log i)
  -- the prefixes that were there, and those of which the log tells
  pub listed : (p : Block) → IsListed new p ↔ (IsListed old p ⊎ ((i x : ℕ) × IsTold n log i p x))
  -- the new ones come after the others, in the order of their first appearance
  pub others : List Block
  pub prefixes : new.prefixes ≡ old.prefixes ++ others
  pub order : AreInOrder n log others

-- prefixes stand in the order of the first entries that are of them
abbrev pub AreInEntryOrder : List Entry → List Block → Type 0
AreInEntryOrder entries prefixes =
    (a b : ℕ) (p q : Block) → a < b → slice_get prefixes a ≡ Some p → slice_get prefixes b ≡ Some q
    → (m y : ℕ) → HasEntry entries m q y → (k x : ℕ) × HasEntry entries k p x × (k < m)

-- entries of interface i make this table of an old one; they mark no interface
pub record AreTaken (i : ℕ) (old : State) (entries : List Entry) (new : State) : Type 0 where
  pub interfaces : new.interfaces ≡ old.interfaces
  pub shown : (j : ℕ) (p : Block) (x : ℕ) → (new.shows j p ≡ Some x)
      ↔ ((old.shows j p ≡ Some x) ⊎ ((j ≡ i) × ((k : ℕ) × HasEntry entries k p x)))
  pub heard : (j : ℕ) → (new.heard j ≡ true) ↔ (old.heard j ≡ true)
  pub listed : (p : Block)
      → IsListed new p ↔ (IsListed old p ⊎ ((k x : ℕ) × HasEntry entries k p x))
  pub others : List Block
  pub prefixes : new.prefixes ≡ old.prefixes ++ others
  pub order : AreInEntryOrder entries others

-- ---- what refuses a log

-- what an interface showed of an entry's prefix, if anything, is the entry's metric
abbrev pub KeepsMetric : State → ℕ → Entry → Type 0
KeepsMetric s i e = (x : ℕ) → s.shows i e.prefix ≡ Some x → x ≡ e.metric

-- a is a gateway of the prefix for the router of interface i
abbrev pub KnowsGateway : Network → ℕ → Block → ℕ → Type 0
KnowsGateway n i p a =
    (r l c k : ℕ) × IsInterface n i r l c × IsPrefix n k p × IsGateway n r k a

-- an entry of interface i is a route below 16 by a next hop that is neither 0.0.0.0, which stands
-- for the sender (RFC 2453, 4.4), nor an address of the interface, nor a gateway of its router for
-- the prefix
pub record IsElsewhere (n : Network) (i : ℕ) (e : Entry) : Type 0 where
  pub reachable : e.metric < 16
  pub unspecified : e.next_hop ≢ 0
  pub other : (l : ℕ) → HasAddress n i l e.next_hop → ⊥
  pub no_gateway : KnowsGateway n i e.prefix e.next_hop → ⊥

-- an entry changes the metric that its interface showed
pub record IsChange (s : State) (i : ℕ) (e : Entry) (p : Block) (old new : ℕ) : Type 0 where
  pub prefix : p ≡ e.prefix
  pub stands : s.shows i p ≡ Some old
  pub metric : new ≡ e.metric
  pub differ : old ≢ new

-- an entry that changes nothing is a route below 16 by another next hop
pub record IsByAnother (n : Network) (s : State) (i : ℕ) (e : Entry) (p : Block) : Type 0 where
  pub prefix : p ≡ e.prefix
  pub keeps : KeepsMetric s i e
  pub elsewhere : IsElsewhere n i e

-- another entry is of one prefix too many: it is new, and there are as many as a table may have
pub record IsTooMany (n : Network) (s : State) (i : ℕ) (e : Entry) : Type 0 where
  pub keeps : KeepsMetric s i e
  pub here : IsElsewhere n i e → ⊥
  pub new : IsListed s e.prefix → ⊥
  pub full : MOST_PREFIXES ≤ length s.prefixes

-- an entry of interface i is bad, where this is the table before it: the first that applies of a
-- change, a next hop elsewhere and too many prefixes
abbrev pub IsBadEntry : Network → ℕ → State → Entry → TableError → Type 0
IsBadEntry n i s e (Changed p old new) = IsChange s i e p old new
IsBadEntry n i s e (NextHop p) = IsByAnother n s i e p
IsBadEntry n i s e TooManyPrefixes = IsTooMany n s i e
IsBadEntry n i s e Memory = ⊥

-- no entry of these is bad, where the table before it is what those before it make
abbrev pub AreGood : Network → ℕ → State → List Entry → Type 0
AreGood n i old entries =
    (front rest : List Entry) (e : Entry) (s : State) (error : TableError)
    → entries ≡ front ++ e ∷ rest → AreTaken i old front s → IsState s
    → IsBadEntry n i s e error → ⊥

-- entries of interface i are joined into this table: they make it, and none of them is bad
pub record AreJoined (n : Network) (i : ℕ) (old : State) (entries : List Entry)
    (new : State) : Type 0 where
  pub taken : AreTaken i old entries new
  pub state : IsState new
  pub good : AreGood n i old entries

-- the first bad entry of a response
pub record HasBadEntry (n : Network) (s : State) (c : Capture) (error : TableError) : Type 0 where
  pub interface : ℕ
  pub front : List Entry
  pub entry : Entry
  pub rest : List Entry
  pub response : IsResponse n c interface (front ++ entry ∷ rest)
  -- the entries before it are joined into this table
  pub state : State
  pub joined : AreJoined n interface (with_heard s interface) front state
  pub bad : IsBadEntry n interface state entry error

-- a response that no interface of the plan sent
pub record IsUnknown (n : Network) (c : Capture) : Type 0 where
  pub entries : List Entry
  pub says : IsResponseOf entries c.datagram
  pub nobody : (i : ℕ) → IsAt n c.link c.sender i → ⊥

-- a record is refused, where this is the table before it
abbrev pub IsRefused : Network → State → Capture → CollectCause → Type 0
IsRefused n s c UnknownSender = IsUnknown n c
IsRefused n s c (Table error) = HasBadEntry n s c error
IsRefused n s c (OfLog error) = ⊥

-- no record of a log is refused, where the table before it is the join of those before it
abbrev pub AreAccepted : Network → State → List Numbered → Type 0
AreAccepted n old log =
    (before after : List Numbered) (r : Numbered) (s : State) (cause : CollectCause)
    → log ≡ before ++ r ∷ after → IsJoin n old before s → IsState s
    → IsRefused n s r.capture cause → ⊥

-- a log is joined into this table: it makes it, and none of its records is refused
pub record IsJoined (n : Network) (old : State) (log : List Numbered) (new : State) : Type 0 where
  pub join : IsJoin n old log new
  pub state : IsState new
  pub accepted : AreAccepted n old log

-- the first record of a log that is refused is on this line, and those before it are joined into
-- this table
pub record IsFirstRefused (n : Network) (old : State) (log : List Numbered) (s : State)
    (line : ℕ) (cause : CollectCause) : Type 0 where
  pub before : List Numbered
  pub capture : Capture
  pub after : List Numbered
  pub split : log ≡ before ++ (record { line = line; capture = capture }) ∷ after
  pub joined : IsJoined n old before s
  pub refused : IsRefused n s capture cause

-- the records of a log are joined, and this is the log's own fault
pub record IsFaultOf (n : Network) (old : State) (log : Log) (s : State)
    (error : CollectError) : Type 0 where
  pub fault : LogError
  pub has : log.fault ≡ Some fault
  pub is : error ≡ record { line = fault.line; cause = OfLog fault }
  pub joined : IsJoined n old log.records s

-- what a log makes of a table, and what refuses the rest of the log
abbrev pub IsOutcome : Network → State → Log → State → Option CollectError → Type 0
IsOutcome n old log s None = (log.fault ≡ None) × IsJoined n old log.records s
IsOutcome n old log s (Some error) =
    IsFirstRefused n old log.records s error.line error.cause ⊎ IsFaultOf n old log s error
