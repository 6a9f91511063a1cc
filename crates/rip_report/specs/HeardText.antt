-- What `heard` prints: who is in a log, and all that is refused.
use Rattle.std.specs.Prelude.{◌≡◌, ℕ, zero, suc, ◌+◌, ◌<◌, ◌==◌, if◌then◌else◌, ◌&&◌, List, [], ◌++◌, length, codes, decimal, Option, Some, None, slice_get}
use Rattle.rip_wire.specs.Address.{address_text}
use Rattle.rip_plan.specs.Network.{Network}
use Rattle.rip_plan.specs.Relations.{HasAddress, IsLinkName}
use Rattle.rip_plan.specs.declared.parts.Interface.{Interface}
use Rattle.rip_log.specs.Said.{Origin}
use Rattle.rip_log.specs.declared.error.LogCode.{LogCode}
use Rattle.rip_log.specs.declared.error.LogCode.TheVariants.{LongLine, Fields, LinkName, Sender, Hex, TooManyLines, Wire}
use Rattle.rip_table.specs.Events.{EventAt}
use Rattle.rip_table.specs.Tallies.{counts_of, interface_tally, is_of_others, is_other_request, is_plain_bad, lines_in, lines_where, stranger_tally, told_after}
use Rattle.rip_table.specs.declared.tallies.counts.Counts.{Counts}
use Rattle.rip_table.specs.declared.tallies.interface.InterfaceTally.{InterfaceTally}
use Rattle.rip_table.specs.declared.tallies.interface.Refusal.{Refusal}
use Rattle.rip_table.specs.declared.tallies.lines.Lines.{Lines}
use Rattle.rip_table.specs.declared.tallies.strangers.StrangerTally.{StrangerTally}
use Rattle.rip_report.specs.DecodeText.{wire_fault_text}
use Rattle.rip_report.specs.Lines.{interface_name, unheard_line}
use Rattle.rip_report.specs.LeftOut.{is_all_joined, left_out_part}
use Rattle.rip_report.specs.Listings.{TextsBelow}
use Rattle.rip_report.specs.RefusalText.{log_code_text, table_error_text}
use Rattle.rip_report.specs.Names.{name_of}
use Rattle.rip_report.specs.Written.{Written, line}
use Rattle.rip_report.specs.declared.status.Status.{Status}
use Rattle.rip_report.specs.declared.status.Status.TheVariants.{Done, Unclear}

-- ---- parts of lines

-- `, lines 2 to 90`
abbrev pub lines_part : Lines → List ℕ
lines_part l = codes ", lines " ++ decimal l.first ++ codes " to " ++ decimal l.last

-- how many and where, as `12, lines 2 to 90`
abbrev pub counted_part : Lines → List ℕ
counted_part l = decimal l.count ++ lines_part l

-- the same of responses: `12 responses, lines 2 to 90`
abbrev pub responses_part : Lines → List ℕ
responses_part l = decimal l.count ++ codes " responses" ++ lines_part l

-- why a line is bad by its datagram: `6 LongDatagram`, or what `decode` says, as `5 Ragged at 34`
abbrev pub datagram_part : LogCode → List ℕ
datagram_part (Wire e) = wire_fault_text e.code e.at
datagram_part other = log_code_text other

-- the line of a word and how many lines there are, as `  requests 1, lines 3 to 3`, where there are
-- any
unfoldable pub counted_line : List ℕ → Lines → List ℕ
counted_line word l = if l.count == 0 then [] else line (word ++ counted_part l)

-- `  bad 4, lines 3 to 88, first 8 Authentication at 4`, where there is a first one
unfoldable pub bad_line : Lines → Option LogCode → List ℕ
bad_line l None = []
bad_line l (Some code) =
    line (codes "  bad " ++ counted_part l ++ codes ", first " ++ datagram_part code)

-- ---- who has an address

-- the interface of the plan that has an address, the first where there are more
pub record IsFirstHolder (n : Network) (a i : ℕ) (interface : Interface) : Type 0 where
  pub listed : slice_get n.interfaces i ≡ Some interface
  pub has : HasAddress n i interface.link a
  pub first : (j l : ℕ) → j < i → HasAddress n j l a → ⊥

-- `r1 has the address on k`, of the first interface that has it, or `nobody has the address`
pub data WhoText (n : Network) (a : ℕ) : List ℕ → Type 0 where
  first_holder : (i : ℕ) (interface : Interface) → IsFirstHolder n a i interface
      → WhoText n a (name_of n.routers interface.router ++ codes " has the address on "
      ++ name_of n.links interface.link)
  nobody : ((i l : ℕ) → HasAddress n i l a → ⊥) → WhoText n a (codes "nobody has the address")

-- a link of the plan has this name
abbrev pub IsPlanned : Network → List ℕ → Type 0
IsPlanned n name = (l : ℕ) × IsLinkName n l name

-- the same of a stranger, after that its link is not in the plan
pub data StrangerWho (n : Network) (o : Origin) : List ℕ → Type 0 where
  on_link : (who : List ℕ) → IsPlanned n o.link → WhoText n o.sender who → StrangerWho n o who
  no_link : (who : List ℕ) → (IsPlanned n o.link → ⊥) → WhoText n o.sender who
      → StrangerWho n o (codes "no link of that name, " ++ who)

-- ---- an interface

-- `r1 core 12 responses, lines 2 to 90`, or `r3 g not heard`
unfoldable pub joined_line : Network → Interface → Lines → List ℕ
joined_line n i l =
    if l.count == 0 then unheard_line n i
    else line (interface_name n i ++ codes " " ++ responses_part l)

-- ` by 10.21.3.2: r5 has the address on e`
abbrev pub by_part : ℕ → List ℕ → List ℕ
by_part a who = codes " by " ++ address_text a ++ codes ": " ++ who

-- why a response is refused, as `1 Changed prefix 10.35.0.0/16 from 4 to 6`, and who has the next
-- hop where that is why, as `2 NextHop prefix 10.34.0.0/16 by 10.21.3.2: r5 has the address on e`
pub data RefusalPart (n : Network) (r : Refusal) : List ℕ → Type 0 where
  no_hop : r.next_hop ≡ None → RefusalPart n r (table_error_text r.error)
  by_hop : (a : ℕ) (who : List ℕ) → r.next_hop ≡ Some a → WhoText n a who
      → RefusalPart n r (table_error_text r.error ++ by_part a who)

-- `  refused 3 in 2 runs, lines 4 to 61, first `
unfoldable pub refused_front : InterfaceTally → List ℕ
refused_front t =
    codes "  refused " ++ decimal t.refused.count ++ codes " in " ++ decimal t.runs
    ++ codes " runs" ++ lines_part t.refused ++ codes ", first "

-- the line of the responses that are refused, where there is a first one
pub data RefusedLine (n : Network) (t : InterfaceTally) : List ℕ → Type 0 where
  none : t.first_refusal ≡ None → RefusedLine n t []
  some : (r : Refusal) (why : List ℕ) → t.first_refusal ≡ Some r → RefusalPart n r why
      → RefusedLine n t (refused_front t ++ line why)

-- the lines of an interface that sent this
pub data SentLines (n : Network) (i : Interface) (t : InterfaceTally) : List ℕ → Type 0 where
  sent : (refused : List ℕ) → RefusedLine n t refused
      → SentLines n i t (joined_line n i t.joined ++ refused ++ bad_line t.bad t.first_bad
      ++ counted_line (codes "  requests ") t.requests)

-- the lines of the interface of this number
pub record InterfaceLines (n : Network) (events : List EventAt) (i : ℕ) (text : List ℕ)
    : Type 0 where
  pub interface : Interface
  pub listed : slice_get n.interfaces i ≡ Some interface
  pub lines : SentLines n interface (interface_tally i events) text

-- ---- a stranger

-- `6 responses, lines 12 to 80`, or `no responses`
abbrev pub any_responses_part : Lines → List ℕ
any_responses_part l = if l.count == 0 then codes "no responses" else responses_part l

-- ` 10.21.7.1 6 responses, lines 12 to 80: `
unfoldable pub stranger_part : ℕ → Lines → List ℕ
stranger_part a l =
    codes " " ++ address_text a ++ codes " " ++ any_responses_part l ++ codes ": "

-- the lines of a stranger that sent this: the one of its responses, as `stranger core 10.21.7.1 6
-- responses, lines 12 to 80: r1 has the address on k`, and the one of those that are bad
pub data StrangerLines (n : Network) (o : Origin) (t : StrangerTally) : List ℕ → Type 0 where
  sent : (who : List ℕ) → StrangerWho n o who
      → StrangerLines n o t (codes "stranger " ++ o.link ++ stranger_part o.sender t.responses
      ++ line who ++ bad_line t.bad t.first_bad)

-- the lines of the stranger of this number
pub record ToldLines (n : Network) (events : List EventAt) (k : ℕ) (text : List ℕ)
    : Type 0 where
  pub origin : Origin
  pub told : slice_get (told_after [] events) k ≡ Some origin
  pub lines : StrangerLines n origin (stranger_tally origin events) text

-- ---- nobody

-- `bad 5 Hex 1, lines 17 to 17`, where there are any
unfoldable pub plain_bad_line : LogCode → Lines → List ℕ
plain_bad_line code l =
    if l.count == 0 then []
    else line (codes "bad " ++ log_code_text code ++ codes " " ++ counted_part l)

-- the lines that are bad by the code of this number
abbrev pub plain_lines : ℕ → List EventAt → Lines
plain_lines k events = lines_in (lines_where (is_plain_bad k) events)

-- the lines of the codes 1 to 5 and 8
abbrev pub plain_bad_lines : List EventAt → List ℕ
plain_bad_lines events =
    plain_bad_line LongLine (plain_lines 0 events)
    ++ plain_bad_line Fields (plain_lines 1 events)
    ++ plain_bad_line LinkName (plain_lines 2 events)
    ++ plain_bad_line Sender (plain_lines 3 events)
    ++ plain_bad_line Hex (plain_lines 4 events)
    ++ plain_bad_line TooManyLines (plain_lines 5 events)

-- `other strangers 4, lines 263 to 268`, where there are any
abbrev pub other_strangers_line : List EventAt → List ℕ
other_strangers_line events =
    counted_line (codes "other strangers ")
    (lines_in (lines_where (is_of_others (told_after [] events)) events))

-- `other requests 2, lines 70 to 71`, where there are any
abbrev pub other_requests_line : List EventAt → List ℕ
other_requests_line events =
    counted_line (codes "other requests ") (lines_in (lines_where is_other_request events))

-- ---- all of it

-- how many of the first k interfaces were heard
abbrev pub heard_below : ℕ → List EventAt → ℕ
heard_below zero events = 0
heard_below (suc k) events =
    if (interface_tally k events).joined.count == 0 then heard_below k events
    else heard_below k events + 1

-- how many interfaces of the plan were heard
abbrev pub heard_of : Network → List EventAt → ℕ
heard_of n events = heard_below (length n.interfaces) events

-- `heard: 15 of 17 interfaces, 112 responses, 3 refused, 6 of strangers, 5 bad`
unfoldable pub heard_line : ℕ → ℕ → Counts → List ℕ
heard_line heard interfaces c =
    line (codes "heard: " ++ decimal heard ++ codes " of " ++ decimal interfaces
    ++ codes " interfaces, " ++ decimal c.joined ++ codes " responses" ++ left_out_part c)

-- the status: well where every interface was heard and all was joined
abbrev pub heard_status : ℕ → ℕ → Counts → Status
heard_status heard interfaces c =
    if heard == interfaces && is_all_joined c then Done else Unclear

-- the lines that tell who is in a log whose lines come to these events, where so many interfaces
-- were heard
pub data HeardLines (n : Network) (events : List EventAt) (heard : ℕ) : List ℕ → Type 0 where
  lines : (interfaces strangers : List ℕ)
      → TextsBelow (InterfaceLines n events) (length n.interfaces) interfaces
      → TextsBelow (ToldLines n events) (length (told_after [] events)) strangers
      → HeardLines n events heard (heard_line heard (length n.interfaces) (counts_of events)
      ++ interfaces ++ strangers ++ other_strangers_line events ++ plain_bad_lines events
      ++ other_requests_line events)

-- who is in a log, with the status
pub record HeardText (n : Network) (events : List EventAt) (w : Written) : Type 0 where
  pub lines : HeardLines n events (heard_of n events) w.text
  pub status : w.status
      ≡ heard_status (heard_of n events) (length n.interfaces) (counts_of events)
