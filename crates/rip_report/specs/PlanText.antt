-- What `plan` prints.
use Rattle.std.specs.Prelude.{◌≡◌, ◌⊎◌, ℕ, ◌<◌, ◌≤◌, ◌==◌, Bool, false, if◌then◌else◌, List, [], ◌∷◌, ◌++◌, length, codes, decimal, slice_get, Option, option_map, unwrap_or, None, Some, IfSome}
use Rattle.std.specs.List.{enumerate_from, flat_map}
use Rattle.std.specs.Str.{is_utf8}
use Rattle.rip_wire.specs.Address.{address_text}
use Rattle.rip_wire.specs.Prefix.{prefix_text}
use Rattle.rip_plan.specs.PlanFaults.{IsFault, PlanFault}
use Rattle.rip_plan.specs.Codes.{number_of_code}
use Rattle.rip_plan.specs.Network.{Network}
use Rattle.rip_plan.specs.PlanOf.{IsPlanOfText}
use Rattle.rip_plan.specs.declared.error.At.{At}
use Rattle.rip_plan.specs.declared.error.At.TheVariants as places
use Rattle.rip_plan.specs.declared.error.PlanCode.{PlanCode}
use Rattle.rip_plan.specs.declared.error.PlanCode.TheVariants.{Syntax, Version, Key, Name, DuplicateName, Address, Prefix, Cost, DuplicatePrefix, UnknownLink, TwiceOnLink, DuplicateAddress, OutsidePrefix, NoInterface, Limit, Memory}
use Rattle.rip_plan.specs.declared.error.PlanError.{PlanError}
use Rattle.rip_plan.specs.declared.limits.TheConstants.{MOST_PLAN_BYTES}
use Rattle.rip_plan.specs.declared.parts.Interface.{Interface}
use Rattle.rip_plan.specs.declared.parts.Listed.{Listed}
use Rattle.rip_plan.specs.declared.parts.Place.{Place}
use Rattle.rip_plan.specs.declared.parts.Seat.{Seat}
use Rattle.rip_plan.specs.declared.parts.Seat.TheVariants as seats
use Rattle.rip_report.specs.Names.{name_of, numbered}
use Rattle.rip_report.specs.Written.{Written, line}
use Rattle.rip_report.specs.declared.status.Status.TheVariants.{Done, Refused}

-- the word of a code
abbrev pub word_of : PlanCode → List ℕ
word_of Syntax = codes "Syntax"
word_of Version = codes "Version"
word_of Key = codes "Key"
word_of Name = codes "Name"
word_of DuplicateName = codes "DuplicateName"
word_of Address = codes "Address"
word_of Prefix = codes "Prefix"
word_of Cost = codes "Cost"
word_of DuplicatePrefix = codes "DuplicatePrefix"
word_of UnknownLink = codes "UnknownLink"
word_of TwiceOnLink = codes "TwiceOnLink"
word_of DuplicateAddress = codes "DuplicateAddress"
word_of OutsidePrefix = codes "OutsidePrefix"
word_of NoInterface = codes "NoInterface"
word_of Limit = codes "Limit"
word_of Memory = codes "Memory"

-- the number and the word of a code, as `10 UnknownLink`
abbrev pub plan_code_text : PlanCode → List ℕ
plan_code_text code = decimal (number_of_code code) ++ codes " " ++ word_of code

-- a position in a plan's text, as `router 1 interface 2`
abbrev pub at_text : At → List ℕ
at_text places.Text = codes "text"
at_text places.Version = codes "version"
at_text (places.Link i) = numbered (codes "link ") i
at_text (places.LinkPrefix i j) = numbered (codes "link ") i ++ numbered (codes " prefix ") j
at_text (places.LinkOnly i j) = numbered (codes "link ") i ++ numbered (codes " only ") j
at_text (places.Router i) = numbered (codes "router ") i
at_text (places.RouterInterface i j) =
    numbered (codes "router ") i ++ numbered (codes " interface ") j
at_text (places.RouterOwn i j) = numbered (codes "router ") i ++ numbered (codes " own ") j

-- bytes that are no text of a plan, which is known before anything is allocated: too many, or no
-- UTF-8
abbrev pub IsNoText : List ℕ → Type 0
IsNoText bytes =
    (MOST_PLAN_BYTES < length bytes)
    ⊎ ((length bytes ≤ MOST_PLAN_BYTES) × (is_utf8 bytes ≡ false))

abbrev pub refused_plan : PlanError → Written
refused_plan e = record {
  text = line (codes "refused: plan " ++ plan_code_text e.code ++ codes " at " ++ at_text e.place);
  status = Refused;
}

-- the text of the prefix of a number, which is below their count in a plan
abbrev pub prefix_of : Network → ℕ → List ℕ
prefix_of n k = unwrap_or (option_map prefix_text (slice_get n.prefixes k)) []

-- `plan: 3 routers, 3 links, 6 interfaces, 3 prefixes`
unfoldable pub counts_line : Network → List ℕ
counts_line n =
    line (codes "plan: " ++ decimal (length n.routers) ++ codes " routers, "
    ++ decimal (length n.links) ++ codes " links, "
    ++ decimal (length n.interfaces) ++ codes " interfaces, "
    ++ decimal (length n.prefixes) ++ codes " prefixes")

-- the metric at which the router has the prefixes of the link, where it is not the cost
abbrev pub direct_text : Interface → List ℕ
direct_text i = if i.direct == i.cost then [] else codes " direct " ++ decimal i.direct

-- that the interface does not poison
abbrev pub poison_text : Bool → List ℕ
poison_text poison = if poison then [] else codes " poison false"

-- `interface r1 a 10.1.0.1 cost 5 direct 1 poison false`, an interface without its further
-- addresses
unfoldable pub interface_text : Network → Interface → List ℕ
interface_text n i =
    codes "interface " ++ name_of n.routers i.router ++ codes " " ++ name_of n.links i.link
    ++ codes " " ++ address_text i.address ++ codes " cost " ++ decimal i.cost ++ direct_text i
    ++ poison_text i.poison

abbrev pub address_part : ℕ → List ℕ
address_part a = codes " " ++ address_text a

-- ` also 10.20.9.1 10.20.8.1`, or nothing where there is no further address
abbrev pub also_text : List ℕ → List ℕ
also_text [] = []
also_text (a ∷ rest) = codes " also" ++ flat_map address_part (a ∷ rest)

-- the further addresses of the interface of a number, which is below their count in a plan
abbrev pub also_of : Network → ℕ → List ℕ
also_of n k = unwrap_or (slice_get n.also k) []

-- `interface r1 a 10.1.0.1 cost 5 direct 1 poison false also 10.20.9.1`, with its further addresses
unfoldable pub interface_line : Network → Interface → List ℕ → List ℕ
interface_line n i also = line (interface_text n i ++ also_text also)

-- the line of an interface and its number
abbrev pub line_of_interface : Network → ℕ × Interface → List ℕ
line_of_interface n (k, i) = interface_line n i (also_of n k)

abbrev pub interface_lines : Network → List ℕ
interface_lines n = flat_map (line_of_interface n) (enumerate_from 0 n.interfaces)

-- ` 10.9.0.0/16`, where it stands in the list of link l
abbrev pub item_text : ℕ → Listed → List ℕ
item_text l item = if item.link == l then codes " " ++ prefix_text item.prefix else []

-- `link s only 0.0.0.0/0 10.9.0.0/16`, what link l exchanges beside its own prefixes
unfoldable pub only_line : Network → ℕ → List ℕ
only_line n l =
    line (codes "link " ++ name_of n.links l ++ codes " only" ++ flat_map (item_text l) n.listed)

-- the line of a link and whether it has a list
abbrev pub line_of_link : Network → ℕ × Bool → List ℕ
line_of_link n (l, has) = if has then only_line n l else []

abbrev pub only_lines : Network → List ℕ
only_lines n = flat_map (line_of_link n) (enumerate_from 0 n.lists)

-- the link, or the router, is one of the plan, and so is the link to which a prefix is attached
abbrev pub IsSeat : Network → Seat → Type 0
IsSeat n (seats.Link l) = l < length n.links
IsSeat n (seats.Own own) =
    (own.router < length n.routers) × IfSome own.link (λ l. l < length n.links)

abbrev pub kept_text : Bool → List ℕ
kept_text kept = if kept then codes " kept" else []

abbrev pub attached_text : Network → Option ℕ → List ℕ
attached_text n None = []
attached_text n (Some l) = codes " link " ++ name_of n.links l

abbrev pub gateway_text : Option ℕ → List ℕ
gateway_text None = []
gateway_text (Some a) = codes " via " ++ address_text a

abbrev pub seat_text : Network → Seat → List ℕ
seat_text n (seats.Link l) = codes " link " ++ name_of n.links l
seat_text n (seats.Own own) =
    codes " router " ++ name_of n.routers own.router ++ codes " cost " ++ decimal own.cost
    ++ kept_text own.kept ++ attached_text n own.link ++ gateway_text own.via

-- `prefix 10.1.0.0/16 link a`, or `prefix 10.9.0.0/16 router r1 cost 1 kept link a via 10.1.0.254`
unfoldable pub place_line : Network → Place → List ℕ
place_line n p = line (codes "prefix " ++ prefix_of n p.prefix ++ seat_text n p.seat)

-- a plan: its counts, its interfaces, its lists and its places
abbrev pub shown_plan : Network → Written
shown_plan n = record {
  text = ((counts_line n ++ interface_lines n) ++ only_lines n)
      ++ flat_map (place_line n) n.places;
  status = Done;
}

-- what is written for the bytes of a plan: their first fault, or one of the texts that a command
-- has for the plan that their document is
pub data OfPlan (IsText : Network → Written → Type 0) (plan : List ℕ) : Written → Type 0 where
  a_fault : (e : PlanError) → PlanFault plan e → OfPlan IsText plan (refused_plan e)
  of_plan : (n : Network) (w : Written) → ((e : PlanError) → IsFault plan e → ⊥)
      → IsPlanOfText plan n → IsText n w → OfPlan IsText plan w

-- what is written of a plan
abbrev pub PlanText : Network → Written → Type 0
PlanText n w = w ≡ shown_plan n
