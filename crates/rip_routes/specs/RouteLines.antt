-- What a line tells of a router's table, or its first fault: the definitions that compute.
use Rattle.std.specs.Prelude.{ℕ, ◌-◌, ◌==◌, nat_le, nat_lt, Bool, ◌&&◌, ◌||◌, if◌then◌else◌, List, [], ◌∷◌, codes, length, Option, Some, None, Result, Ok, Err, option_and_then, option_map, unwrap_or}
use Rattle.std.specs.List.{list_any}
use Rattle.std.specs.Str.{bytes_eq}
use Rattle.std.specs.Io.BufRead.{strip_last}
use Rattle.rip_wire.specs.Address.{address_in}
use Rattle.rip_wire.specs.Prefix.{Block, prefix_in}
use Rattle.rip_plan.specs.Names.{number_of_name}
use Rattle.rip_plan.specs.Network.{Network, direct_at, number_of_prefix}
use Rattle.rip_log.specs.Fields.{fields_of, is_comment}
use Rattle.rip_log.specs.declared.limits.TheConstants.{MOST_LINE_BYTES}
use Rattle.rip_routes.specs.declared.error.RoutesCause.{RoutesCause}
use Rattle.rip_routes.specs.declared.error.RoutesCause.TheVariants as causes
use Rattle.rip_routes.specs.declared.next_hop.NextHop.{NextHop}
use Rattle.rip_routes.specs.declared.next_hop.NextHop.TheVariants.{Over, Via}
use Rattle.rip_routes.specs.declared.told.Told.{Told}
use Rattle.rip_routes.specs.declared.told.Way.{Way}
use Rattle.rip_routes.specs.declared.told.Way.TheVariants.{Here, To}

-- what stands before the first comma
abbrev pub before_comma : List ℕ → List ℕ
before_comma [] = []
before_comma (b ∷ bytes) = if b == 44 then [] else b ∷ before_comma bytes

-- a comment, or a line of totals that `routes` and `expect` print
abbrev pub is_silent : List ℕ → Bool
is_silent first =
    is_comment (first ∷ [])
    || (bytes_eq first (codes "routes:") || bytes_eq first (codes "expect:"))

-- the router and the link of a name
abbrev pub router_in : Network → List ℕ → Option ℕ
router_in n name = number_of_name name n.routers

abbrev pub link_in : Network → List ℕ → Option ℕ
link_in n name = number_of_name name n.links

-- the metric of a text: 1 to 16, without zeros in front
abbrev pub metric_in : List ℕ → Option ℕ
metric_in (a ∷ []) = if nat_le 49 a && nat_le a 57 then Some (a - 48) else None
metric_in (a ∷ b ∷ []) =
    if a == 49 && (nat_le 48 b && nat_le b 54) then Some (b - 38) else None
metric_in other = None

-- the router is on the link
abbrev pub is_on_link : Network → ℕ → ℕ → Bool
is_on_link n r l = list_any (λ i. i.router == r && i.link == l) n.interfaces

-- the metric at which the router has the prefix itself
abbrev pub direct_in : Network → ℕ → Block → Option ℕ
direct_in n r p =
    option_and_then (λ k. direct_at r k n.interfaces n.places) (number_of_prefix p n.prefixes)

-- over this link, on which the router is
abbrev pub over_in : Network → ℕ → Option ℕ → Option NextHop
over_in n r None = None
over_in n r (Some l) = if is_on_link n r l then Some (Over l) else None

-- the next hop that a word and a name say
abbrev pub hop_in : Network → ℕ → List ℕ → List ℕ → Option NextHop
hop_in n r word name =
    if bytes_eq word (codes "over") then over_in n r (link_in n name)
    else if bytes_eq word (codes "via") then option_map Via (address_in name)
    else None

-- what is told by a metric and a way: one of 16 has no way
abbrev pub told_by : ℕ → Block → ℕ → Way → Told
told_by r p m way = record {
  router = r;
  prefix = p;
  metric = m;
  way = if m == 16 then None else Some way;
}

-- what is told of a place that cannot be reached
abbrev pub told_unreachable : ℕ → Block → Told
told_unreachable r p = record { router = r; prefix = p; metric = 16; way = None }

-- what a route says of which one word is left, `here`
abbrev pub told_alone : Network → ℕ → Block → List ℕ → Result (Option Told) RoutesCause
told_alone n r p word =
    if bytes_eq word (codes "here")
    then Ok (Some (told_by r p (unwrap_or (direct_in n r p) 1) Here))
    else Err causes.Way

-- of which a metric and one word are left
abbrev pub told_with : ℕ → Block → List ℕ → Option ℕ → Result (Option Told) RoutesCause
told_with r p word None = Err causes.Metric
told_with r p word (Some m) =
    if bytes_eq word (codes "here") then Ok (Some (told_by r p m Here))
    else if bytes_eq word (codes "unreachable") && m == 16
    then Ok (Some (told_unreachable r p))
    else Err causes.Way

-- by a metric and the next hop that two words say, if they say one
abbrev pub told_hop : ℕ → Block → Option ℕ → Option NextHop → Result (Option Told) RoutesCause
told_hop r p None hop = Err causes.Metric
told_hop r p (Some m) None = Err causes.Way
told_hop r p (Some m) (Some hop) = Ok (Some (told_by r p m (To hop)))

-- what is left of a route after its router and its prefix
abbrev pub told_rest : Network → ℕ → Block → List (List ℕ) → Result (Option Told) RoutesCause
told_rest n r p (word ∷ []) = told_alone n r p word
told_rest n r p (m ∷ word ∷ []) = told_with r p word (metric_in m)
told_rest n r p (m ∷ word ∷ name ∷ []) = told_hop r p (metric_in m) (hop_in n r word name)
told_rest n r p other = Err causes.Fields

abbrev pub told_of_prefix : Network → ℕ → Option Block → List (List ℕ)
    → Result (Option Told) RoutesCause
told_of_prefix n r None rest = Err causes.Prefix
told_of_prefix n r (Some p) rest = told_rest n r p rest

abbrev pub told_of_router : Network → Option ℕ → Option Block → List (List ℕ)
    → Result (Option Told) RoutesCause
told_of_router n None prefix rest = Err causes.Router
told_of_router n (Some r) prefix rest = told_of_prefix n r prefix rest

-- what a route says: a router, a prefix, and one to three fields more
abbrev pub told_by_fields : Network → List (List ℕ) → Result (Option Told) RoutesCause
told_by_fields n (router ∷ prefix ∷ rest) =
    if nat_le 1 (length rest) && nat_le (length rest) 3
    then told_of_router n (router_in n router) (prefix_in prefix) rest
    else Err causes.Fields
told_by_fields n other = Err causes.Fields

-- what these fields say: nothing, or a route, or a fault
abbrev pub told_by_line : Network → List (List ℕ) → Result (Option Told) RoutesCause
told_by_line n [] = Ok None
told_by_line n (first ∷ rest) =
    if is_silent first then Ok None else told_by_fields n (first ∷ rest)

-- what a line says that is not too long, without a carriage return at its end
abbrev pub told_by_bare : Network → List ℕ → Result (Option Told) RoutesCause
told_by_bare n bare = told_by_line n (fields_of (before_comma bare))

-- what a line says; that it is too long comes first
abbrev pub line_said : Network → List ℕ → Result (Option Told) RoutesCause
line_said n line =
    if nat_lt MOST_LINE_BYTES (length line) then Err causes.LongLine
    else told_by_bare n (strip_last 13 line)
