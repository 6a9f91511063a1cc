-- Failures of a link or a router, and the network that is left after one.
use Rattle.std.specs.Prelude.{ℕ, ◌<◌, Bool, true, not, ◌&&◌, ◌==◌, Option, None, Some, length}
use Rattle.std.specs.List.{filter}
use Rattle.rip_plan.specs.Network.{Network}
use Rattle.rip_plan.specs.PrefixNetworks.{exchanges, network_where}
use Rattle.rip_plan.specs.declared.parts.Interface.{Interface}
use Rattle.rip_plan.specs.declared.parts.Seat.{Seat}
use Rattle.rip_plan.specs.declared.parts.Seat.TheVariants as seats
use Rattle.rip_check.specs.declared.failures.Failure.{Failure}
use Rattle.rip_check.specs.declared.failures.Failure.TheVariants as failures
use Rattle.rip_check.specs.Networks.{block_at}

-- what has failed is a link or a router of the plan
abbrev pub IsKnown : Network → Failure → Type 0
IsKnown n (failures.Link l) = l < length n.links
IsKnown n (failures.Router r) = r < length n.routers

-- link l has not failed
abbrev pub is_link_up : Option Failure → ℕ → Bool
is_link_up None l = true
is_link_up (Some (failures.Link failed)) l = not (l == failed)
is_link_up (Some (failures.Router failed)) l = true

-- router r has not failed
abbrev pub is_router_up : Option Failure → ℕ → Bool
is_router_up None r = true
is_router_up (Some (failures.Link failed)) r = true
is_router_up (Some (failures.Router failed)) r = not (r == failed)

-- an interface is alive where neither its link nor its router has failed
abbrev pub is_alive : Option Failure → Interface → Bool
is_alive f i = is_router_up f i.router && is_link_up f i.link

-- the link, if one is named, has not failed
abbrev pub is_any_up : Option Failure → Option ℕ → Bool
is_any_up f None = true
is_any_up f (Some l) = is_link_up f l

-- a seat is alive where it is neither the failed link, nor the failed router's own, nor an own
-- prefix attached to the failed link
abbrev pub is_alive_seat : Option Failure → Seat → Bool
is_alive_seat f (seats.Link l) = is_link_up f l
is_alive_seat f (seats.Own own) = is_router_up f own.router && is_any_up f own.link

-- the network after a failure: its interfaces and places that are alive; links, routers and
-- prefixes keep their numbers. Further addresses stay as they were, by the numbers that the
-- interfaces had: they are for senders, and a path reads none.
abbrev pub network_after : Network → Failure → Network
network_after n f = record {
  links = n.links;
  lists = n.lists;
  listed = n.listed;
  routers = n.routers;
  interfaces = filter (is_alive (Some f)) n.interfaces;
  also = n.also;
  prefixes = n.prefixes;
  places = filter (λ q. is_alive_seat (Some f) q.seat) n.places;
}

-- what is left of a network where something has failed, or nothing
abbrev pub network_left : Network → Option Failure → Network
network_left n None = n
network_left n (Some f) = network_after n f

-- what is left of a network to a prefix of its plan, by its number: first what has failed is left
-- out, then the links that do not exchange the prefix
abbrev pub left_to : Network → Option Failure → ℕ → Network
left_to n f p = network_where (exchanges n (block_at n.prefixes p)) (network_left n f)
