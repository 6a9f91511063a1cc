-- The network of one prefix: what is left of a network without the links that do not exchange it.
use Rattle.std.specs.Prelude.{◌≡◌, ℕ, ◌+◌, ◌<◌, ◌≤◌, Bool, true, false, ◌||◌, not, if◌then◌else◌, None, is_some, length, map, option_and_then, slice_get, unwrap_or}
use Rattle.std.specs.List.{list_any}
use Rattle.std.specs.Option.{option_map_or}
use Rattle.rip_wire.specs.Prefix.{Block}
use Rattle.rip_plan.specs.declared.limits.TheConstants.{MOST_COST, MOST_LINKS, MOST_PLACES, MOST_ROUTERS}
use Rattle.rip_plan.specs.declared.parts.Interface.{Interface}
use Rattle.rip_plan.specs.declared.parts.OwnPrefix.{OwnPrefix}
use Rattle.rip_plan.specs.declared.parts.Place.{Place}
use Rattle.rip_plan.specs.declared.parts.Seat.{Seat}
use Rattle.rip_plan.specs.declared.parts.Seat.TheVariants as seats
use Rattle.rip_plan.specs.Network.{Network, first_carrying, is_item, number_of_prefix}
use Rattle.rip_plan.specs.Relations.{IsAttached, IsConnected, IsInterface, IsNeighbour, IsOn, IsOwnAt, IsPlace, Touches}

abbrev pub has_list : Network → ℕ → Bool
has_list n l = unwrap_or (slice_get n.lists l) false

-- routers exchange prefix b over link l
abbrev pub exchanges : Network → Block → ℕ → Bool
exchanges n b l =
    not (has_list n l)
    || (list_any (is_item l b) n.listed
    || is_some (option_and_then (λ k. first_carrying l k 0 n.places)
    (number_of_prefix b n.prefixes)))

-- ---- a network without the links that are closed

-- an interface on a closed link is no router's of the plan
abbrev pub interface_where : (ℕ → Bool) → Network → Interface → Interface
interface_where free n i =
    if free i.link then i else record i { router = length n.routers + i.router }

-- an own prefix that is attached to such a link is kept without it
abbrev pub own_where : (ℕ → Bool) → OwnPrefix → OwnPrefix
own_where free own =
    if option_map_or free own.link true then own else record own { kept = true; link = None }

abbrev pub seat_where : (ℕ → Bool) → Seat → Seat
seat_where free (seats.Link l) = seats.Link l
seat_where free (seats.Own own) = seats.Own (own_where free own)

abbrev pub place_where : (ℕ → Bool) → Place → Place
place_where free q = record q { seat = seat_where free q.seat }

-- The interfaces on closed links belong to nobody. Interfaces, links, routers and places keep their
-- numbers.
abbrev pub network_where : (ℕ → Bool) → Network → Network
network_where free n = record n {
  interfaces = map (interface_where free n) n.interfaces;
  places = map (place_where free) n.places;
}

-- the network of prefix b: without the links that do not exchange it
abbrev pub network_for : Network → Block → Network
network_for n b = network_where (exchanges n b) n

-- the laws that paths and routes rest on: a plan's network keeps them, and the network of each prefix,
-- in which a router may have no interface, and an interface no router of the plan
pub record IsNetwork (n : Network) : Type 0 where
  pub few_links : length n.links ≤ MOST_LINKS
  pub few_routers : length n.routers ≤ MOST_ROUTERS
  pub few_places : length n.places ≤ MOST_PLACES
  pub neighbour_known : (r l s : ℕ) → r < length n.routers → IsNeighbour n r l s
      → s < length n.routers
  pub link_known : (i r l c : ℕ) → IsInterface n i r l c → l < length n.links
  pub cost_least : (i r l c : ℕ) → IsInterface n i r l c → 1 ≤ c
  pub cost_most : (i r l c : ℕ) → IsInterface n i r l c → c ≤ MOST_COST
  pub one_on_link : (i j r l c d : ℕ) → IsInterface n i r l c → IsInterface n j r l d → i ≡ j
  pub direct_least : (i r l d : ℕ) → IsConnected n i r l d → 1 ≤ d
  pub direct_most : (i r l c d : ℕ) → IsInterface n i r l c → IsConnected n i r l d → d ≤ c
  pub prefix_known : (k p : ℕ) (seat : Seat) → IsPlace n k p seat → p < length n.prefixes
  pub owner_known : (k p r c : ℕ) → IsOwnAt n k p r c → r < length n.routers
  pub own_cost_least : (k p r c : ℕ) → IsOwnAt n k p r c → 1 ≤ c
  pub own_cost_most : (k p r c : ℕ) → IsOwnAt n k p r c → c ≤ MOST_COST
  pub attached_there : (r p l : ℕ) → IsAttached n r p l → IsOn n r l
  pub touched_once : (k j p r c d : ℕ) → Touches n k p r c → Touches n j p r d → k ≡ j
