-- The passes over what was read: what clashes with something earlier.
use Rattle.std.specs.Prelude.{ℕ, zero, suc, ◌+◌, List, [], ◌∷◌, ◌++◌, length, map, filter, Bool, false, ◌&&◌, ◌||◌, not, ◌==◌, Option, Some, None, option_and_then, option_map, Result, Ok, Err, if◌then◌else◌, slice_get, find}
use Rattle.std.specs.List.{list_any}
use Rattle.std.specs.Option.{option_map_or}
use Rattle.rip_wire.specs.Prefix.{Block}
use Rattle.rip_plan.specs.declared.error.PlanCode.{PlanCode}
use Rattle.rip_plan.specs.declared.error.PlanCode.TheVariants as codes
use Rattle.rip_plan.specs.declared.error.PlanError.{PlanError}
use Rattle.rip_plan.specs.declared.error.At.{At}
use Rattle.rip_plan.specs.declared.error.At.TheVariants.{Router}
use Rattle.rip_plan.specs.declared.addresses.Held.{Held}
use Rattle.rip_plan.specs.declared.draft.DraftInterface.{DraftInterface}
use Rattle.rip_plan.specs.declared.draft.DraftPlace.{DraftPlace}
use Rattle.rip_plan.specs.declared.parts.Seat.{Seat}
use Rattle.rip_plan.specs.declared.parts.Seat.TheVariants as seats
use Rattle.rip_plan.specs.Addresses.{have_one_address, held_from}
use Rattle.rip_plan.specs.Fault.{fault, ◌>>=◌}
use Rattle.rip_plan.specs.Draft.{Sketch}

-- the first item that clashes with an earlier one
abbrev pub first_clash : {A : Type 0} → (A → A → Bool) → List A → List A → Option A
first_clash clash earlier [] = None
first_clash clash earlier (x ∷ xs) =
    if list_any (λ y. clash y x) earlier then Some x else first_clash clash (earlier ++ x ∷ []) xs

abbrev pub same_prefix : Block → Block → Bool
same_prefix p q = p.network == q.network && p.prefix_len == q.prefix_len

-- the routers that a seat touches: those with an interface on the link, or the owner
abbrev pub touched : List DraftInterface → Seat → List ℕ
touched interfaces (seats.Link l) =
    map (λ i. i.interface.router) (filter (λ i. i.interface.link == l) interfaces)
touched interfaces (seats.Own own) = own.router ∷ []

abbrev pub is_same_link : Seat → Seat → Bool
is_same_link (seats.Link l) (seats.Link m) = l == m
is_same_link (seats.Link l) (seats.Own own) = false
is_same_link (seats.Own own) seat = false

-- a place with the routers that it touches
pub record Touching : Type 0 where
  pub place : DraftPlace
  pub routers : List ℕ

abbrev pub touching : List DraftInterface → DraftPlace → Touching
touching interfaces p = record { place = p; routers = touched interfaces p.seat }

abbrev pub have_common : List ℕ → List ℕ → Bool
have_common rs ss = list_any (λ s. list_any (λ r. r == s) rs) ss

-- two places of one prefix on one link, or that touch one router
abbrev pub do_meet : Touching → Touching → Bool
do_meet p q =
    same_prefix p.place.prefix q.place.prefix
    && (is_same_link p.place.seat q.place.seat || have_common p.routers q.routers)

-- two interfaces of one router on one link
abbrev pub are_twice : DraftInterface → DraftInterface → Bool
are_twice a b = a.interface.router == b.interface.router && a.interface.link == b.interface.link

-- the router has no interface
abbrev pub is_bare : List DraftInterface → ℕ → Bool
is_bare interfaces r = not (list_any (λ i. i.interface.router == r) interfaces)

-- the first of n routers from k on that has no interface
abbrev pub first_bare : List DraftInterface → ℕ → ℕ → Option ℕ
first_bare interfaces k zero = None
first_bare interfaces k (suc n) =
    if is_bare interfaces k then Some k else first_bare interfaces (k + 1) n

-- nothing, or the fault where something was found
abbrev pub none_found : PlanCode → Option At → Result (Unit {0}) PlanError
none_found code None = Ok tt
none_found code (Some at) = Err (fault code at)

-- where the first place of a prefix stands that meets an earlier one
abbrev pub duplicate_in : List DraftInterface → List DraftPlace → Option At
duplicate_in interfaces places =
    option_map (λ t. t.place.at) (first_clash do_meet [] (map (touching interfaces) places))

-- where the first interface stands whose router has an earlier one on the link
abbrev pub twice_in : List DraftInterface → Option At
twice_in interfaces = option_map (λ i. i.at) (first_clash are_twice [] interfaces)

-- where an interface stands
abbrev pub spot_of : List DraftInterface → ℕ → Option At
spot_of interfaces i = option_map (λ x. x.at) (slice_get interfaces i)

-- the addresses of all interfaces, with the further ones of each
abbrev pub held : List DraftInterface → List (List ℕ) → List Held
held interfaces also = held_from 0 (map (λ i. i.interface) interfaces) also

-- where the first interface stands that has an address a second time on its link: after an earlier
-- interface there, or after the same address of its own
abbrev pub taken_address_in : List DraftInterface → List (List ℕ) → Option At
taken_address_in interfaces also =
    option_and_then (λ h. spot_of interfaces h.interface)
    (first_clash have_one_address [] (held interfaces also))

-- the router has an interface on the link
abbrev pub is_there : List DraftInterface → ℕ → ℕ → Bool
is_there interfaces r l =
    list_any (λ i. i.interface.router == r && i.interface.link == l) interfaces

-- a router's own prefix that is attached to a link on which the router is not
abbrev pub is_astray : List DraftInterface → Seat → Bool
is_astray interfaces (seats.Link l) = false
is_astray interfaces (seats.Own own) =
    option_map_or (λ l. not (is_there interfaces own.router l)) own.link false

-- where the first such own prefix stands
abbrev pub astray_in : List DraftInterface → List DraftPlace → Option At
astray_in interfaces places =
    option_map (λ p. p.at) (find (λ p. is_astray interfaces p.seat) places)

-- the address is this one, and is another router's than r, on a link on which r has an interface
abbrev pub is_neighbours : List DraftInterface → ℕ → ℕ → Held → Bool
is_neighbours interfaces r a h =
    h.address == a
    && (option_map_or (λ i. not (i.interface.router == r)) (slice_get interfaces h.interface) false
    && is_there interfaces r h.link)

-- a router's own prefix whose gateway is one of these addresses, a neighbour's
abbrev pub has_neighbours_gateway : List DraftInterface → List Held → Seat → Bool
has_neighbours_gateway interfaces held (seats.Link l) = false
has_neighbours_gateway interfaces held (seats.Own own) =
    option_map_or (λ a. list_any (λ h. is_neighbours interfaces own.router a h) held) own.via false

-- where the first such own prefix stands
abbrev pub neighbours_gateway_in :
    List DraftInterface → List (List ℕ) → List DraftPlace → Option At
neighbours_gateway_in interfaces also places =
    option_map (λ p. p.at)
    (find (λ p. has_neighbours_gateway interfaces (held interfaces also) p.seat) places)

-- where the first of so many routers stands that has no interface
abbrev pub bare_in : List DraftInterface → ℕ → Option At
bare_in interfaces routers = option_map (λ r. Router (r + 1)) (first_bare interfaces 0 routers)

-- the passes over addresses: those of interfaces, and then those of gateways
abbrev pub address_passes : Sketch → Result (Unit {0}) PlanError
address_passes s =
    none_found codes.DuplicateAddress (taken_address_in s.interfaces s.also) >>= (λ _.
    none_found codes.DuplicateAddress (neighbours_gateway_in s.interfaces s.also s.places))

-- the passes, one for each of these codes, but two for addresses; UnknownLink is reported in the
-- first pass over the text too
unfoldable pub second_passes : Sketch → Result (Unit {0}) PlanError
second_passes s =
    none_found codes.DuplicatePrefix (duplicate_in s.interfaces s.places) >>= (λ _.
    none_found codes.TwiceOnLink (twice_in s.interfaces) >>= (λ _.
    address_passes s >>= (λ _.
    none_found codes.NoInterface (bare_in s.interfaces (length s.routers)) >>= (λ _.
    none_found codes.UnknownLink (astray_in s.interfaces s.places)))))
