-- What a plan is: its links and routers by their names, whether each link has a list of what it
-- exchanges and what stands in the lists, its interfaces, and its prefixes with their places.
use Rattle.std.specs.Prelude.{ℕ, zero, suc, ◌+◌, Bool, if◌then◌else◌, option_and_then, ◌&&◌, ◌==◌, List, [], ◌∷◌, ◌++◌, length, map, find, Option, Some, None, is_some, option_map, Result, Ok}
use Rattle.std.specs.List.{position_from}
use Rattle.std.specs.Option.{option_or}
use Rattle.rip_wire.specs.Prefix.{Block}
use Rattle.rip_plan.specs.declared.addresses.Held.{Held}
use Rattle.rip_plan.specs.declared.error.PlanError.{PlanError}
use Rattle.rip_plan.specs.declared.parts.Interface.{Interface}
use Rattle.rip_plan.specs.declared.parts.Listed.{Listed}
use Rattle.rip_plan.specs.declared.parts.Place.{Place}
use Rattle.rip_plan.specs.declared.parts.Seat.{Seat}
use Rattle.rip_plan.specs.declared.parts.Seat.TheVariants as seats
use Rattle.rip_plan.specs.declared.draft.DraftPlace.{DraftPlace}
use Rattle.rip_plan.specs.Addresses.{held_from, holder_at}
use Rattle.rip_plan.specs.Fault.{◌>>=◌}
use Rattle.rip_plan.specs.Seats as seated
use Rattle.rip_plan.specs.Names.{number_of_name}
use Rattle.rip_plan.specs.Draft.{Sketch}
use Rattle.rip_plan.specs.Passes.{same_prefix}
use Rattle.rip_plan.specs.PlanText.{sketch_of}

pub record Network : Type 0 where
  pub links : List (List ℕ)
  pub lists : List Bool
  pub listed : List Listed
  pub routers : List (List ℕ)
  pub interfaces : List Interface
  pub also : List (List ℕ)
  pub prefixes : List Block
  pub places : List Place

-- the number of the prefix among the prefixes
abbrev pub number_of_prefix : Block → List Block → Option ℕ
number_of_prefix p ps = position_from (same_prefix p) 0 ps

-- the number that a prefix has, or gets as the next one
abbrev pub number_or_next : List Block → Option ℕ → ℕ
number_or_next ps None = length ps
number_or_next ps (Some k) = k

-- the prefixes with this one, which is new or not
abbrev pub with_prefix : List Block → Block → Option ℕ → List Block
with_prefix ps p None = ps ++ p ∷ []
with_prefix ps p (Some k) = ps

-- the prefixes, each once in the order of its first place, and the places with the prefixes'
-- numbers
abbrev pub numbered : List Block → List Place → List DraftPlace → List Block × List Place
numbered ps qs [] = (ps, qs)
numbered ps qs (d ∷ ds) =
    let k = number_of_prefix d.prefix ps in
    let q : Place = record { prefix = number_or_next ps k; seat = d.seat } in
    numbered (with_prefix ps d.prefix k) (qs ++ q ∷ []) ds

-- the plan of what was read
abbrev pub network_of_sketch : Sketch → Network
network_of_sketch s =
    let both = numbered [] [] s.places in
    record {
      links = s.links;
      lists = s.lists;
      listed = s.listed;
      routers = s.routers;
      interfaces = map (λ i. i.interface) s.interfaces;
      also = s.also;
      prefixes = both.0;
      places = both.1;
    }

-- the plan that the bytes are, or their first fault
abbrev pub network_in : List ℕ → Result Network PlanError
network_in bytes = sketch_of bytes >>= (λ s. Ok (network_of_sketch s))

-- ---- Looking things up in a plan

-- both parts of two pairs are equal
abbrev pub pair_eq : ℕ × ℕ → ℕ × ℕ → Bool
pair_eq p q = p.0 == q.0 && p.1 == q.1

-- a link and a prefix are these
abbrev pub same_item : ℕ × Block → ℕ × Block → Bool
same_item p q = p.0 == q.0 && same_prefix p.1 q.1

-- the prefix in the list of the link
abbrev pub is_item : ℕ → Block → Listed → Bool
is_item l b x = x.link == l && same_prefix x.prefix b

-- the addresses of all interfaces
abbrev pub addresses_of : Network → List Held
addresses_of n = held_from 0 n.interfaces n.also

-- the number of the interface on the link of this name with the address
abbrev pub found_at : Network → List ℕ → ℕ → Option ℕ
found_at n name a =
    option_and_then (λ l. holder_at l a (addresses_of n)) (number_of_name name n.links)

abbrev pub is_on : ℕ → Interface → Bool
is_on l i = i.link == l

abbrev pub is_of : ℕ → Interface → Bool
is_of r i = i.router == r

-- the numbers of the items that pass, counted from n, ascending
abbrev pub numbers_where : {A : Type 0} → (A → Bool) → ℕ → List A → List ℕ
numbers_where test n [] = []
numbers_where test n (x ∷ xs) =
    if test x then n ∷ numbers_where test (n + 1) xs else numbers_where test (n + 1) xs

-- the place is the link, with prefix k
abbrev pub is_carrying : ℕ → ℕ → Place → Bool
is_carrying l k q = seated.is_on l q.seat && q.prefix == k

-- the place is prefix k as the router's own
abbrev pub is_owned : ℕ → ℕ → Place → Bool
is_owned r k q = seated.is_with r q.seat && q.prefix == k

-- the place is prefix k's, and has a gateway
abbrev pub has_gateway : ℕ → Place → Bool
has_gateway k q = q.prefix == k && is_some (seated.gateway_of q.seat)

-- the number of the first place of prefix k on the link, counted from n
abbrev pub first_carrying : ℕ → ℕ → ℕ → List Place → Option ℕ
first_carrying l k n places = position_from (is_carrying l k) n places

-- the number of the first place at which prefix k is the router's own, counted from n
abbrev pub first_owned : ℕ → ℕ → ℕ → List Place → Option ℕ
first_owned r k n places = position_from (is_owned r k) n places

-- the seat of prefix k where it is the router's own, of its first place
abbrev pub own_seat : ℕ → ℕ → List Place → Option Seat
own_seat r k places = option_map (λ q. q.seat) (find (is_owned r k) places)

-- the metric at which the router has the prefixes of the link, by its first interface there
abbrev pub cost_on : ℕ → ℕ → List Interface → Option ℕ
cost_on r l [] = None
cost_on r l (i ∷ is) = if i.router == r && i.link == l then Some i.direct else cost_on r l is

-- the metric at which the router has what is at the seat
abbrev pub cost_at : ℕ → List Interface → Seat → Option ℕ
cost_at r interfaces (seats.Link l) = cost_on r l interfaces
cost_at r interfaces (seats.Own own) = if own.router == r then Some own.cost else None

-- the metric at which the router has prefix k, at the first place that touches it
abbrev pub direct_at : ℕ → ℕ → List Interface → List Place → Option ℕ
direct_at r k interfaces [] = None
direct_at r k interfaces (q ∷ qs) =
    if q.prefix == k then option_or (cost_at r interfaces q.seat) (direct_at r k interfaces qs)
    else direct_at r k interfaces qs

-- f of each number below n
abbrev pub each_below : {A : Type 0} → ℕ → (ℕ → A) → List A
each_below zero f = []
each_below (suc n) f = each_below n f ++ f n ∷ []
