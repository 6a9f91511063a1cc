-- The rows in which a plan keeps the costs of routers and the prefixes of links, one after another
-- in one list: what stands in row r at column k of w.
use Rattle.std.specs.Prelude.{◌≡◌, ℕ, ◌+◌, ◌*◌, ◌<◌, List, [], ◌∷◌, length, Bool, false, ◌==◌, Option, Some, None, if◌then◌else◌, slice_get, slice_index, slice_index_or, unwrap_or, is_some}
use Rattle.std.specs.Option.{option_or}
use Rattle.rip_plan.specs.declared.parts.Interface.{Interface}
use Rattle.rip_plan.specs.declared.parts.Place.{Place}
use Rattle.rip_plan.specs.declared.parts.Seat.{Seat}
use Rattle.rip_plan.specs.declared.parts.Seat.TheVariants as seats
use Rattle.rip_plan.specs.Network.{direct_at, each_below, first_carrying, first_owned, is_on, numbers_where}

-- the number in row r at column k
abbrev pub cell : ℕ → List ℕ → ℕ → ℕ → ℕ
cell w costs r k = slice_index costs (r * w + k)

-- the flag in row l at column k
abbrev pub flag : ℕ → List Bool → ℕ → ℕ → Bool
flag w flags l k = slice_index_or flags (l * w + k) false

-- the row of each router has the cost at which it has each of w prefixes, or 0
abbrev pub AreCosts : ℕ → List Interface → List Place → List ℕ → Type 0
AreCosts w interfaces places costs =
    (r k : ℕ) → k < w → cell w costs r k ≡ unwrap_or (direct_at r k interfaces places) 0

-- the row of each link says of each of w prefixes whether it stands on the link
abbrev pub AreFlags : ℕ → List Place → List Bool → Type 0
AreFlags w places flags =
    (l k : ℕ) → k < w → flag w flags l k ≡ is_some (first_carrying l k 0 places)

-- in column p stand the costs that there are, and all else is as it was
abbrev pub WritesCosts : ℕ → ℕ → (ℕ → Option ℕ) → List ℕ → List ℕ → Type 0
WritesCosts w p cost old new =
    (r k : ℕ) → k < w → cell w new r k
    ≡ (if p == k then unwrap_or (cost r) (cell w old r k) else cell w old r k)

-- the number of a router's own place in row r at column k
abbrev pub owner_cell : ℕ → List (Option ℕ) → ℕ → ℕ → Option ℕ
owner_cell w cells r k = slice_index_or cells (r * w + k) None

-- the row of each router has the number of the place at which each of w prefixes is its own
abbrev pub AreOwners : ℕ → List Place → List (Option ℕ) → Type 0
AreOwners w places cells =
    (r k : ℕ) → k < w → owner_cell w cells r k ≡ first_owned r k 0 places

-- the metric of the interface's link, if it is the router's
abbrev pub cost_by : ℕ → Option Interface → Option ℕ
cost_by r None = None
cost_by r (Some i) = if i.router == r then Some i.direct else None

-- the metric at the router's first interface among those of these numbers
abbrev pub cost_among : ℕ → List Interface → List ℕ → Option ℕ
cost_among r interfaces [] = None
cost_among r interfaces (n ∷ ns) =
    option_or (cost_by r (slice_get interfaces n)) (cost_among r interfaces ns)

-- these are the lists of the interfaces on each link
abbrev pub AreOnLinks : List Interface → List (List ℕ) → Type 0
AreOnLinks interfaces lists =
    lists ≡ each_below (length lists) (λ l. numbers_where (is_on l) 0 interfaces)

-- a link of the seat has a lower number
abbrev pub IsLinkBelow : ℕ → Seat → Type 0
IsLinkBelow links (seats.Link l) = l < links
IsLinkBelow links (seats.Own own) = Unit {0}

-- an owner of the seat has a lower number
abbrev pub IsOwnerBelow : ℕ → Seat → Type 0
IsOwnerBelow routers (seats.Link l) = Unit {0}
IsOwnerBelow routers (seats.Own own) = own.router < routers

-- the cell of an owner is among so many
abbrev pub IsOwnerWithin : ℕ → ℕ → ℕ → Seat → Type 0
IsOwnerWithin w p cells (seats.Link l) = Unit {0}
IsOwnerWithin w p cells (seats.Own own) = own.router * w + p < cells
