-- What stands in a network: who is on which link at what cost, where each prefix is, and the laws
-- that a plan keeps.
use Rattle.std.specs.Prelude.{◌≡◌, ◌≢◌, ℕ, ◌<◌, ◌≤◌, ◌^◌, ◌⊎◌, List, ◌∷◌, length, map, sum, true, Contains, Some, slice_get}
use Rattle.rip_wire.specs.Name.{IsName}
use Rattle.rip_wire.specs.Prefix.{Block, ContainsAddress, IsBlock}
use Rattle.rip_plan.specs.declared.limits.TheConstants.{MOST_ALSO, MOST_COST, MOST_INTERFACES, MOST_LINKS, MOST_LISTED, MOST_PLACES, MOST_ROUTERS}
use Rattle.rip_plan.specs.declared.parts.Interface.{Interface}
use Rattle.rip_plan.specs.declared.parts.Listed.{Listed}
use Rattle.rip_plan.specs.declared.parts.OwnPrefix.{OwnPrefix}
use Rattle.rip_plan.specs.declared.parts.Seat.{Seat}
use Rattle.rip_plan.specs.declared.parts.Seat.TheVariants.{Link, Own}
use Rattle.rip_plan.specs.Network.{Network}

-- link l has this name
abbrev pub IsLinkName : Network → ℕ → List ℕ → Type 0
IsLinkName n l name = slice_get n.links l ≡ Some name

-- router r has this name
abbrev pub IsRouterName : Network → ℕ → List ℕ → Type 0
IsRouterName n r name = slice_get n.routers r ≡ Some name

-- prefix k of the plan
abbrev pub IsPrefix : Network → ℕ → Block → Type 0
IsPrefix n k p = slice_get n.prefixes k ≡ Some p

-- interface i is router r's on link l, and has cost c (RFC 2453, 3.5: the metric of a
-- directly-connected network)
pub record IsInterface (n : Network) (i r l c : ℕ) : Type 0 where
  pub interface : Interface
  pub listed : slice_get n.interfaces i ≡ Some interface
  pub router : interface.router ≡ r
  pub link : interface.link ≡ l
  pub cost : interface.cost ≡ c

-- interface i is router r's on link l, and d is the metric at which the router has the prefixes of
-- the link
pub record IsConnected (n : Network) (i r l d : ℕ) : Type 0 where
  pub interface : Interface
  pub listed : slice_get n.interfaces i ≡ Some interface
  pub router : interface.router ≡ r
  pub link : interface.link ≡ l
  pub direct : interface.direct ≡ d

-- interface i poisons: where its router has a route over the link, it shows 16 there, and does not
-- leave the route out (RFC 2453, 3.4.3: split horizon with poisoned reverse)
pub record Poisons (n : Network) (i : ℕ) : Type 0 where
  pub interface : Interface
  pub listed : slice_get n.interfaces i ≡ Some interface
  pub poisons : interface.poison ≡ true

-- these are the addresses of interface i, which is on link l: its own, and then its further ones
pub record HasAddresses (n : Network) (i l : ℕ) (addresses : List ℕ) : Type 0 where
  pub interface : Interface
  pub listed : slice_get n.interfaces i ≡ Some interface
  pub link : interface.link ≡ l
  pub also : List ℕ
  pub further : slice_get n.also i ≡ Some also
  pub all : addresses ≡ interface.address ∷ also

-- interface i is on link l and has address a there, its own or a further one
abbrev pub HasAddress : Network → ℕ → ℕ → ℕ → Type 0
HasAddress n i l a =
    (addresses : List ℕ) × HasAddresses n i l addresses × Contains addresses a

-- a is interface i's own address, on link l
pub record HasOwnAddress (n : Network) (i l a : ℕ) : Type 0 where
  pub interface : Interface
  pub listed : slice_get n.interfaces i ≡ Some interface
  pub link : interface.link ≡ l
  pub address : interface.address ≡ a

-- interface i is on the link of this name and has address a there
abbrev pub IsAt : Network → List ℕ → ℕ → ℕ → Type 0
IsAt n name a i = (l : ℕ) × IsLinkName n l name × HasAddress n i l a

-- router r has an interface on link l, of cost c
abbrev pub HasCost : Network → ℕ → ℕ → ℕ → Type 0
HasCost n r l c = (i : ℕ) × IsInterface n i r l c

abbrev pub IsOn : Network → ℕ → ℕ → Type 0
IsOn n r l = (c : ℕ) × HasCost n r l c

-- s is another router than r on link l, where r is too
pub record IsNeighbour (n : Network) (r l s : ℕ) : Type 0 where
  pub other : s ≢ r
  pub here : IsOn n r l
  pub there : IsOn n s l

-- router r has more than one interface
abbrev pub HasTwoInterfaces : Network → ℕ → Type 0
HasTwoInterfaces n r = (i j l k c d : ℕ) × IsInterface n i r l c × IsInterface n j r k d × (i ≢ j)

-- interface i, on link l at cost c, is the only one of router r
pub record IsLeaf (n : Network) (r i l c : ℕ) : Type 0 where
  pub has : IsInterface n i r l c
  pub only : (j k d : ℕ) → IsInterface n j r k d → j ≡ i

-- place k of the plan is prefix p's, and has this seat
pub record IsPlace (n : Network) (k p : ℕ) (seat : Seat) : Type 0 where
  pub listed : slice_get n.places k ≡ Some (record { prefix = p; seat = seat })

-- link l is a place of prefix p
abbrev pub Carries : Network → ℕ → ℕ → Type 0
Carries n l p = (k : ℕ) × IsPlace n k p (Link l)

-- place k of the plan is prefix p as router r's own, of which the plan says this
pub record IsOwnWith (n : Network) (k p r : ℕ) (Says : OwnPrefix → Type 0) : Type 0 where
  pub own : OwnPrefix
  pub place : IsPlace n k p (Own own)
  pub router : own.router ≡ r
  pub says : Says own

-- place k of the plan is prefix p as router r's own, at cost c
abbrev pub IsOwnAt : Network → ℕ → ℕ → ℕ → ℕ → Type 0
IsOwnAt n k p r c = IsOwnWith n k p r (λ own. own.cost ≡ c)

-- place k of the plan is prefix p as router r's own, attached to link l: a connected network of the
-- router's interface there, beside the link's prefixes
abbrev pub IsAttachedAt : Network → ℕ → ℕ → ℕ → ℕ → Type 0
IsAttachedAt n k p r l = IsOwnWith n k p r (λ own. own.link ≡ Some l)

-- place k of prefix p touches router r, which has the prefix there at metric c: the router is on
-- the link, or owns the prefix
abbrev pub Touches : Network → ℕ → ℕ → ℕ → ℕ → Type 0
Touches n k p r c =
    ((l : ℕ) × IsPlace n k p (Link l) × ((i : ℕ) × IsConnected n i r l c))
    ⊎ IsOwnAt n k p r c

-- router r has prefix p on its own link, or as its own, at metric c (RFC 2453, 3.5: its
-- directly-connected networks)
abbrev pub IsDirect : Network → ℕ → ℕ → ℕ → Type 0
IsDirect n r p c = (k : ℕ) × Touches n k p r c

-- router r has prefix p as its own, attached to link l
abbrev pub IsAttached : Network → ℕ → ℕ → ℕ → Type 0
IsAttached n r p l = (k : ℕ) × IsAttachedAt n k p r l

-- router r never gives its own prefix p up for an offer: a static route, by its administrative
-- distance, or a connected network
abbrev pub IsKept : Network → ℕ → ℕ → Type 0
IsKept n r p =
    ((k : ℕ) × IsOwnWith n k p r (λ own. own.kept ≡ true)) ⊎ ((l : ℕ) × IsAttached n r p l)

-- place k of the plan is prefix p as router r's own, with gateway a
abbrev pub IsGatewayAt : Network → ℕ → ℕ → ℕ → ℕ → Type 0
IsGatewayAt n k p r a = IsOwnWith n k p r (λ own. own.via ≡ Some a)

-- router r may tell a, a gateway outside of the plan, as next hop of its own prefix p
abbrev pub IsGateway : Network → ℕ → ℕ → ℕ → Type 0
IsGateway n r p a = (k : ℕ) × IsGatewayAt n k p r a

-- place k is a router's own prefix whose gateway is an address of a neighbour: of another router's
-- interface, on a link on which the owner has one
pub record IsGatewayOfNeighbour (n : Network) (k : ℕ) : Type 0 where
  pub prefix : ℕ
  pub router : ℕ
  pub gateway : ℕ
  pub own : IsGatewayAt n k prefix router gateway
  pub link : ℕ
  pub here : IsOn n router link
  pub neighbour : ℕ
  pub other : neighbour ≢ router
  pub interface : ℕ
  pub cost : ℕ
  pub there : IsInterface n interface neighbour link cost
  pub has : HasAddress n interface link gateway

-- link l has a list of what it exchanges
abbrev pub HasList : Network → ℕ → Type 0
HasList n l = slice_get n.lists l ≡ Some true

-- prefix b stands in the list of link l
pub record IsListed (n : Network) (l : ℕ) (b : Block) : Type 0 where
  pub number : ℕ
  pub item : Listed
  pub listed : slice_get n.listed number ≡ Some item
  pub link : item.link ≡ l
  pub prefix : item.prefix ≡ b

-- routers exchange prefix b over link l: the link has no list, or the prefix stands in it, or is
-- the link's own
abbrev pub Exchanges : Network → ℕ → Block → Type 0
Exchanges n l b =
    (HasList n l → ⊥) ⊎ (IsListed n l b ⊎ ((k : ℕ) × IsPrefix n k b × Carries n l k))

-- the plan says no more of metrics and routes than RFC 2453 does: the prefixes of a link have the
-- interface's cost, no router keeps a prefix or has one attached, and no link has a list
pub record IsPlain (n : Network) : Type 0 where
  pub direct : (i r l c d : ℕ) → IsInterface n i r l c → IsConnected n i r l d → d ≡ c
  pub not_kept : (r p : ℕ) → IsKept n r p → ⊥
  pub no_list : (l : ℕ) → HasList n l → ⊥

-- each item stands once in the list
abbrev pub IsEachOnce : List ℕ → Type 0
IsEachOnce items =
    (j k a : ℕ) → slice_get items j ≡ Some a → slice_get items k ≡ Some a → j ≡ k

-- a prefix of link l contains address a
abbrev pub IsInside : Network → ℕ → ℕ → Type 0
IsInside n l a =
    (p : ℕ) × (block : Block) × Carries n l p × IsPrefix n p block × ContainsAddress block a

-- ---- The laws of a plan: what reading refuses breaks one

pub record IsLawful (n : Network) : Type 0 where
  -- limits
  pub some_link : 1 ≤ length n.links
  pub few_links : length n.links ≤ MOST_LINKS
  pub some_router : 1 ≤ length n.routers
  pub few_routers : length n.routers ≤ MOST_ROUTERS
  pub few_interfaces : length n.interfaces ≤ MOST_INTERFACES
  pub few_also : sum (map length n.also) ≤ MOST_ALSO
  pub few_places : length n.places ≤ MOST_PLACES
  pub few_listed : length n.listed ≤ MOST_LISTED
  -- names
  pub link_named : (l : ℕ) (name : List ℕ) → IsLinkName n l name → IsName name
  pub router_named : (r : ℕ) (name : List ℕ) → IsRouterName n r name → IsName name
  pub link_names_differ : (l m : ℕ) (name : List ℕ)
      → IsLinkName n l name → IsLinkName n m name → l ≡ m
  pub router_names_differ : (r s : ℕ) (name : List ℕ)
      → IsRouterName n r name → IsRouterName n s name → r ≡ s
  -- lists
  pub list_of_each : length n.lists ≡ length n.links
  pub listed_known : (l : ℕ) (b : Block) → IsListed n l b → HasList n l
  pub listed_is : (l : ℕ) (b : Block) → IsListed n l b → IsBlock b
  -- interfaces, and their costs (RFC 2453, 3.5)
  pub router_known : (i r l c : ℕ) → IsInterface n i r l c → r < length n.routers
  pub link_known : (i r l c : ℕ) → IsInterface n i r l c → l < length n.links
  pub cost_least : (i r l c : ℕ) → IsInterface n i r l c → 1 ≤ c
  pub cost_most : (i r l c : ℕ) → IsInterface n i r l c → c ≤ MOST_COST
  pub one_interface : (r : ℕ) → r < length n.routers → (i l c : ℕ) × IsInterface n i r l c
  pub one_on_link : (i j r l c d : ℕ) → IsInterface n i r l c → IsInterface n j r l d → i ≡ j
  pub direct_least : (i r l d : ℕ) → IsConnected n i r l d → 1 ≤ d
  pub direct_most : (i r l c d : ℕ) → IsInterface n i r l c → IsConnected n i r l d → d ≤ c
  pub also_listed : length n.also ≡ length n.interfaces
  pub address_known : (i l a : ℕ) → HasAddress n i l a → a < 2 ^ 32
  pub addresses_differ : (i j l a : ℕ) → HasAddress n i l a → HasAddress n j l a → i ≡ j
  pub addresses_once : (i l : ℕ) (addresses : List ℕ) → HasAddresses n i l addresses
      → IsEachOnce addresses
  pub inside : (i l a p : ℕ) → HasOwnAddress n i l a → Carries n l p → IsInside n l a
  -- prefixes and their places
  pub prefix_is : (p : ℕ) (block : Block) → IsPrefix n p block → IsBlock block
  pub prefixes_differ : (p q : ℕ) (block : Block) → IsPrefix n p block → IsPrefix n q block → p ≡ q
  pub one_place : (p : ℕ) → p < length n.prefixes → (k : ℕ) × (seat : Seat) × IsPlace n k p seat
  pub prefix_known : (k p : ℕ) (seat : Seat) → IsPlace n k p seat → p < length n.prefixes
  pub seat_known : (k p l : ℕ) → IsPlace n k p (Link l) → l < length n.links
  pub owner_known : (k p r c : ℕ) → IsOwnAt n k p r c → r < length n.routers
  pub own_cost_least : (k p r c : ℕ) → IsOwnAt n k p r c → 1 ≤ c
  pub own_cost_most : (k p r c : ℕ) → IsOwnAt n k p r c → c ≤ MOST_COST
  pub attached_there : (r p l : ℕ) → IsAttached n r p l → IsOn n r l
  pub gateway_known : (r p a : ℕ) → IsGateway n r p a → a < 2 ^ 32
  pub gateway_no_neighbour : (k : ℕ) → IsGatewayOfNeighbour n k → ⊥
  pub carried_once : (k j p l : ℕ) → IsPlace n k p (Link l) → IsPlace n j p (Link l) → k ≡ j
  pub touched_once : (k j p r c d : ℕ) → Touches n k p r c → Touches n j p r d → k ≡ j
