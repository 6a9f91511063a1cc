-- What it is for a network to be the plan of a document: each list is matched item by item with the
-- document's tables.
use Rattle.std.specs.Prelude.{◌≡◌, ◌⊎◌, ℕ, ◌+◌, ◌≤◌, pos, List, [], ◌∷◌, ◌++◌, map, filter, Bool, true, false, not, codes, Option, None, Some, slice_get}
use Rattle.toml.specs.Data.{Data, Items, Members, string, boolean, integer, array, table, get}
use Rattle.rip_wire.specs.Prefix.{Block}
use Rattle.rip_plan.specs.declared.limits.TheConstants.{DEFAULT_COST, DEFAULT_KEPT, DEFAULT_POISON}
use Rattle.rip_plan.specs.declared.parts.Interface.{Interface}
use Rattle.rip_plan.specs.declared.parts.Listed.{Listed}
use Rattle.rip_plan.specs.declared.parts.OwnPrefix.{OwnPrefix}
use Rattle.rip_plan.specs.declared.parts.Place.{Place}
use Rattle.rip_plan.specs.declared.parts.Seat.{Seat}
use Rattle.rip_plan.specs.declared.parts.Seat.TheVariants as seats
use Rattle.rip_plan.specs.Fields.{list_of}
use Rattle.rip_plan.specs.Passes.{same_prefix}
use Rattle.rip_plan.specs.PlanText.{document_of}
use Rattle.rip_plan.specs.Network.{Network}
use Rattle.rip_plan.specs.Relations.{IsPrefix}
use Rattle.rip_plan.specs.Texts.{IsAddressText, IsPrefixText}

-- each item of the one list with the item of the other that has the same number
abbrev pub Matched : {A B : Type 0} → (A → B → Type 0) → List A → List B → Type 0
Matched R [] [] = Unit {0}
Matched R [] (y ∷ ys) = ⊥
Matched R (x ∷ xs) [] = ⊥
Matched R (x ∷ xs) (y ∷ ys) = R x y × Matched R xs ys

-- ---- tables

-- the table has this text at the key
abbrev pub HasText : List ℕ → Data → List ℕ → Type 0
HasText key d text = get key d ≡ Some (string text)

-- the table has a list of these items at the key
abbrev pub HasItems : List ℕ → Data → List Data → Type 0
HasItems key d ds = (items : Items) × (get key d ≡ Some (array items)) × (list_of items ≡ ds)

-- the table's cost: what it gives, or the default where it gives none
abbrev pub IsCostOf : Data → ℕ → Type 0
IsCostOf d c =
    (get (codes "cost") d ≡ Some (integer (pos c)))
    ⊎ ((get (codes "cost") d ≡ None) × (c ≡ DEFAULT_COST))

-- the metric at which the router of this interface's table has the prefixes of the link: what it
-- gives, or the cost where it gives none
abbrev pub IsDirectOf : Data → ℕ → ℕ → Type 0
IsDirectOf d cost direct =
    (get (codes "direct") d ≡ Some (integer (pos direct)))
    ⊎ ((get (codes "direct") d ≡ None) × (direct ≡ cost))

-- the table's flag at the key: what it gives, or the other one where it gives none
abbrev pub IsFlagOf : List ℕ → Bool → Data → Bool → Type 0
IsFlagOf key other d flag =
    (get key d ≡ Some (boolean flag)) ⊎ ((get key d ≡ None) × (flag ≡ other))

-- whether the prefix of this table is kept: what the table says, or the default where it says
-- nothing
abbrev pub IsKeptOf : Data → Bool → Type 0
IsKeptOf = IsFlagOf (codes "kept") DEFAULT_KEPT

-- whether the interfaces of this table poison: what it says, or what is said for all where it says
-- nothing
abbrev pub IsPoisonOf : Bool → Data → Bool → Type 0
IsPoisonOf for_all = IsFlagOf (codes "poison") for_all

-- name l is the first that is this one
abbrev pub IsFirstNamed : List (List ℕ) → List ℕ → ℕ → Type 0
IsFirstNamed names name l =
    (slice_get names l ≡ Some name) × ((k : ℕ) → slice_get names k ≡ Some name → l ≤ k)

-- the link that the table gives by its name, or nothing where it gives none
abbrev pub IsLinkOf : List (List ℕ) → Data → Option ℕ → Type 0
IsLinkOf links d None = get (codes "link") d ≡ None
IsLinkOf links d (Some l) =
    (name : List ℕ) × HasText (codes "link") d name × IsFirstNamed links name l

-- the gateway that the table gives, or nothing where it gives none
abbrev pub IsGatewayOf : Data → Option ℕ → Type 0
IsGatewayOf d None = get (codes "via") d ≡ None
IsGatewayOf d (Some a) =
    (text : List ℕ) × HasText (codes "via") d text × IsAddressText text a

-- the item is the text of this address
abbrev pub IsAddressOf : ℕ → Data → Type 0
IsAddressOf a d = (text : List ℕ) × (d ≡ string text) × IsAddressText text a

abbrev pub IsNameOf : List ℕ → Data → Type 0
IsNameOf name d = HasText (codes "name") d name

abbrev pub items_in : Option Data → List Data
items_in (Some (array items)) = list_of items
items_in _ = []

-- the items of the lists at the key, each with the number of its table, counted from n
abbrev pub items_under : List ℕ → ℕ → List Data → List (ℕ × Data)
items_under key n [] = []
items_under key n (d ∷ ds) =
    map (λ item. (n, item)) (items_in (get key d)) ++ items_under key (n + 1) ds

-- ---- parts of the plan

-- the interface of this table, which stands in the table of the router of this number; whether it
-- poisons is said at the root, where its table does not say it
pub record IsInterfaceOf
    (links : List (List ℕ)) (poison : Bool) (i : Interface) (at : ℕ × Data)
    : Type 0 where
  pub router : i.router ≡ at.0
  pub link_name : List ℕ
  pub has_link : HasText (codes "link") at.1 link_name
  pub link : IsFirstNamed links link_name i.link
  pub text : List ℕ
  pub has_address : HasText (codes "address") at.1 text
  pub address : IsAddressText text i.address
  pub cost : IsCostOf at.1 i.cost
  pub direct : IsDirectOf at.1 i.cost i.direct
  pub poisons : IsPoisonOf poison at.1 i.poison

-- the further addresses of the interface of this table
abbrev pub AreAlsoOf : List ℕ → ℕ × Data → Type 0
AreAlsoOf also at = Matched IsAddressOf also (items_in (get (codes "also") at.1))

-- a prefix at a seat
pub record Placement : Type 0 where
  pub prefix : Block
  pub seat : Seat

-- the prefix of this text, on the link of this number
pub record IsOnLink (p : Placement) (at : ℕ × Data) : Type 0 where
  pub text : List ℕ
  pub is_text : at.1 ≡ string text
  pub prefix : IsPrefixText text p.prefix
  pub seat : p.seat ≡ seats.Link at.0

-- a list is given here, or nothing is
abbrev pub IsListGiven : Option Data → Bool → Type 0
IsListGiven value true = (items : Items) × (value ≡ Some (array items))
IsListGiven value false = value ≡ None

-- whether the table has a list of what its link exchanges
abbrev pub IsListOf : Bool → Data → Type 0
IsListOf has_list d = IsListGiven (get (codes "only") d) has_list

-- the prefix of this text, in the list of the link of this number
pub record IsListedOf (x : Listed) (at : ℕ × Data) : Type 0 where
  pub text : List ℕ
  pub is_text : at.1 ≡ string text
  pub prefix : IsPrefixText text x.prefix
  pub link : x.link ≡ at.0

-- the own prefix of this table, with the router of this number
pub record IsOwned (links : List (List ℕ)) (p : Placement) (at : ℕ × Data) : Type 0 where
  pub text : List ℕ
  pub has_prefix : HasText (codes "prefix") at.1 text
  pub prefix : IsPrefixText text p.prefix
  pub own : OwnPrefix
  pub seat : p.seat ≡ seats.Own own
  pub router : own.router ≡ at.0
  pub cost : IsCostOf at.1 own.cost
  pub kept : IsKeptOf at.1 own.kept
  pub link : IsLinkOf links at.1 own.link
  pub via : IsGatewayOf at.1 own.via

-- the prefixes, each once, in the order in which they first stand
abbrev pub each_once : List Block → List Block
each_once [] = []
each_once (p ∷ ps) = p ∷ filter (λ q. not (same_prefix p q)) (each_once ps)

-- the place with the number of its prefix
pub record IsPlaceOf (n : Network) (q : Place) (p : Placement) : Type 0 where
  pub prefix : IsPrefix n q.prefix p.prefix
  pub seat : q.seat ≡ p.seat

-- ---- the plan

pub record PlanOf (document : Members) (n : Network) : Type 0 where
  pub links : List Data
  pub has_links : HasItems (codes "link") (table document) links
  pub link_names : Matched IsNameOf n.links links
  pub lists : Matched IsListOf n.lists links
  pub listed : Matched IsListedOf n.listed (items_under (codes "only") 0 links)
  pub routers : List Data
  pub has_routers : HasItems (codes "router") (table document) routers
  pub router_names : Matched IsNameOf n.routers routers
  pub poison : Bool
  pub has_poison : IsPoisonOf DEFAULT_POISON (table document) poison
  pub interfaces : Matched (IsInterfaceOf n.links poison) n.interfaces
      (items_under (codes "interface") 0 routers)
  pub also : Matched AreAlsoOf n.also (items_under (codes "interface") 0 routers)
  pub on_links : List Placement
  pub link_prefixes : Matched IsOnLink on_links (items_under (codes "prefixes") 0 links)
  pub owned : List Placement
  pub own_prefixes : Matched (IsOwned n.links) owned (items_under (codes "own") 0 routers)
  pub places : Matched (IsPlaceOf n) n.places (on_links ++ owned)
  pub prefixes : n.prefixes ≡ each_once (map (λ p. p.prefix) (on_links ++ owned))

-- the bytes are a document, and the network is its plan
pub record IsPlanOfText (bytes : List ℕ) (n : Network) : Type 0 where
  pub document : Members
  pub reads : document_of bytes ≡ Some document
  pub plan : PlanOf document n
