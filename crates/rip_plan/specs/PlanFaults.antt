-- What is wrong with a plan's text, each fault by itself and in the words of its document, and
-- which of them is told.
use Rattle.std.specs.Prelude.{◌≡◌, ◌≢◌, ◌⊎◌, ℕ, zero, suc, ◌+◌, ◌<◌, ◌≤◌, ℤ, pos, List, [], ◌∷◌, ◌++◌, length, map, codes, Option, Some, None, slice_get}
use Rattle.toml.specs.Data.{Data, Members, get, integer, string, table}
use Rattle.rip_wire.specs.Name.{IsName}
use Rattle.rip_wire.specs.Prefix.{Block, ContainsAddress}
use Rattle.rip_plan.specs.declared.error.PlanCode.{PlanCode}
use Rattle.rip_plan.specs.declared.error.PlanCode.TheVariants as codes
use Rattle.rip_plan.specs.declared.error.PlanError.{PlanError}
use Rattle.rip_plan.specs.declared.error.At.{At}
use Rattle.rip_plan.specs.declared.error.At.TheVariants.{Text, Version, Link, LinkOnly, LinkPrefix, Router, RouterInterface, RouterOwn}
use Rattle.rip_plan.specs.declared.limits.TheConstants.{MOST_ALSO, MOST_COST, MOST_INTERFACES, MOST_LINKS, MOST_LISTED, MOST_PLACES, MOST_PLAN_BYTES, MOST_ROUTERS}
use Rattle.rip_plan.specs.declared.parts.Seat.TheVariants as seats
use Rattle.rip_plan.specs.Codes.{number_of_code}
use Rattle.rip_plan.specs.DocumentTables.{IsInterfaceTable, IsLinkTable, IsOwnTable, IsRoot, IsRouterTable, IsString}
use Rattle.rip_plan.specs.Network.{Network}
use Rattle.rip_plan.specs.PlanOf.{HasItems, HasText, IsCostOf, IsNameOf, PlanOf, items_in, items_under}
use Rattle.rip_plan.specs.PlanText.{document_of}
use Rattle.rip_plan.specs.Relations.{HasAddress, HasAddresses, IsInterface, IsAttachedAt, IsGatewayOfNeighbour, IsOn, IsPlace, Touches}
use Rattle.rip_plan.specs.Texts.{IsAddressText, IsNoAddress, IsNoPrefix, IsPrefixText}

-- ---- the tables of a document and their items, numbered from 1

abbrev pub nth : {A : Type 0} → List A → ℕ → Option A
nth xs zero = None
nth xs (suc n) = slice_get xs n

-- item j of the list at the key of table i
abbrev pub IsItem : List ℕ → List Data → ℕ → ℕ → Data → Type 0
IsItem key ds i j item =
    (d : Data) × (nth ds i ≡ Some d) × (nth (items_in (get key d)) j ≡ Some item)

-- the bytes are a document, and not too many
pub record IsText (bytes : List ℕ) (document : Members) : Type 0 where
  pub short : length bytes ≤ MOST_PLAN_BYTES
  pub reads : document_of bytes ≡ Some document

-- the bytes are a document with these tables of links and of routers
pub record HasTables (bytes : List ℕ) (document : Members) (links routers : List Data)
    : Type 0 where
  pub text : IsText bytes document
  pub has_links : HasItems (codes "link") (table document) links
  pub has_routers : HasItems (codes "router") (table document) routers

-- where each item of a list stands, from item j on
abbrev pub spots_of : (ℕ → At) → ℕ → List Data → List At
spots_of at j [] = []
spots_of at j (d ∷ ds) = at j ∷ spots_of at (j + 1) ds

-- where each item of the lists at the key stands, from table i on
abbrev pub spots_under : List ℕ → (ℕ → ℕ → At) → ℕ → List Data → List At
spots_under key at i [] = []
spots_under key at i (d ∷ ds) =
    spots_of (at i) 1 (items_in (get key d)) ++ spots_under key at (i + 1) ds

-- where the places of prefixes stand: those on links, and then those of routers' own
abbrev pub place_spots : List Data → List Data → List At
place_spots links routers =
    spots_under (codes "prefixes") LinkPrefix 1 links
    ++ spots_under (codes "own") RouterOwn 1 routers

-- where what stands in the lists of links stands
abbrev pub listed_spots : List Data → List At
listed_spots links = spots_under (codes "only") LinkOnly 1 links

abbrev pub interface_spots : List Data → List At
interface_spots routers = spots_under (codes "interface") RouterInterface 1 routers

-- where each further address of an interface stands: at the interface, from item j on
abbrev pub also_spots_of : (ℕ → At) → ℕ → List Data → List At
also_spots_of at j [] = []
also_spots_of at j (d ∷ ds) =
    map (λ _. at j) (items_in (get (codes "also") d)) ++ also_spots_of at (j + 1) ds

-- the same of the interfaces of the routers from router r on
abbrev pub also_spots_from : ℕ → List Data → List At
also_spots_from r [] = []
also_spots_from r (d ∷ ds) =
    also_spots_of (RouterInterface r) 1 (items_in (get (codes "interface") d))
    ++ also_spots_from (r + 1) ds

abbrev pub also_spots : List Data → List At
also_spots routers = also_spots_from 1 routers

-- ---- what is wrong with one table or item

-- the table's name has another form
abbrev pub IsMisnamed : List Data → ℕ → Type 0
IsMisnamed ds i =
    (d : Data) × (name : List ℕ) × (nth ds i ≡ Some d) × IsNameOf name d × (IsName name → ⊥)

-- an earlier table has the name
abbrev pub IsNamedAgain : List Data → ℕ → Type 0
IsNamedAgain ds i =
    (d earlier : Data) × (k : ℕ) × (name : List ℕ)
    × (nth ds i ≡ Some d) × IsNameOf name d × (k < i) × (nth ds k ≡ Some earlier)
    × IsNameOf name earlier

-- so many or more stand before
abbrev pub IsPast : ℕ → List At → At → Type 0
IsPast most spots at = (k : ℕ) × (slice_get spots k ≡ Some at) × (most ≤ k)

-- the integer is none of 1 to the most
abbrev pub IsOutsideOf : ℕ → ℤ → Type 0
IsOutsideOf most z = (c : ℕ) → z ≡ pos c → 1 ≤ c → c ≤ most → ⊥

-- the cost is an integer outside 1 to 15
abbrev pub HasWrongCost : Data → Type 0
HasWrongCost d = (z : ℤ) × (get (codes "cost") d ≡ Some (integer z)) × IsOutsideOf MOST_COST z

-- the direct metric is an integer outside 1 to the cost, which is 1 to 15 itself
abbrev pub HasWrongDirect : Data → Type 0
HasWrongDirect d =
    (c : ℕ) × (z : ℤ) × IsCostOf d c × (1 ≤ c) × (c ≤ MOST_COST)
    × (get (codes "direct") d ≡ Some (integer z)) × IsOutsideOf c z

-- the text at the key is no address
abbrev pub HasNoAddress : List ℕ → Data → Type 0
HasNoAddress key d = (text : List ℕ) × HasText key d text × IsNoAddress text

-- a further address is a text that is no address
abbrev pub HasWrongAlso : Data → Type 0
HasWrongAlso d =
    (k : ℕ) × (text : List ℕ)
    × (slice_get (items_in (get (codes "also") d)) k ≡ Some (string text))
    × IsNoAddress text

-- a text in the list of link l, which is counted from 0, is this prefix
abbrev pub HasPrefix : List Data → ℕ → Block → Type 0
HasPrefix links l p =
    (k : ℕ) × (text : List ℕ)
    × (slice_get (items_under (codes "prefixes") 0 links) k ≡ Some (l, string text))
    × IsPrefixText text p

-- the link that the interface names has prefixes, and none contains the interface's address
pub record IsOutside (links : List Data) (d : Data) : Type 0 where
  pub text : List ℕ
  pub has_address : HasText (codes "address") d text
  pub address : ℕ
  pub spelled : IsAddressText text address
  pub name : List ℕ
  pub has_link : HasText (codes "link") d name
  pub link : ℕ
  pub link_table : Data
  pub listed : slice_get links link ≡ Some link_table
  pub named : IsNameOf name link_table
  pub some : (p : Block) × HasPrefix links link p
  pub none : (p : Block) → HasPrefix links link p → ContainsAddress p address → ⊥

-- no link has the name that the interface gives
abbrev pub NamesNoLink : List Data → Data → Type 0
NamesNoLink links d =
    (name : List ℕ) × HasText (codes "link") d name
    × ((l : ℕ) (link : Data) → slice_get links l ≡ Some link → IsNameOf name link → ⊥)

-- ---- what is wrong with two items of the plan

-- places j and k of one prefix are on one link, or touch one router
abbrev pub DoMeet : Network → ℕ → ℕ → Type 0
DoMeet n j k =
    (p : ℕ) × (((l : ℕ) × IsPlace n j p (seats.Link l) × IsPlace n k p (seats.Link l))
    ⊎ ((r c d : ℕ) × Touches n j p r c × Touches n k p r d))

-- interfaces i and j are one router's on one link
abbrev pub AreTwice : Network → ℕ → ℕ → Type 0
AreTwice n i j = (r l c d : ℕ) × IsInterface n i r l c × IsInterface n j r l d

-- interfaces i and j are on one link with one address
abbrev pub HaveOneAddress : Network → ℕ → ℕ → Type 0
HaveOneAddress n i j = (l a : ℕ) × HasAddress n i l a × HasAddress n j l a

-- interface i has an address twice
abbrev pub HasOneTwice : Network → ℕ → Type 0
HasOneTwice n i =
    (l : ℕ) × (addresses : List ℕ) × HasAddresses n i l addresses
    × ((j k a : ℕ) × (j < k) × (slice_get addresses j ≡ Some a) × (slice_get addresses k ≡ Some a))

-- what stands here is so
abbrev pub IsSo : (ℕ → Type 0) → List At → At → Type 0
IsSo Is spots at = (k : ℕ) × (slice_get spots k ≡ Some at) × Is k

-- place k is a router's own prefix that is attached to a link on which the router is not
abbrev pub IsAstray : Network → ℕ → Type 0
IsAstray n k =
    (p r l : ℕ) × IsAttachedAt n k p r l × (IsOn n r l → ⊥)

-- an earlier item clashes with what stands here
abbrev pub IsClash : (ℕ → ℕ → Type 0) → List At → At → Type 0
IsClash Clash spots at =
    (j k : ℕ) × (slice_get spots k ≡ Some at) × (j < k) × Clash j k

-- the document's plan has no interface of router r, which is counted from 1
abbrev pub IsBare : Network → ℕ → Type 0
IsBare n r =
    (k : ℕ) × (r ≡ k + 1) × (k < length n.routers)
    × ((i l c : ℕ) → IsInterface n i k l c → ⊥)

-- ---- the rows of the table of codes

-- what each code says of the tables of a document, and of what stands at this place
abbrev pub TableFault : Members → List Data → List Data → PlanCode → At → Type 0
TableFault document links routers codes.Key (Link i) =
    (d : Data) × (nth links i ≡ Some d) × (IsLinkTable d → ⊥)
TableFault document links routers codes.Name (Link i) = IsMisnamed links i
TableFault document links routers codes.DuplicateName (Link i) = IsNamedAgain links i
TableFault document links routers codes.Key (LinkPrefix i j) =
    (d : Data) × IsItem (codes "prefixes") links i j d × (IsString d → ⊥)
TableFault document links routers codes.Prefix (LinkPrefix i j) =
    (text : List ℕ) × IsItem (codes "prefixes") links i j (string text) × IsNoPrefix text
TableFault document links routers codes.Limit (LinkPrefix i j) =
    IsPast MOST_PLACES (place_spots links routers) (LinkPrefix i j)
TableFault document links routers codes.Key (LinkOnly i j) =
    (d : Data) × IsItem (codes "only") links i j d × (IsString d → ⊥)
TableFault document links routers codes.Prefix (LinkOnly i j) =
    (text : List ℕ) × IsItem (codes "only") links i j (string text) × IsNoPrefix text
TableFault document links routers codes.Limit (LinkOnly i j) =
    IsPast MOST_LISTED (listed_spots links) (LinkOnly i j)
TableFault document links routers codes.Key (Router r) =
    (d : Data) × (nth routers r ≡ Some d) × (IsRouterTable d → ⊥)
TableFault document links routers codes.Name (Router r) = IsMisnamed routers r
TableFault document links routers codes.DuplicateName (Router r) = IsNamedAgain routers r
TableFault document links routers codes.Key (RouterInterface r j) =
    (d : Data) × IsItem (codes "interface") routers r j d × (IsInterfaceTable d → ⊥)
TableFault document links routers codes.Address (RouterInterface r j) =
    (d : Data) × IsItem (codes "interface") routers r j d
    × (HasNoAddress (codes "address") d ⊎ HasWrongAlso d)
TableFault document links routers codes.Cost (RouterInterface r j) =
    (d : Data) × IsItem (codes "interface") routers r j d × (HasWrongCost d ⊎ HasWrongDirect d)
TableFault document links routers codes.UnknownLink (RouterInterface r j) =
    (d : Data) × IsItem (codes "interface") routers r j d × NamesNoLink links d
TableFault document links routers codes.OutsidePrefix (RouterInterface r j) =
    (d : Data) × IsItem (codes "interface") routers r j d × IsOutside links d
TableFault document links routers codes.Limit (RouterInterface r j) =
    IsPast MOST_INTERFACES (interface_spots routers) (RouterInterface r j)
    ⊎ IsPast MOST_ALSO (also_spots routers) (RouterInterface r j)
TableFault document links routers codes.Key (RouterOwn r j) =
    (d : Data) × IsItem (codes "own") routers r j d × (IsOwnTable d → ⊥)
TableFault document links routers codes.Address (RouterOwn r j) =
    (d : Data) × IsItem (codes "own") routers r j d × HasNoAddress (codes "via") d
TableFault document links routers codes.Prefix (RouterOwn r j) =
    (d : Data) × (text : List ℕ) × IsItem (codes "own") routers r j d
    × HasText (codes "prefix") d text × IsNoPrefix text
TableFault document links routers codes.Cost (RouterOwn r j) =
    (d : Data) × IsItem (codes "own") routers r j d × HasWrongCost d
TableFault document links routers codes.UnknownLink (RouterOwn r j) =
    (d : Data) × IsItem (codes "own") routers r j d × NamesNoLink links d
TableFault document links routers codes.Limit (RouterOwn r j) =
    IsPast MOST_PLACES (place_spots links routers) (RouterOwn r j)
TableFault document links routers codes.DuplicatePrefix (LinkPrefix i j) =
    (n : Network) × PlanOf document n
    × IsClash (DoMeet n) (place_spots links routers) (LinkPrefix i j)
TableFault document links routers codes.DuplicatePrefix (RouterOwn r j) =
    (n : Network) × PlanOf document n
    × IsClash (DoMeet n) (place_spots links routers) (RouterOwn r j)
TableFault document links routers codes.TwiceOnLink (RouterInterface r j) =
    (n : Network) × PlanOf document n
    × IsClash (AreTwice n) (interface_spots routers) (RouterInterface r j)
TableFault document links routers codes.DuplicateAddress (RouterInterface r j) =
    (n : Network) × PlanOf document n
    × (IsClash (HaveOneAddress n) (interface_spots routers) (RouterInterface r j)
    ⊎ IsSo (HasOneTwice n) (interface_spots routers) (RouterInterface r j))
TableFault document links routers codes.NoInterface (Router r) =
    (n : Network) × PlanOf document n × IsBare n r
TableFault document links routers code at = ⊥

-- what each code says of the bytes, and of what stands at this place
abbrev pub FaultAt : List ℕ → PlanCode → At → Type 0
FaultAt bytes codes.Syntax Text = (length bytes ≤ MOST_PLAN_BYTES) × (document_of bytes ≡ None)
FaultAt bytes codes.Version Version =
    (document : Members) × IsText bytes document
    × (get (codes "version") (table document) ≢ Some (integer (pos 1)))
FaultAt bytes codes.Key Text =
    (document : Members) × IsText bytes document × (IsRoot document → ⊥)
FaultAt bytes codes.Limit Text =
    (MOST_PLAN_BYTES < length bytes)
    ⊎ ((document : Members) × (links routers : List Data) × HasTables bytes document links routers
    × ((MOST_LINKS < length links) ⊎ (MOST_ROUTERS < length routers)))
FaultAt bytes code at =
    (document : Members) × (links routers : List Data) × HasTables bytes document links routers
    × TableFault document links routers code at

-- an own prefix at this place is attached to a link of the plan on which its router is not
abbrev pub AstrayAt : List ℕ → At → Type 0
AstrayAt bytes (RouterOwn r j) =
    (document : Members) × (links routers : List Data) × HasTables bytes document links routers
    × ((n : Network) × PlanOf document n
    × IsSo (IsAstray n) (place_spots links routers) (RouterOwn r j))
AstrayAt bytes at = ⊥

-- an own prefix at this place has a neighbour's address as its gateway
abbrev pub GatewayTakenAt : List ℕ → At → Type 0
GatewayTakenAt bytes (RouterOwn r j) =
    (document : Members) × (links routers : List Data) × HasTables bytes document links routers
    × ((n : Network) × PlanOf document n
    × IsSo (IsGatewayOfNeighbour n) (place_spots links routers) (RouterOwn r j))
GatewayTakenAt bytes at = ⊥

-- ---- the order

-- the pass over the text that finds what stands in the table of codes
abbrev pub pass_of : PlanCode → ℕ
pass_of codes.DuplicatePrefix = 1
pass_of codes.TwiceOnLink = 2
pass_of codes.DuplicateAddress = 3
pass_of codes.NoInterface = 5
pass_of code = 0

-- the order of the text: the text as a whole, links, routers; of each its number, the table before
-- its lists, and in a list the number of the item
abbrev pub position : At → List ℕ
position Text = 0 ∷ 0 ∷ 0 ∷ 0 ∷ []
position Version = 0 ∷ 0 ∷ 0 ∷ 0 ∷ []
position (Link i) = 1 ∷ i ∷ 0 ∷ 0 ∷ []
position (LinkPrefix i j) = 1 ∷ i ∷ 1 ∷ j ∷ []
position (LinkOnly i j) = 1 ∷ i ∷ 2 ∷ j ∷ []
position (Router r) = 2 ∷ r ∷ 0 ∷ 0 ∷ []
position (RouterInterface r j) = 2 ∷ r ∷ 1 ∷ j ∷ []
position (RouterOwn r j) = 2 ∷ r ∷ 2 ∷ j ∷ []

-- the pass that finds a fault, the first one being 0: an own prefix whose link is not one of its
-- router's is found in the last pass, one whose link is not there at all in the first; one whose
-- gateway is a neighbour's address is found after the interfaces that share an address
abbrev pub IsFound : List ℕ → ℕ → PlanError → Type 0
IsFound bytes pass e =
    (FaultAt bytes e.code e.place × (pass ≡ pass_of e.code))
    ⊎ ((GatewayTakenAt bytes e.place × (e.code ≡ codes.DuplicateAddress) × (pass ≡ 4))
    ⊎ (AstrayAt bytes e.place × (e.code ≡ codes.UnknownLink) × (pass ≡ 6)))

abbrev pub IsFault : List ℕ → PlanError → Type 0
IsFault bytes e = (pass : ℕ) × IsFound bytes pass e

-- the pass, the place, and at one place the code
abbrev pub rank : ℕ → PlanError → List ℕ
rank pass e = pass ∷ position e.place ++ number_of_code e.code ∷ []

-- the first numbers that differ are in this order
abbrev pub Before : List ℕ → List ℕ → Type 0
Before (x ∷ xs) (y ∷ ys) = (x < y) ⊎ ((x ≡ y) × Before xs ys)
Before xs ys = ⊥

-- a fault of the bytes, such that any other comes after it
pub record PlanFault (bytes : List ℕ) (e : PlanError) : Type 0 where
  pub pass : ℕ
  pub found : IsFound bytes pass e
  pub first : (other : ℕ) (o : PlanError) → IsFound bytes other o
      → (o ≡ e) ⊎ Before (rank pass e) (rank other o)
