-- The tables of a plan's document: which keys each may have, and the kinds of their values.
use Rattle.std.specs.Prelude.{◌≡◌, ◌≢◌, ℕ, ℤ, List, [], Bool, codes, Some, slice_get}
use Rattle.toml.specs.Data.{Data, Items, Members, array, boolean, get, integer, string, table}
use Rattle.rip_plan.specs.Fields.{list_of}
use Rattle.rip_plan.specs.Keys.{keys_of, the_root, a_link, a_router, an_interface, an_own}

-- the table has no key but these
abbrev pub HasOnly : List (List ℕ) → Data → Type 0
HasOnly keys d =
    (key : List ℕ) (value : Data) → get key d ≡ Some value
    → (k : ℕ) × (slice_get keys k ≡ Some key)

-- the table has a value of this kind at the key
abbrev pub Has : List ℕ → Data → (Data → Type 0) → Type 0
Has key d Kind = (value : Data) × (get key d ≡ Some value) × Kind value

-- the value at the key is of this kind, where there is one
abbrev pub MayHave : List ℕ → Data → (Data → Type 0) → Type 0
MayHave key d Kind = (value : Data) → get key d ≡ Some value → Kind value

-- ---- kinds

abbrev pub IsString : Data → Type 0
IsString d = (text : List ℕ) × (d ≡ string text)

abbrev pub IsInteger : Data → Type 0
IsInteger d = (z : ℤ) × (d ≡ integer z)

abbrev pub IsFlag : Data → Type 0
IsFlag d = (b : Bool) × (d ≡ boolean b)

abbrev pub IsList : Data → Type 0
IsList d = (items : Items) × (d ≡ array items)

-- a list that is not empty
abbrev pub IsSomeList : Data → Type 0
IsSomeList d = (items : Items) × (d ≡ array items) × (list_of items ≢ [])

-- a list of texts
abbrev pub IsTextList : Data → Type 0
IsTextList d =
    (items : Items) × (d ≡ array items)
    × ((k : ℕ) (x : Data) → slice_get (list_of items) k ≡ Some x → IsString x)

-- ---- tables

-- the document itself; its version is judged apart
pub record IsRoot (document : Members) : Type 0 where
  pub keys : HasOnly (keys_of the_root) (table document)
  pub link : Has (codes "link") (table document) IsSomeList
  pub router : Has (codes "router") (table document) IsSomeList
  pub poison : MayHave (codes "poison") (table document) IsFlag

pub record IsLinkTable (d : Data) : Type 0 where
  pub members : Members
  pub is_table : d ≡ table members
  pub keys : HasOnly (keys_of a_link) d
  pub name : Has (codes "name") d IsString
  pub prefixes : Has (codes "prefixes") d IsList
  pub only : MayHave (codes "only") d IsList

pub record IsRouterTable (d : Data) : Type 0 where
  pub members : Members
  pub is_table : d ≡ table members
  pub keys : HasOnly (keys_of a_router) d
  pub name : Has (codes "name") d IsString
  pub interface : Has (codes "interface") d IsList
  pub own : MayHave (codes "own") d IsList

pub record IsInterfaceTable (d : Data) : Type 0 where
  pub members : Members
  pub is_table : d ≡ table members
  pub keys : HasOnly (keys_of an_interface) d
  pub link : Has (codes "link") d IsString
  pub address : Has (codes "address") d IsString
  pub cost : MayHave (codes "cost") d IsInteger
  pub direct : MayHave (codes "direct") d IsInteger
  pub also : MayHave (codes "also") d IsTextList
  pub poison : MayHave (codes "poison") d IsFlag

pub record IsOwnTable (d : Data) : Type 0 where
  pub members : Members
  pub is_table : d ≡ table members
  pub keys : HasOnly (keys_of an_own) d
  pub prefix : Has (codes "prefix") d IsString
  pub cost : MayHave (codes "cost") d IsInteger
  pub kept : MayHave (codes "kept") d IsFlag
  pub link : MayHave (codes "link") d IsString
  pub via : MayHave (codes "via") d IsString
