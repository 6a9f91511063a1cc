-- The keys that each table of a plan's document may have.
use Rattle.std.specs.Prelude.{ℕ, List, [], ◌∷◌, codes}

-- a table of the document: itself, or one of its `link`, `router`, `router.interface`, `router.own`
pub data Table : Type 0 where
  the_root : Table
  a_link : Table
  a_router : Table
  an_interface : Table
  an_own : Table

abbrev pub keys_of : Table → List (List ℕ)
keys_of the_root = codes "version" ∷ codes "link" ∷ codes "router" ∷ codes "poison" ∷ []
keys_of a_link = codes "name" ∷ codes "prefixes" ∷ codes "only" ∷ []
keys_of a_router = codes "name" ∷ codes "interface" ∷ codes "own" ∷ []
keys_of an_interface =
    codes "link" ∷ codes "address" ∷ codes "cost" ∷ codes "direct" ∷ codes "also"
    ∷ codes "poison" ∷ []
keys_of an_own =
    codes "prefix" ∷ codes "cost" ∷ codes "kept" ∷ codes "link" ∷ codes "via" ∷ []
