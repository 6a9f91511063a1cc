-- The table of what routers tell, by their own tables: a cell for each prefix and interface.
use Rattle.std.specs.declared.vec.Vec.{Vec}
use Rattle.std.specs.declared.alloc.Global.{Global}
use Rattle.std.specs.Prelude.{◌≡◌, ◌≢◌, ℕ, zero, suc, ◌<◌, ◌⊎◌, Bool, true, false, Decides, Option, None, Some, List, option_and_then, length, map, slice_get, slice_index, slice_index_or}
use Rattle.rip_wire.specs.Prefix.{Block}
use Rattle.rip_plan.specs.Network.{Network, number_of_prefix}
use Rattle.rip_plan.specs.Relations.{Exchanges, HasAddress, IsAttached, IsGatewayAt, IsInterface}
use Rattle.rip_table.specs.State.{State}
use Rattle.rip_routes.specs.OwnTables.{OwnTables, route_at}
use Rattle.rip_check.specs.Networks.{block_at, network_at}
use Rattle.rip_check.specs.OwnTells.{HasHopAt, IsHolder, IsMute}

-- what a cell shows: nothing for 0, else its metric
abbrev pub shown_by : ℕ → Option ℕ
shown_by zero = None
shown_by (suc v) = Some (suc v)

-- what the cell of prefix k and interface i shows
abbrev pub cell_at : List (List ℕ) → ℕ → ℕ → Option ℕ
cell_at rows k i =
    option_and_then (λ row. option_and_then shown_by (slice_get row i)) (slice_get rows k)

-- the table of so many interfaces and these prefixes with these cells, in which none was heard
abbrev pub told_state : ℕ → List Block → List (List ℕ) → State
told_state count prefixes rows = record {
  interfaces = count;
  prefixes = prefixes;
  shows = λ i p. option_and_then (λ k. cell_at rows k i) (number_of_prefix p prefixes);
  heard = λ i. false;
}

-- the cell of router s on link l and prefix p: 0 where it is mute, else its metric
abbrev pub IsCell : Network → OwnTables → ℕ → ℕ → ℕ → ℕ → Type 0
IsCell n t s l p v =
    ((v ≡ 0) × IsMute n t s l p)
    ⊎ ((v ≡ (route_at t s p).metric) × (IsMute n t s l p → ⊥))

-- the row of prefix p has the cells of the interfaces of the routers below a bound, and 0 where
-- they do not exchange the prefix
pub record IsRowBelow (n : Network) (t : OwnTables) (p bound : ℕ) (row : List ℕ) : Type 0 where
  pub size : length row ≡ length n.interfaces
  pub cells : (i s l c : ℕ) → s < bound → IsInterface (network_at n t.prefixes p) i s l c
      → IsCell (network_at n t.prefixes p) t s l p (slice_index row i)
  pub closed : (i s l c : ℕ) → s < bound → IsInterface n i s l c
      → (Exchanges n l (block_at t.prefixes p) → ⊥) → slice_index row i ≡ 0

-- the row of prefix p
abbrev pub IsToldRow : Network → OwnTables → ℕ → List ℕ → Type 0
IsToldRow n t p row = IsRowBelow n t p (length n.routers) row

-- these are the rows of the first prefixes
abbrev pub AreToldRows : Network → OwnTables → List (List ℕ) → Type 0
AreToldRows n t rows = (p : ℕ) (row : List ℕ) → slice_get rows p ≡ Some row → IsToldRow n t p row

-- exactly those links are marked that are of this kind
abbrev pub AreMarks : (ℕ → Type 0) → List Bool → Type 0
AreMarks Is marks = (l : ℕ) → l < length marks → Decides (slice_index_or marks l false) (Is l)

-- router r has prefix p attached to link l, and is its own way
abbrev pub IsHereOn : Network → OwnTables → ℕ → ℕ → ℕ → Type 0
IsHereOn n t r p l = IsAttached n r p l × ((route_at t r p).here ≡ true)

-- interface j is on link l and is not router r's, and has address a for prefix p
abbrev pub HasHopAcross : Network → ℕ → ℕ → ℕ → ℕ → ℕ → Type 0
HasHopAcross n r l p a j = (s : ℕ) × (s ≢ r) × HasHopAt n j s l p a

-- interface j is on link l and is not router r's, and has address a itself
pub record HasAddressAcross (n : Network) (r l a j : ℕ) : Type 0 where
  pub router : ℕ
  pub cost : ℕ
  pub other : router ≢ r
  pub its : IsInterface n j router l cost
  pub has : HasAddress n j l a

-- address a is neighbour s's own, of router r on link l, and no other neighbour's there
abbrev pub IsOneHolder : Network → ℕ → ℕ → ℕ → ℕ → Type 0
IsOneHolder n r l a s = IsHolder n r l s a × ((u : ℕ) → IsHolder n r l u a → u ≡ s)

-- interface j is on link l and is not router r's, and its router has gateway a for its own prefix
-- at place k
pub record HasGatewayAcross (n : Network) (r l a k j : ℕ) : Type 0 where
  pub router : ℕ
  pub cost : ℕ
  pub prefix : ℕ
  pub other : router ≢ r
  pub its : IsInterface n j router l cost
  pub has : IsGatewayAt n k prefix router a

-- the rows of cells
abbrev pub rows_of : List (Vec ℕ Global) → List (List ℕ)
rows_of rows = map (λ row. row.items) rows
