-- Rows of cells, one row for each prefix and one cell for each interface, and what a table means
-- whose cells are metrics or nothing.
use Rattle.std.specs.Prelude.{◌≡◌, ℕ, zero, suc, Bool, false, if◌then◌else◌, ◌==◌, ◌&&◌, List, [], ◌∷◌, ◌++◌, length, map, replicate, All, Option, Some, None, Result, Ok, Err, ◌<◌, ◌≤◌, slice_get, slice_set, slice_index_or}
use Rattle.std.specs.declared.vec.Vec.{Vec}
use Rattle.std.specs.declared.alloc.Global.{Global}
use Rattle.rip_wire.specs.Prefix.{Block}
use Rattle.rip_wire.specs.declared.entry.Entry.{Entry}
use Rattle.rip_plan.specs.Network.{Network, number_of_prefix}
use Rattle.rip_plan.specs.Passes.{same_prefix}
use Rattle.rip_wire.specs.declared.limits.TheConstants.{MOST_ENTRIES}
use Rattle.rip_table.specs.State.{IsState, State, is_among}
use Rattle.rip_table.specs.Numbers.{AreNumbers}
use Rattle.rip_table.specs.Joined.{joined_entries}

-- for each prefix a cell of each interface
abbrev pub Rows : Type 0 → Type 0
Rows Cell = List (Block × List Cell)

-- the rows of a map's entries, without where they lie in memory
abbrev pub rows_of : {Cell : Type 0} → List (Block × Vec Cell Global) → Rows Cell
rows_of entries = map (λ e. (e.0, e.1.items)) entries

-- the prefixes, in order
abbrev pub heads : {Cell : Type 0} → Rows Cell → List Block
heads rows = map (λ row. row.0) rows

-- no prefix stands twice
abbrev pub AreDifferent : List Block → Type 0
AreDifferent prefixes =
    (j k : ℕ) (p : Block) → slice_get prefixes j ≡ Some p → slice_get prefixes k ≡ Some p → j ≡ k

-- each row has so many cells
abbrev pub IsGrid : {Cell : Type 0} → ℕ → Rows Cell → Type 0
IsGrid width rows = All (λ row. length row.1 ≡ width) rows

-- what is at the cell of an interface in the row of a prefix, or a blank where there is none
abbrev pub cell : {Cell : Type 0} → Cell → Rows Cell → ℕ → Block → Cell
cell blank [] i p = blank
cell blank (row ∷ rows) i p =
    if same_prefix p row.0 then slice_index_or row.1 i blank else cell blank rows i p

abbrev pub grid_state : List Bool → Rows (Option ℕ) → State
grid_state heard rows = record {
  interfaces = length heard;
  prefixes = heads rows;
  shows = cell None rows;
  heard = λ i. slice_index_or heard i false;
}

-- x at cell i of row k
abbrev pub with_cell : {Cell : Type 0} → Rows Cell → ℕ → ℕ → Cell → Rows Cell
with_cell [] k i x = []
with_cell (row ∷ rows) zero i x = (row.0, slice_set row.1 i x) ∷ rows
with_cell (row ∷ rows) (suc k) i x = row ∷ with_cell rows k i x

-- a new prefix gets a row of blank cells, at the end
abbrev pub with_row : {Cell : Type 0} → Cell → ℕ → Rows Cell → Block → Rows Cell
with_row blank width rows p =
    if is_among p (heads rows) then rows else rows ++ (p, replicate width blank) ∷ []

-- the prefixes of entries, one after the other
abbrev pub with_rows : {Cell : Type 0} → Cell → ℕ → Rows Cell → List Entry → Rows Cell
with_rows blank width rows [] = rows
with_rows blank width rows (e ∷ es) =
    with_rows blank width (with_row blank width rows e.prefix) es

-- what is at the cells once an interface has shown the metrics of entries, each of which makes a
-- cell
abbrev pub shown_after : {Cell : Type 0} → (ℕ → Cell) → (ℕ → Block → Cell) → ℕ → List Entry
    → ℕ → Block → Cell
shown_after made cells i [] = cells
shown_after made cells i (e ∷ es) =
    shown_after made (λ j q.
    if (j == i) && same_prefix q e.prefix then made e.metric else cells j q) i es

-- for each entry the number of its prefix's row
abbrev pub AreRowNumbers : {Cell : Type 0} → Rows Cell → List Entry → List ℕ → Type 0
AreRowNumbers rows entries row_numbers =
    (j : ℕ) (e : Entry) → slice_get entries j ≡ Some e
    → number_of_prefix e.prefix (heads rows) ≡ Some (slice_index_or row_numbers j 0)

-- an entry is of a prefix that has no row
abbrev pub BringsRow : {Cell : Type 0} → Rows Cell → List Entry → Type 0
BringsRow rows entries =
    (k : ℕ) × (e : Entry) × (slice_get entries k ≡ Some e)
    × (is_among e.prefix (heads rows) ≡ false)

-- the entries of interface i made their cells, in the rows of their prefixes
pub record AreMade {Cell : Type 0} (blank : Cell) (made : ℕ → Cell) (width i : ℕ)
    (entries : List Entry) (old new : Rows Cell) : Type 0 where
  pub heads : heads new ≡ heads (with_rows blank width old entries)
  pub cells : cell blank new ≡ shown_after made (cell blank old) i entries

-- making them answers Ok where they were made, and an error where the rows are as before
abbrev pub IsMade : {Cell E : Type 0} → Cell → (ℕ → Cell) → ℕ → ℕ → List Entry → Rows Cell
    → Rows Cell → Result (Unit {0}) E → Type 0
IsMade blank made width i entries old new (Ok u) = AreMade blank made width i entries old new
IsMade blank made width i entries old new (Err refused) = new ≡ old

-- what the entries of interface i show was written, whose join is a table
abbrev pub AreWritten : ℕ → List Entry → Rows (Option ℕ) → Rows (Option ℕ) → Type 0
AreWritten i entries old new =
    (heard : List Bool) (n : Network) (t : State) → i < length heard →
    IsState (grid_state heard old)
    → joined_entries n i (grid_state heard old) entries ≡ Ok t → grid_state heard new ≡ t

-- the entries of a response of interface i can be written to rows of so many cells, by these
-- numbers of their prefixes
pub record CanWrite {Cell : Type 0} (width i : ℕ) (rows : Rows Cell) (numbers : List (Option ℕ))
    (entries : List Entry) : Type 0 where
  pub few : length entries ≤ MOST_ENTRIES
  pub grid : IsGrid width rows
  pub cell : i < width
  pub numbered : AreNumbers (heads rows) entries numbers

-- writing the entries answers Ok where they were written, and an error where the rows are as before
abbrev pub IsWritten : {E : Type 0} → ℕ → List Entry → Rows (Option ℕ) → Rows (Option ℕ)
    → Result (Unit {0}) E → Type 0
IsWritten i entries old new (Ok u) = AreWritten i entries old new
IsWritten i entries old new (Err refused) = new ≡ old

-- a row of blank cells for each prefix
abbrev pub planned_rows : {Cell : Type 0} → Cell → ℕ → List Block → Rows Cell
planned_rows blank width prefixes = map (λ p. (p, replicate width blank)) prefixes
