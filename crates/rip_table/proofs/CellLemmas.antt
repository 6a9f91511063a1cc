-- What is at the cells of rows.
use Rattle.std.proofs.Common.{◌≡◌, ◌≢◌, ℕ, zero, suc, ◌+◌, ◌<◌, ◌==◌, Bool, true, false, cond, ◌&&◌, List, [], ◌∷◌, ◌++◌, length, set, get_or, replicate, Some, refl, sym, ap, ◌∙◌, arith, get_or-set_same, get_or-set_other}
use Rattle.std.proofs.lemmas.Bool.Decides.{nat_tests}
use Rattle.std.specs.List.{slice_get, position_from}
use mathlib.Core.Path.{fun_ext}
use Rattle.rip_plan.proofs.NumberingLemmas.{same_is}
use Rattle.rip_wire.specs.Prefix.{Block}
use Rattle.rip_wire.specs.declared.entry.Entry.{Entry}
use Rattle.rip_plan.specs.Network.{number_of_prefix}
use Rattle.rip_plan.specs.Passes.{same_prefix}
use Rattle.rip_table.specs.State.{is_among}
use Rattle.rip_table.specs.Rows.{IsGrid, Rows, cell, heads, planned_rows, shown_after, with_cell, with_row, with_rows}
use Rattle.rip_table.proofs.TruthLemmas.{and-false, and-true}
use Rattle.rip_table.proofs.RowLemmas.{grid-tail}
use Rattle.rip_table.proofs.NumberLemmas.{true-false}

-- row k is the first of the prefix
abbrev IsRow : {Cell : Type 0} → Block → Rows Cell → ℕ → Type 0
IsRow p [] k = ⊥
IsRow p (row ∷ rows) zero = same_prefix p row.0 ≡ true
IsRow p (row ∷ rows) (suc k) = (same_prefix p row.0 ≡ false) × IsRow p rows k

row_from : {Cell : Type 0} (p : Block) (rows : Rows Cell) (n k : ℕ) → position_from (same_prefix p) n (heads rows) ≡ Some (n + k) → IsRow p rows k
row_from p [] n k h = absurd (cc h)
row_from p (row ∷ rows) n zero h = by (same_prefix p row.0) refl h
  where
    least : (m : ℕ) (ps : List Block) (v : ℕ) → position_from (same_prefix p) m ps ≡ Some v → m < v + 1
    least m [] v h = absurd (cc h)
    least m (q ∷ ps) v h = step (same_prefix p q) h (λ e. least (m + 1) ps v e)
      where
        step : (b : Bool) → cond b (Some m) (position_from (same_prefix p) (m + 1) ps) ≡ Some v → (position_from (same_prefix p) (m + 1) ps ≡ Some v → m + 1 < v + 1) → m < v + 1
        step true e later = let same : m ≡ v = cc e in omega (arith, same)
        step false e later = omega (arith, later e)

    by : (b : Bool) → same_prefix p row.0 ≡ b → cond b (Some n) (position_from (same_prefix p) (n + 1) (heads rows)) ≡ Some (n + 0) → same_prefix p row.0 ≡ true
    by true t e = t
    by false t e = absurd (omega (arith, least (n + 1) (heads rows) (n + 0) e))
row_from p (row ∷ rows) n (suc k) h = by (same_prefix p row.0) refl h (λ e. row_from p rows (n + 1) k e)
  where
    by : (b : Bool) → same_prefix p row.0 ≡ b → cond b (Some n) (position_from (same_prefix p) (n + 1) (heads rows)) ≡ Some (n + suc k)
        → (position_from (same_prefix p) (n + 1) (heads rows) ≡ Some (n + 1 + k) → IsRow p rows k) → (same_prefix p row.0 ≡ false) × IsRow p rows k
    by true t e later = let same : n ≡ n + suc k = cc e in absurd (omega (arith, same))
    by false t e later = let more : n + suc k ≡ n + 1 + k = omega arith in (t, later (e ∙ ap (λ (m : ℕ). Some m) more))

row_is : {Cell : Type 0} (p : Block) (rows : Rows Cell) (k : ℕ) → number_of_prefix p (heads rows) ≡ Some k → IsRow p rows k
row_is p rows k h = let same : k ≡ 0 + k = omega arith in row_from p rows 0 k (h ∙ ap (λ (m : ℕ). Some m) same)

-- an item once another was written
pub set_at : {Cell : Type 0} (blank : Cell) (xs : List Cell) (i j : ℕ) (x : Cell) → i < length xs → get_or (set xs i x) j blank ≡ cond (j == i) x (get_or xs j blank)
set_at blank xs i j x lt = by (j == i) refl
  where
    by : (b : Bool) → (j == i) ≡ b → get_or (set xs i x) j blank ≡ cond b x (get_or xs j blank)
    by true e = let same : j ≡ i = grind (arith, nat_tests) in ap (λ (k : ℕ). get_or (set xs i x) k blank) same ∙ get_or-set_same xs i x blank lt
    by false e = let apart : j ≢ i = grind (arith, nat_tests) in get_or-set_other xs i j x blank apart

-- what is at a cell once another was written
at_cell : {Cell : Type 0} (blank : Cell) (w : ℕ) (rows : Rows Cell) (p : Block) (k i : ℕ) (x : Cell) → IsRow p rows k → IsGrid w rows → i < w → (j : ℕ) (q : Block)
    → cell blank (with_cell rows k i x) j q ≡ cond ((j == i) && same_prefix q p) x (cell blank rows j q)
at_cell blank w [] p k i x is grid lt j q = absurd is
at_cell blank w (row ∷ rows) p zero i x is grid lt j q = by (same_prefix q row.0) refl
  where
    here : p ≡ row.0
    here = same_is p row.0 is

    by : (b : Bool) → same_prefix q row.0 ≡ b → cond b (get_or (set row.1 i x) j blank) (cell blank rows j q) ≡ cond ((j == i) && same_prefix q p) x (cond b (get_or row.1 j blank) (cell blank rows j q))
    by true t =
        set_at blank row.1 i j x (omega (arith, lt, grid 0 row (omega arith)))
        ∙ ap (λ (b : Bool). cond b x (get_or row.1 j blank)) (and-true (j == i) ∙ ap (λ (b : Bool). (j == i) && b) (sym t ∙ ap (same_prefix q) (sym here)))
    by false t = sym (ap (λ (b : Bool). cond b x (cell blank rows j q)) (ap (λ (b : Bool). (j == i) && b) (ap (same_prefix q) here ∙ t) ∙ and-false (j == i)))
at_cell blank w (row ∷ rows) p (suc k) i x is grid lt j q = by (same_prefix q row.0) refl (at_cell blank w rows p k i x is.1 (grid-tail w row rows grid) lt j q)
  where
    by : (b : Bool) → same_prefix q row.0 ≡ b → cell blank (with_cell rows k i x) j q ≡ cond ((j == i) && same_prefix q p) x (cell blank rows j q)
        → cond b (get_or row.1 j blank) (cell blank (with_cell rows k i x) j q) ≡ cond ((j == i) && same_prefix q p) x (cond b (get_or row.1 j blank) (cell blank rows j q))
    by true t later = apart (same_prefix q p) refl
      where
        apart : (b : Bool) → same_prefix q p ≡ b → get_or row.1 j blank ≡ cond ((j == i) && b) x (get_or row.1 j blank)
        apart true s = true-false (same_prefix p row.0) (ap (λ (r : Block). same_prefix r row.0) (sym (same_is q p s)) ∙ t) is.0
        apart false s = sym (ap (λ (b : Bool). cond b x (get_or row.1 j blank)) (and-false (j == i)))
    by false t later = later

pub cells-with_cell : {Cell : Type 0} (blank : Cell) (w : ℕ) (rows : Rows Cell) (p : Block) (k i : ℕ) (x : Cell) → number_of_prefix p (heads rows) ≡ Some k → IsGrid w rows → i < w
    → ◌≡◌ {A = ℕ → Block → Cell} (cell blank (with_cell rows k i x)) (λ j q. cond ((j == i) && same_prefix q p) x (cell blank rows j q))
cells-with_cell blank w rows p k i x is grid lt = fun_ext (λ j. fun_ext (λ q. at_cell blank w rows p k i x (row_is p rows k is) grid lt j q))

-- what is at a cell, by the row's number
pub cell-at : {Cell : Type 0} (blank : Cell) (rows : Rows Cell) (p : Block) (k i : ℕ) (row : List Cell) → number_of_prefix p (heads rows) ≡ Some k → slice_get rows k ≡ Some (p, row) → cell blank rows i p ≡ get_or row i blank
cell-at {Cell = Cell} blank rows p k i row is at = here rows k (row_is p rows k is) at
  where
    here : (rs : Rows Cell) (n : ℕ) → IsRow p rs n → slice_get rs n ≡ Some (p, row) → cell blank rs i p ≡ get_or row i blank
    here [] n is at = absurd is
    here (r ∷ rs) zero is at =
        let same : r ≡ (p, row) = cc at in
        ap (λ (b : Bool). cond b (get_or r.1 i blank) (cell blank rs i p)) is ∙ ap (λ (x : Block × List _). get_or x.1 i blank) same
    here (r ∷ rs) (suc n) is at = ap (λ (b : Bool). cond b (get_or r.1 i blank) (cell blank rs i p)) is.0 ∙ here rs n is.1 at

empty_at : {Cell : Type 0} (blank : Cell) (w j : ℕ) → get_or (replicate w blank) j blank ≡ blank
empty_at blank zero j = refl
empty_at blank (suc w) zero = refl
empty_at blank (suc w) (suc j) = empty_at blank w j

cell_last : {Cell : Type 0} (blank : Cell) (w : ℕ) (rows : Rows Cell) (p : Block) (j : ℕ) (q : Block) → cell blank (rows ++ (p, replicate w blank) ∷ []) j q ≡ cell blank rows j q
cell_last blank w [] p j q = by (same_prefix q p)
  where
    by : (b : Bool) → cond b (get_or (replicate w blank) j blank) blank ≡ blank
    by true = empty_at blank w j
    by false = refl
cell_last blank w (row ∷ rows) p j q = ap (cond (same_prefix q row.0) (get_or row.1 j blank)) (cell_last blank w rows p j q)

cell_with : {Cell : Type 0} (blank : Cell) (w : ℕ) (rows : Rows Cell) (p : Block) (j : ℕ) (q : Block) (b : Bool) → cell blank (cond b rows (rows ++ (p, replicate w blank) ∷ [])) j q ≡ cell blank rows j q
cell_with blank w rows p j q true = refl
cell_with blank w rows p j q false = cell_last blank w rows p j q

cell_rows : {Cell : Type 0} (blank : Cell) (w : ℕ) (rows : Rows Cell) (es : List Entry) (j : ℕ) (q : Block) → cell blank (with_rows blank w rows es) j q ≡ cell blank rows j q
cell_rows blank w rows [] j q = refl
cell_rows blank w rows (e ∷ es) j q = cell_rows blank w (with_row blank w rows e.prefix) es j q ∙ cell_with blank w rows e.prefix j q (is_among e.prefix (heads rows))

-- new rows show nothing
pub cells-with_rows : {Cell : Type 0} (blank : Cell) (w : ℕ) (rows : Rows Cell) (es : List Entry) → cell blank (with_rows blank w rows es) ≡ cell blank rows
cells-with_rows blank w rows es = fun_ext (λ j. fun_ext (λ q. cell_rows blank w rows es j q))

-- one more metric that was written
pub shown_after-step : {Cell : Type 0} (made : ℕ → Cell) (cells : ℕ → Block → Cell) (i : ℕ) (e : Entry) (es : List Entry) →
    shown_after made (λ j q. cond ((j == i) && same_prefix q e.prefix) (made e.metric) (cells j q)) i es ≡ shown_after made cells i (e ∷ es)
shown_after-step made cells i e es = refl

-- a row of a plan's prefix shows nothing
pub cell-planned : {Cell : Type 0} (blank : Cell) (w : ℕ) (ps : List Block) (j : ℕ) (q : Block) → cell blank (planned_rows blank w ps) j q ≡ blank
cell-planned blank w [] j q = refl
cell-planned blank w (p ∷ ps) j q = by (same_prefix q p) (cell-planned blank w ps j q)
  where
    by : (b : Bool) → cell blank (planned_rows blank w ps) j q ≡ blank → cond b (get_or (replicate w blank) j blank) (cell blank (planned_rows blank w ps) j q) ≡ blank
    by true later = empty_at blank w j
    by false later = later
