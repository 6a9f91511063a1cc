-- A cell of a row.
use Rattle.std.proofs.Common.{◌≡◌, ◌∙◌, ◌<◌, ℕ, zero, suc, List, [], ◌∷◌, Option, Some, None, Result, Ok, Err, OnOk, OnErr, arith, ap, refl, sym, length, get_or, set, Vec, Global}
use Rattle.std.specs.Prelude.{slice_get, slice_index_or}
use Rattle.std.specs.Map.{values_of}
use Rattle.std.proofs.lemmas.List.{get_or_default}
use Rattle.rip_wire.specs.Prefix.{Block}
use Rattle.rip_plan.specs.Network.{number_of_prefix}
use Rattle.std.proofs.lemmas.Option.{same_Some, slice_get_within}
use Rattle.rip_table.specs.Rows.{IsGrid, Rows, cell, heads, rows_of, with_cell}
use Rattle.rip_table.proofs.CellLemmas.{cell-at}
use Rattle.rip_table.proofs.RowLemmas.{Entries, length-heads, length-rows, row-at, row-width}
use Rattle.rip_routes.specs.OwnTables.{OwnRoute}
use Rattle.rip_routes.proofs.TellLemmas.{number-at}

pub cell-of-row : (es : Entries (Option OwnRoute)) (k : ℕ) (row : Vec (Option OwnRoute) Global) (p : Block) (i : ℕ) (x : Option OwnRoute) (width : ℕ) → number_of_prefix p (heads (rows_of es)) ≡ Some k
    → IsGrid width (rows_of es) → slice_get (values_of es) k ≡ Some row → i < width → x ≡ slice_index_or row.items i x → cell None (rows_of es) i p ≡ x
cell-of-row es k row p i x width number grid at lt is =
    let wide : length row.items ≡ width = row-width es k width row grid at in
    cell-at None (rows_of es) p k i row.items number (row-at es k row p at (number-at p (heads (rows_of es)) k number))
    ∙ sym (is ∙ get_or_default row.items i x None (omega (arith, wide, lt)))

-- a function of what holds where a result is Ok, or an error
pub map_ok : {T E P Q : Type 0} (r : Result T E) → (P → Q) → OnOk r P → OnOk r Q
map_ok (Ok x) f h = f h
map_ok (Err e) f h = tt

pub map_err : {T E P Q : Type 0} (r : Result T E) → (P → Q) → OnErr r P → OnErr r Q
map_err (Ok x) f h = tt
map_err (Err e) f h = f h

set_same : {A : Type 0} (xs : List A) (i : ℕ) (x : A) → x ≡ get_or xs i x → set xs i x ≡ xs
set_same [] i x h = refl
set_same (y ∷ ys) zero x h = ap (λ (z : _). z ∷ ys) h
set_same (y ∷ ys) (suc i) x h = ap (λ (zs : List _). y ∷ zs) (set_same ys i x h)

-- a cell that is written as it was
pub with_cell-same : {Cell : Type 0} (rows : Rows Cell) (k i : ℕ) (x : Cell) (p : Block) (row : List Cell) → slice_get rows k ≡ Some (p, row) → x ≡ get_or row i x → with_cell rows k i x ≡ rows
with_cell-same [] k i x p row at h = refl
with_cell-same (r ∷ rows) zero i x p row at h =
    let same : r ≡ (p, row) = same_Some _ _ at in
    ap (λ (cells : List _). (r.0, cells) ∷ rows) (set_same r.1 i x (rw same h))
with_cell-same (r ∷ rows) (suc k) i x p row at h = ap (λ (rs : Rows _). r ∷ rs) (with_cell-same rows k i x p row at h)

pub row-of : {Cell : Type 0} (es : Entries Cell) (k : ℕ) (row : Vec Cell Global) (p : Block) → number_of_prefix p (heads (rows_of es)) ≡ Some k → slice_get (values_of es) k ≡ Some row
    → slice_get (rows_of es) k ≡ Some (p, row.items)
row-of es k row p number at = row-at es k row p at (number-at p (heads (rows_of es)) k number)

pub number-below : {Cell : Type 0} (es : Entries Cell) (p : Block) (k : ℕ) → number_of_prefix p (heads (rows_of es)) ≡ Some k → k < length es
number-below es p k number = omega (arith, slice_get_within (heads (rows_of es)) k p (number-at p (heads (rows_of es)) k number), length-heads (rows_of es), length-rows es)
