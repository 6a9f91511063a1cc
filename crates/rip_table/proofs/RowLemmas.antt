-- Rows of cells: finding them, adding them and writing to them.
use Rattle.std.proofs.Common.{◌≡◌, ℕ, zero, suc, ◌+◌, ◌<◌, ◌≤◌, Bool, true, false, cond, List, [], ◌∷◌, ◌++◌, length, take, set, replicate, Option, Some, None, refl, sym, ap, ◌∙◌, arith, length-append}
use Rattle.std.proofs.Math.ListN.{length-set}
use Rattle.std.specs.List.{remove, slice_get, position, position_from}
use Rattle.std.specs.Map.{values_of, keys_of}
use Rattle.std.specs.declared.vec.Vec.{Vec}
use Rattle.std.specs.declared.alloc.Global.{Global}
use Rattle.std.proofs.lemmas.Option.{same_Some, slice_get_within, get_or_from_slice_get, none-some}
use Rattle.std.proofs.lemmas.Iterator.Adapters.{position_from-zero}
use Rattle.rip_plan.proofs.NumberingLemmas.{same_self}
use Rattle.indexmap.specs.IndexMap.{set_value_at}
use Rattle.rip_wire.specs.Prefix.{Block}
use Rattle.rip_wire.specs.declared.entry.Entry.{Entry}
use Rattle.rip_plan.specs.Network.{number_of_prefix}
use Rattle.rip_plan.specs.Passes.{same_prefix}
use Rattle.rip_table.specs.State.{is_among}
use Rattle.rip_table.specs.Rows.{Rows, IsGrid, heads, planned_rows, rows_of, with_cell, with_row, with_rows}
use Rattle.rip_table.proofs.PrefixListLemmas.{is_among-item, take-more}
use Rattle.rip_table.proofs.NumberLemmas.{number-at, number-none, true-false}

abbrev pub Entries : Type 0 → Type 0
Entries Cell = List (Block × Vec Cell Global)

-- the map's keys are the prefixes of the rows
pub keys-heads : {Cell : Type 0} (es : Entries Cell) → keys_of es ≡ heads (rows_of es)
keys-heads [] = refl
keys-heads (e ∷ es) = ap (λ (ps : List Block). e.0 ∷ ps) (keys-heads es)

-- the index of a key is the number of its prefix
pub index-number : {Cell : Type 0} (p : Block) (es : Entries Cell) → position (same_prefix p) (keys_of es) ≡ number_of_prefix p (heads (rows_of es))
index-number p es = position_from-zero (same_prefix p) (keys_of es) ∙ ap (number_of_prefix p) (keys-heads es)

pub rows-append : {Cell : Type 0} (es : Entries Cell) (p : Block) (row : Vec Cell Global) → rows_of (es ++ (p, row) ∷ []) ≡ rows_of es ++ (p, row.items) ∷ []
rows-append [] p row = refl
rows-append (e ∷ es) p row = ap (λ (xs : Rows _). (e.0, e.1.items) ∷ xs) (rows-append es p row)

pub rows-take : {Cell : Type 0} (n : ℕ) (es : Entries Cell) → rows_of (take n es) ≡ take n (rows_of es)
rows-take zero es = refl
rows-take (suc n) [] = refl
rows-take (suc n) (e ∷ es) = ap (λ (xs : Rows _). (e.0, e.1.items) ∷ xs) (rows-take n es)

pub length-rows : {Cell : Type 0} (es : Entries Cell) → length (rows_of es) ≡ length es
length-rows [] = refl
length-rows (e ∷ es) = ap suc (length-rows es)

pub length-heads : {Cell : Type 0} (rows : Rows Cell) → length (heads rows) ≡ length rows
length-heads [] = refl
length-heads (r ∷ rows) = ap suc (length-heads rows)

pub heads-append : {Cell : Type 0} (rows : Rows Cell) (r : Block × List Cell) → heads (rows ++ r ∷ []) ≡ heads rows ++ r.0 ∷ []
heads-append [] r = refl
heads-append (x ∷ rows) r = ap (λ (ps : List Block). x.0 ∷ ps) (heads-append rows r)

pub with_row-old : {Cell : Type 0} (blank : Cell) (w : ℕ) (rows : Rows Cell) (p : Block) → is_among p (heads rows) ≡ true → rows ≡ with_row blank w rows p
with_row-old blank w rows p h = sym (ap (λ (b : Bool). cond b rows (rows ++ (p, replicate w blank) ∷ [])) h)

pub with_row-new : {Cell : Type 0} (blank : Cell) (w : ℕ) (rows : Rows Cell) (p : Block) → is_among p (heads rows) ≡ false → rows ++ (p, replicate w blank) ∷ [] ≡ with_row blank w rows p
with_row-new blank w rows p h = sym (ap (λ (b : Bool). cond b rows (rows ++ (p, replicate w blank) ∷ [])) h)

number_last : (p : Block) (ps : List Block) (n : ℕ) → position_from (same_prefix p) n ps ≡ None → position_from (same_prefix p) n (ps ++ p ∷ []) ≡ Some (n + length ps)
number_last p [] n h = ap (λ (b : Bool). cond b (Some n) None) (same_self p) ∙ (let e : n ≡ n + 0 = omega arith in ap (λ (k : ℕ). Some k) e)
number_last p (q ∷ ps) n h = by (same_prefix p q) h (λ e. number_last p ps (n + 1) e)
  where
    by : (b : Bool) → cond b (Some n) (position_from (same_prefix p) (n + 1) ps) ≡ None
        → (position_from (same_prefix p) (n + 1) ps ≡ None → position_from (same_prefix p) (n + 1) (ps ++ p ∷ []) ≡ Some (n + 1 + length ps))
        → cond b (Some n) (position_from (same_prefix p) (n + 1) (ps ++ p ∷ [])) ≡ Some (n + suc (length ps))
    by true e later = absurd (cc e)
    by false e later = let more : n + 1 + length ps ≡ n + suc (length ps) = omega arith in later e ∙ ap (λ (k : ℕ). Some k) more

-- a prefix that is put last has the last number
pub number-last : (p : Block) (ps : List Block) → number_of_prefix p ps ≡ None → number_of_prefix p (ps ++ p ∷ []) ≡ Some (length ps)
number-last p ps h = let same : 0 + length ps ≡ length ps = omega arith in number_last p ps 0 h ∙ ap (λ (k : ℕ). Some k) same

number_keeps : (p : Block) (ps qs : List Block) (n k : ℕ) → position_from (same_prefix p) n ps ≡ Some k → position_from (same_prefix p) n (ps ++ qs) ≡ Some k
number_keeps p [] qs n k h = absurd (cc h)
number_keeps p (q ∷ ps) qs n k h = by (same_prefix p q) h (λ e. number_keeps p ps qs (n + 1) k e)
  where
    by : (b : Bool) → cond b (Some n) (position_from (same_prefix p) (n + 1) ps) ≡ Some k
        → (position_from (same_prefix p) (n + 1) ps ≡ Some k → position_from (same_prefix p) (n + 1) (ps ++ qs) ≡ Some k)
        → cond b (Some n) (position_from (same_prefix p) (n + 1) (ps ++ qs)) ≡ Some k
    by true e later = e
    by false e later = later e

-- a number stays when others are put last
pub number-keeps : (p : Block) (ps qs : List Block) (k : ℕ) → number_of_prefix p ps ≡ Some k → number_of_prefix p (ps ++ qs) ≡ Some k
number-keeps p ps qs k h = number_keeps p ps qs 0 k h

-- ---- more rows

pub with_row-keeps : {Cell : Type 0} (blank : Cell) (w : ℕ) (rows : Rows Cell) (p q : Block) (k : ℕ) → number_of_prefix q (heads rows) ≡ Some k → number_of_prefix q (heads (with_row blank w rows p)) ≡ Some k
with_row-keeps blank w rows p q k h = by (is_among p (heads rows))
  where
    by : (b : Bool) → number_of_prefix q (heads (cond b rows (rows ++ (p, replicate w blank) ∷ []))) ≡ Some k
    by true = h
    by false = ap (number_of_prefix q) (heads-append rows (p, replicate w blank)) ∙ number-keeps q (heads rows) (p ∷ []) k h

take_more : {Cell : Type 0} (n : ℕ) (xs : Rows Cell) (x : Block × List Cell) → n ≤ length xs → take n (xs ++ x ∷ []) ≡ take n xs
take_more zero xs x h = refl
take_more (suc n) [] x h = absurd (omega (arith, h))
take_more (suc n) (y ∷ xs) x h = ap (λ (r : Rows _). y ∷ r) (take_more n xs x (omega (arith, h)))

pub with_row-front : {Cell : Type 0} (blank : Cell) (n w : ℕ) (rows : Rows Cell) (p : Block) → n ≤ length rows → take n (with_row blank w rows p) ≡ take n rows
with_row-front blank n w rows p h = by (is_among p (heads rows))
  where
    by : (b : Bool) → take n (cond b rows (rows ++ (p, replicate w blank) ∷ [])) ≡ take n rows
    by true = refl
    by false = take_more n rows (p, replicate w blank) h

pub with_row-longer : {Cell : Type 0} (blank : Cell) (w : ℕ) (rows : Rows Cell) (p : Block) → length rows ≤ length (with_row blank w rows p)
with_row-longer blank w rows p = by (is_among p (heads rows))
  where
    by : (b : Bool) → length rows ≤ length (cond b rows (rows ++ (p, replicate w blank) ∷ []))
    by true = omega arith
    by false = omega (arith, length-append rows ((p, replicate w blank) ∷ []))

-- ---- writing to a cell

pub rows-set : {Cell : Type 0} (es : Entries Cell) (k i : ℕ) (x : Cell) (row new : Vec Cell Global) → slice_get (values_of es) k ≡ Some row → new.items ≡ set row.items i x →
    rows_of (set_value_at es k new) ≡ with_cell (rows_of es) k i x
rows-set [] k i x row new h s = refl
rows-set (e ∷ es) zero i x row new h s =
    let same : e.1 ≡ row = same_Some _ _ h in
    ap (λ (xs : List _). (e.0, xs) ∷ rows_of es) (s ∙ ap (λ (r : Vec _ Global). set r.items i x) (sym same))
rows-set (e ∷ es) (suc k) i x row new h s = ap (λ (xs : Rows _). (e.0, e.1.items) ∷ xs) (rows-set es k i x row new h s)

-- a row in the place of another
pub rows-set_row : {Cell : Type 0} (es : Entries Cell) (k : ℕ) (p : Block) (new : Vec Cell Global) → slice_get (heads (rows_of es)) k ≡ Some p → rows_of (set_value_at es k new) ≡ set (rows_of es) k (p, new.items)
rows-set_row [] k p new h = refl
rows-set_row (e ∷ es) zero p new h = ap (λ (q : Block). (q, new.items) ∷ rows_of es) (same_Some _ _ h)
rows-set_row (e ∷ es) (suc k) p new h = ap (λ (xs : Rows _). (e.0, e.1.items) ∷ xs) (rows-set_row es k p new h)

-- without a row
pub rows-remove : {Cell : Type 0} (es : Entries Cell) (k : ℕ) → rows_of (remove es k) ≡ remove (rows_of es) k
rows-remove [] zero = refl
rows-remove [] (suc k) = refl
rows-remove (e ∷ es) zero = refl
rows-remove (e ∷ es) (suc k) = ap (λ (xs : Rows _). (e.0, e.1.items) ∷ xs) (rows-remove es k)

all_at : {Cell : Type 0} (rows : Rows Cell) (j n : ℕ) (r : Block × List Cell) → slice_get rows j ≡ Some r → IsGrid n rows → length r.1 ≡ n
all_at rows j n r at all =
    let within = slice_get_within rows j r at in
    rw (get_or_from_slice_get rows j r r at) at (all j r within)

pub from_rows : {Cell : Type 0} (fs : Entries Cell) (j : ℕ) (r : Vec Cell Global) → slice_get (values_of fs) j ≡ Some r → (b : Block) × (slice_get (rows_of fs) j ≡ Some (b, r.items))
from_rows [] j r e = absurd (none-some _ e)
from_rows (f ∷ fs) zero r e = (f.0, ap (λ (v : Vec _ Global). Some (f.0, v.items)) (same_Some _ _ e))
from_rows (f ∷ fs) (suc j) r e = from_rows fs j r e

-- a row is as wide as the grid
pub row-width : {Cell : Type 0} (es : Entries Cell) (k n : ℕ) (row : Vec Cell Global) → IsGrid n (rows_of es) → slice_get (values_of es) k ≡ Some row → length row.items ≡ n
row-width es k n row grid h =
    let at = from_rows es k row h in
    all_at (rows_of es) k n (at.0, row.items) at.1 grid

pub heads-with_cell : {Cell : Type 0} (rows : Rows Cell) (k i : ℕ) (x : Cell) → heads (with_cell rows k i x) ≡ heads rows
heads-with_cell [] k i x = refl
heads-with_cell (row ∷ rows) zero i x = refl
heads-with_cell (row ∷ rows) (suc k) i x = ap (λ (ps : List Block). row.0 ∷ ps) (heads-with_cell rows k i x)

pub grid-tail : {Cell : Type 0} (n : ℕ) (r : Block × List Cell) (rows : Rows Cell) → IsGrid n (r ∷ rows) → IsGrid n rows
grid-tail n r rows h k d lt = h (suc k) d (omega (arith, lt))

pub grid_cons : {Cell : Type 0} (n : ℕ) (r : Block × List Cell) (rows : Rows Cell) → length r.1 ≡ n → IsGrid n rows → IsGrid n (r ∷ rows)
grid_cons n r rows e h zero d lt = e
grid_cons n r rows e h (suc k) d lt = h k d (omega (arith, lt))

-- a write leaves the width
pub grid-with_cell : {Cell : Type 0} (n : ℕ) (rows : Rows Cell) (k i : ℕ) (x : Cell) → IsGrid n rows → IsGrid n (with_cell rows k i x)
grid-with_cell n [] k i x h = h
grid-with_cell n (r ∷ rows) zero i x h = grid_cons n (r.0, set r.1 i x) rows (length-set r.1 i x ∙ h 0 r (omega arith)) (grid-tail n r rows h)
grid-with_cell n (r ∷ rows) (suc k) i x h = grid_cons n r (with_cell rows k i x) (h 0 r (omega arith)) (grid-with_cell n rows k i x (grid-tail n r rows h))

pub length-empty : {Cell : Type 0} (blank : Cell) (w : ℕ) → length (replicate w blank) ≡ w
length-empty blank zero = refl
length-empty blank (suc w) = ap suc (length-empty blank w)

grid_push : {Cell : Type 0} (n : ℕ) (rows : Rows Cell) (r : Block × List Cell) → IsGrid n rows → length r.1 ≡ n → IsGrid n (rows ++ r ∷ [])
grid_push n [] r all h = grid_cons n r [] h (λ k d lt. absurd (omega (arith, lt)))
grid_push n (x ∷ rows) r all h = grid_cons n x (rows ++ r ∷ []) (all 0 x (omega arith)) (grid_push n rows r (grid-tail n x rows all) h)

pub grid-with_row : {Cell : Type 0} (blank : Cell) (n : ℕ) (rows : Rows Cell) (p : Block) → IsGrid n rows → IsGrid n (with_row blank n rows p)
grid-with_row blank n rows p h = by (is_among p (heads rows))
  where
    by : (b : Bool) → IsGrid n (cond b rows (rows ++ (p, replicate n blank) ∷ []))
    by true = h
    by false = grid_push n rows (p, replicate n blank) h (length-empty blank n)

pub grid-with_rows : {Cell : Type 0} (blank : Cell) (n : ℕ) (rows : Rows Cell) (es : List Entry) → IsGrid n rows → IsGrid n (with_rows blank n rows es)
grid-with_rows blank n rows [] h = h
grid-with_rows blank n rows (e ∷ es) h = grid-with_rows blank n (with_row blank n rows e.prefix) es (grid-with_row blank n rows e.prefix h)

-- ---- a row by its number

pub head-at : {Cell : Type 0} (es : Entries Cell) (k : ℕ) (e : Block × Vec Cell Global) → slice_get es k ≡ Some e → slice_get (heads (rows_of es)) k ≡ Some (e.0)
head-at [] k e h = absurd (none-some _ h)
head-at (x ∷ es) zero e h = ap (λ (y : Block × Vec _ Global). Some (y.0)) (same_Some _ _ h)
head-at (x ∷ es) (suc k) e h = head-at es k e h

-- the prefix of a row
pub row-head : {Cell : Type 0} (rows : Rows Cell) (k : ℕ) (r : Block × List Cell) → slice_get rows k ≡ Some r → slice_get (heads rows) k ≡ Some r.0
row-head [] k r h = absurd (none-some _ h)
row-head (x ∷ rows) zero r h = ap (λ (y : Block × List _). Some y.0) (same_Some _ _ h)
row-head (x ∷ rows) (suc k) r h = row-head rows k r h

-- the row of a prefix
pub row-at : {Cell : Type 0} (es : Entries Cell) (k : ℕ) (row : Vec Cell Global) (p : Block) → slice_get (values_of es) k ≡ Some row → slice_get (heads (rows_of es)) k ≡ Some p →
    slice_get (rows_of es) k ≡ Some (p, row.items)
row-at es k row p h at =
    let found = from_rows es k row h in
    let same : found.0 ≡ p = same_Some _ _ (sym (row-head (rows_of es) k (found.0, row.items) found.1) ∙ at) in
    found.1 ∙ ap (λ (q : Block). Some (q, row.items)) same

-- where prefixes differ, the number of one is where it stands
pub number-listed : (ps : List Block) (k : ℕ) (p : Block) → ((i j : ℕ) (q : Block) → slice_get ps i ≡ Some q → slice_get ps j ≡ Some q → i ≡ j) → slice_get ps k ≡ Some p →
    number_of_prefix p ps ≡ Some k
number-listed ps k p differ at = by (number_of_prefix p ps) refl
  where
    by : (o : Option ℕ) → number_of_prefix p ps ≡ o → number_of_prefix p ps ≡ Some k
    by None h = true-false (is_among p ps) (is_among-item ps k p at) (number-none p ps h)
    by (Some j) h = h ∙ ap (λ (i : ℕ). Some i) (differ j k p (number-at p ps j h) at)

-- ---- the rows of a plan's prefixes

pub heads-planned : {Cell : Type 0} (blank : Cell) (w : ℕ) (ps : List Block) → heads (planned_rows blank w ps) ≡ ps
heads-planned blank w [] = refl
heads-planned blank w (p ∷ ps) = ap (λ (qs : List Block). p ∷ qs) (heads-planned blank w ps)

take_at : (k j : ℕ) (ps : List Block) (p : Block) → slice_get (take k ps) j ≡ Some p → (j < k) × (slice_get ps j ≡ Some p)
take_at zero j ps p h = absurd (none-some _ h)
take_at (suc k) j [] p h = absurd (none-some _ h)
take_at (suc k) zero (q ∷ ps) p h = (omega arith, h)
take_at (suc k) (suc j) (q ∷ ps) p h = let found = take_at k j ps p h in (omega (arith, found.0), found.1)

absent_before : (ps : List Block) (k : ℕ) (p : Block) → ((i j : ℕ) (q : Block) → slice_get ps i ≡ Some q → slice_get ps j ≡ Some q → i ≡ j) → slice_get ps k ≡ Some p → is_among p (take k ps) ≡ false
absent_before ps k p differ at = by (number_of_prefix p (take k ps)) refl
  where
    by : (o : Option ℕ) → number_of_prefix p (take k ps) ≡ o → is_among p (take k ps) ≡ false
    by None h = number-none p (take k ps) h
    by (Some j) h =
        let found = take_at k j ps p (number-at p (take k ps) j h) in
        let same : j ≡ k = differ j k p found.1 at in
        absurd (omega (arith, found.0, same))

planned_append : {Cell : Type 0} (blank : Cell) (w : ℕ) (ps : List Block) (p : Block) → planned_rows blank w (ps ++ p ∷ []) ≡ planned_rows blank w ps ++ (p, replicate w blank) ∷ []
planned_append blank w [] p = refl
planned_append blank w (q ∷ ps) p = ap (λ (rows : Rows _). (q, replicate w blank) ∷ rows) (planned_append blank w ps p)

-- one more prefix of a plan
pub planned-more : {Cell : Type 0} (blank : Cell) (w : ℕ) (ps : List Block) (k : ℕ) (p : Block) → ((i j : ℕ) (q : Block) → slice_get ps i ≡ Some q → slice_get ps j ≡ Some q → i ≡ j) → slice_get ps k ≡ Some p
    → with_row blank w (planned_rows blank w (take k ps)) p ≡ planned_rows blank w (take (k + 1) ps)
planned-more blank w ps k p differ at =
    let absent : is_among p (heads (planned_rows blank w (take k ps))) ≡ false = ap (is_among p) (heads-planned blank w (take k ps)) ∙ absent_before ps k p differ at in
    sym (with_row-new blank w (planned_rows blank w (take k ps)) p absent) ∙ sym (planned_append blank w (take k ps) p) ∙ ap (planned_rows blank w) (sym (take-more ps k p at))

pub grid-planned : {Cell : Type 0} (blank : Cell) (w : ℕ) (ps : List Block) → IsGrid w (planned_rows blank w ps)
grid-planned blank w [] = λ k d lt. absurd (omega (arith, lt))
grid-planned blank w (p ∷ ps) = grid_cons w (p, replicate w blank) (planned_rows blank w ps) (length-empty blank w) (grid-planned blank w ps)
