-- Rows in which nothing is shown can go.
use Rattle.std.proofs.Common.{◌≡◌, ℕ, zero, suc, ◌==◌, ◌<◌, ◌≤◌, Bool, true, false, cond, ◌||◌, List, [], ◌∷◌, ◌++◌, length, filter, get_or, Option, Some, None, refl, sym, ap, subst, ◌∙◌, ◌≢◌, arith}
use Rattle.std.proofs.lemmas.Bool.{eqb-true}
use Rattle.std.proofs.lemmas.Bool.Decides.{nat_tests}
use Rattle.std.specs.Prelude.{is_none, is_some, option_map}
use Rattle.std.specs.List.{remove, slice_get}
use Rattle.std.specs.Map.{values_of}
use Rattle.std.specs.declared.vec.Vec.{Vec}
use Rattle.std.specs.declared.alloc.Global.{Global}
use mathlib.Core.Path.{fun_ext}
use Rattle.rip_wire.specs.Prefix.{Block}
use Rattle.rip_plan.proofs.NumberingLemmas.{same_is, same_self}
use Rattle.rip_plan.specs.Network.{Network}
use Rattle.rip_plan.specs.Passes.{same_prefix}
use Rattle.rip_table.specs.State.{AreDistinct, Fits, IsState, is_among}
use Rattle.rip_table.specs.Rows.{IsGrid, Rows, cell, heads, rows_of}
use Rattle.rip_table.specs.Window.{Window, Word, any_below, forgotten, shown}
use Rattle.rip_table.specs.WindowRows.{is_shown_in, kept_rows, window_of}
use Rattle.rip_table.proofs.RowLemmas.{Entries, from_rows, grid-tail, grid_cons, number-listed, row-head}
use Rattle.rip_table.proofs.FrontLemmas.{back, back-at, back-gone, back-kept}
use Rattle.rip_table.proofs.TruthLemmas.{or-true}
use Rattle.rip_table.proofs.NumberLemmas.{true-false}
use Rattle.rip_table.proofs.CellLemmas.{cell-at}
use Rattle.rip_table.proofs.PrefixListLemmas.{is_among-item}

abbrev WordRow : Type 0
WordRow = Block × List (Option Word)

abbrev shows : WordRow → Bool
shows row = is_shown_in row.1

-- ---- what is left of rows

-- where nothing is shown in cells, each is nothing
blank_at : (cells : List (Option Word)) (i : ℕ) → is_shown_in cells ≡ false → get_or cells i None ≡ None
blank_at [] i h = refl
blank_at (None ∷ cells) zero h = refl
blank_at (Some x ∷ cells) zero h = absurd (cc h)
blank_at (None ∷ cells) (suc i) h = blank_at cells i h
blank_at (Some x ∷ cells) (suc i) h = absurd (cc h)

-- a cell in which nothing is shown, or something
pub blank-first : (cell : Option Word) (cells : List (Option Word)) → is_none cell ≡ true → is_shown_in (cell ∷ cells) ≡ is_shown_in cells
blank-first None cells h = refl
blank-first (Some x) cells h = absurd (cc h)

pub shown-first : (cell : Option Word) (cells : List (Option Word)) → is_none cell ≡ false → is_shown_in (cell ∷ cells) ≡ true
shown-first None cells h = absurd (cc h)
shown-first (Some x) cells h = refl

-- a prefix that no row has
absent : (rows : Rows (Option Word)) (i : ℕ) (p : Block) → is_among p (heads rows) ≡ false → cell None rows i p ≡ None
absent [] i p h = refl
absent (row ∷ rows) i p h = by (same_prefix p row.0) h (absent rows i p)
  where
    by : (b : Bool) → (b || is_among p (heads rows)) ≡ false → (is_among p (heads rows) ≡ false → cell None rows i p ≡ None)
        → cond b (get_or row.1 i None) (cell None rows i p) ≡ None
    by true h later = absurd (cc h)
    by false h later = later h

-- the prefixes of rows are of no row before them
abbrev Differ : List Block → Type 0
Differ [] = Unit {0}
Differ (p ∷ ps) = (is_among p ps ≡ false) × Differ ps

among_at : (p : Block) (ps : List Block) → is_among p ps ≡ true → (k : ℕ) × (slice_get ps k ≡ Some p)
among_at p [] h = absurd (cc h)
among_at p (q ∷ ps) h = by (same_prefix p q) refl h (among_at p ps)
  where
    by : (b : Bool) → same_prefix p q ≡ b → (b || is_among p ps) ≡ true → (is_among p ps ≡ true → (k : ℕ) × (slice_get ps k ≡ Some p)) → (k : ℕ) × (slice_get (q ∷ ps) k ≡ Some p)
    by true e h later = (zero, ap (λ (r : Block). Some r) (sym (same_is p q e)))
    by false e h later = let there = later h in (suc there.0, there.1)

differ_tail : (p : Block) (ps : List Block) → AreDistinct (p ∷ ps) → AreDistinct ps
differ_tail p ps h j k q a b = let same : suc j ≡ suc k = h (suc j) (suc k) q a b in omega (arith, same)

pub differ_all : (ps : List Block) → AreDistinct ps → Differ ps
differ_all [] h = tt
differ_all (p ∷ ps) h = (by (is_among p ps) refl, differ_all ps (differ_tail p ps h))
  where
    by : (b : Bool) → is_among p ps ≡ b → is_among p ps ≡ false
    by true e = let there = among_at p ps e in let same : 0 ≡ suc there.0 = h 0 (suc there.0) p refl there.1 in absurd (omega (arith, same))
    by false e = e

-- the rows that are left show what all showed
kept_cell : (rows : Rows (Option Word)) → Differ (heads rows) → (i : ℕ) (p : Block) → cell None (filter shows rows) i p ≡ cell None rows i p
kept_cell [] h i p = refl
kept_cell (row ∷ rows) h i p = by (kept_cell rows h.1 i p) (shows row) refl
  where
    gone : cell None (filter shows rows) i p ≡ cell None rows i p → (b : Bool) → same_prefix p row.0 ≡ b → is_shown_in row.1 ≡ false
        → cell None (filter shows rows) i p ≡ cond b (get_or row.1 i None) (cell None rows i p)
    gone later true e s =
        later ∙ absent rows i p (ap (λ (q : Block). is_among q (heads rows)) (same_is p row.0 e) ∙ h.0) ∙ sym (blank_at row.1 i s)
    gone later false e s = later

    by : cell None (filter shows rows) i p ≡ cell None rows i p → (b : Bool) → shows row ≡ b → cell None (cond b (row ∷ filter shows rows) (filter shows rows)) i p ≡ cell None (row ∷ rows) i p
    by later true e = ap (cond (same_prefix p row.0) (get_or row.1 i None)) later
    by later false e = gone later (same_prefix p row.0) refl e

tail_cell : (first : ℕ) (rows : Rows (Option Word)) → Differ (heads rows) → (i : ℕ) (p : Block) → cell None (kept_rows first rows) i p ≡ cell None rows i p
tail_cell zero rows h i p = kept_cell rows h i p
tail_cell (suc first) [] h i p = refl
tail_cell (suc first) (row ∷ rows) h i p = ap (cond (same_prefix p row.0) (get_or row.1 i None)) (tail_cell first rows h.1 i p)

pub kept-grid : (first n : ℕ) (rows : Rows (Option Word)) → IsGrid n rows → IsGrid n (kept_rows first rows)
kept-grid zero n [] h = h
kept-grid zero n (row ∷ rows) h = by (shows row) (kept-grid zero n rows (grid-tail n row rows h))
  where
    by : (b : Bool) → IsGrid n (filter shows rows) → IsGrid n (cond b (row ∷ filter shows rows) (filter shows rows))
    by true later = grid_cons n row (filter shows rows) (h 0 row (omega arith)) later
    by false later = later
kept-grid (suc first) n [] h = h
kept-grid (suc first) n (row ∷ rows) h = grid_cons n row (kept_rows first rows) (h 0 row (omega arith)) (kept-grid first n rows (grid-tail n row rows h))

-- a row that is kept, and one that is taken out
module _ (es : Entries (Option Word)) (old : Rows (Option Word)) (j k : ℕ) (row : Vec (Option Word) Global) (next : k ≡ suc j) (is : rows_of es ≡ back k shows old)
    (at : slice_get (values_of es) j ≡ Some row) where
  found : (b : Block) × (slice_get (rows_of es) j ≡ Some (b, row.items))
  found = from_rows es j row at

  same : rows_of es ≡ back (suc j) shows old
  same = is ∙ ap (λ (n : ℕ). back n shows old) next

  there : slice_get old j ≡ Some (found.0, row.items)
  there = back-at j shows old (found.0, row.items) (ap (λ (rs : Rows (Option Word)). slice_get rs j) (sym same) ∙ found.1)

  pub row-kept : is_shown_in row.items ≡ true → rows_of es ≡ back j shows old
  row-kept h = same ∙ back-kept j shows old (found.0, row.items) there h

  pub row-gone : is_shown_in row.items ≡ false → remove (rows_of es) j ≡ back j shows old
  row-gone h = ap (λ (rs : Rows (Option Word)). remove rs j) same ∙ back-gone j shows old (found.0, row.items) there h

-- ---- which prefixes are left

-- one of the first so many cells has something
any_cell : (cells : List (Option Word)) → any_below (length cells) (λ i. is_some (get_or cells i None)) ≡ is_shown_in cells
any_cell cells = any_of cells
  where
    one_more : (n : ℕ) (c : Option Word) (cells : List (Option Word)) → any_below (suc n) (λ i. is_some (get_or (c ∷ cells) i None)) ≡ (is_some c || any_below n (λ i. is_some (get_or cells i None)))
    one_more zero c cells = refl
    one_more (suc n) c cells =
        ap (λ (b : Bool). is_some (get_or cells n None) || b) (one_more n c cells) ∙ swap (is_some (get_or cells n None)) (is_some c) (any_below n (λ i. is_some (get_or cells i None)))
      where
        swap : (a b r : Bool) → (a || (b || r)) ≡ (b || (a || r))
        swap true true r = refl
        swap true false r = refl
        swap false b r = refl

    any_of : (cells : List (Option Word)) → any_below (length cells) (λ i. is_some (get_or cells i None)) ≡ is_shown_in cells
    any_of [] = refl
    any_of (c ∷ cells) = one_more (length cells) c cells ∙ ap (λ (b : Bool). is_some c || b) (any_of cells)

filtered_heads : (test : Block → Bool) (rows : Rows (Option Word)) → ((k : ℕ) (row : WordRow) → slice_get rows k ≡ Some row → test row.0 ≡ shows row)
    → heads (filter shows rows) ≡ filter test (heads rows)
filtered_heads test [] h = refl
filtered_heads test (row ∷ rows) h = by (filtered_heads test rows (λ k r at. h (suc k) r at)) (shows row) (test row.0) (h 0 row refl)
  where
    by : heads (filter shows rows) ≡ filter test (heads rows) → (b c : Bool) → c ≡ b
        → heads (cond b (row ∷ filter shows rows) (filter shows rows)) ≡ cond c (row.0 ∷ filter test (heads rows)) (filter test (heads rows))
    by later true true e = ap (λ (ps : List Block). row.0 ∷ ps) later
    by later false false e = later
    by later true false e = absurd (cc e)
    by later false true e = absurd (cc e)

kept_heads : (first : ℕ) (test : Block → Bool) (rows : Rows (Option Word)) → ((k : ℕ) (p : Block) → k < first → slice_get (heads rows) k ≡ Some p → test p ≡ true)
    → ((k : ℕ) (row : WordRow) → first ≤ k → slice_get rows k ≡ Some row → test row.0 ≡ shows row)
    → heads (kept_rows first rows) ≡ filter test (heads rows)
kept_heads zero test rows all some = filtered_heads test rows (λ k row at. some k row (omega arith) at)
kept_heads (suc first) test [] all some = refl
kept_heads (suc first) test (row ∷ rows) all some =
    ap (λ (ps : List Block). row.0 ∷ ps) (kept_heads first test rows (λ k p lt at. all (suc k) p (omega (arith, lt)) at) (λ k r le at. some (suc k) r (omega (arith, le)) at))
    ∙ sym (ap (λ (b : Bool). cond b (row.0 ∷ filter test (heads rows)) (filter test (heads rows))) (all 0 row.0 (omega arith) refl))

planned_at : (ps qs : List Block) (k : ℕ) (p : Block) → k < length ps → slice_get (ps ++ qs) k ≡ Some p → is_among p ps ≡ true
planned_at [] qs k p lt h = absurd (omega (arith, lt))
planned_at (x ∷ ps) qs zero p lt h = let same : x ≡ p = cc h in ap (λ (y : Block). same_prefix p y || is_among p ps) same ∙ ap (λ (b : Bool). b || is_among p ps) (same_self p)
planned_at (x ∷ ps) qs (suc k) p lt h = ap (λ (b : Bool). same_prefix p x || b) (planned_at ps qs k p (omega (arith, lt)) h) ∙ or-true (same_prefix p x)

early_at : (ps qs : List Block) (k : ℕ) (p : Block) → slice_get ps k ≡ Some p → (k < length ps) × (slice_get (ps ++ qs) k ≡ Some p)
early_at [] qs k p h = absurd (cc h)
early_at (x ∷ ps) qs zero p h = (omega arith, h)
early_at (x ∷ ps) qs (suc k) p h = let later = early_at ps qs k p h in (omega (arith, later.0), later.1)

-- a prefix behind those of the plan is not among them
unplanned_at : (ps qs : List Block) (k : ℕ) (p : Block) → AreDistinct (ps ++ qs) → length ps ≤ k → slice_get (ps ++ qs) k ≡ Some p → is_among p ps ≡ false
unplanned_at ps qs k p differ le h = by (is_among p ps) refl
  where
    by : (b : Bool) → is_among p ps ≡ b → is_among p ps ≡ false
    by true e =
        let there = among_at p ps e in
        let early = early_at ps qs there.0 p there.1 in
        let same : there.0 ≡ k = differ there.0 k p early.1 h in
        absurd (omega (arith, early.0, same, le))
    by false e = e

-- a prefix is left: it is the plan's, or an interface shows it
abbrev pub is_left : Network → Window → Block → Bool
is_left n w p = is_among p n.prefixes || any_below w.interfaces (λ i. is_some (w.words i p))

pub any_same : (n : ℕ) (f g : ℕ → Bool) → ((i : ℕ) → f i ≡ g i) → any_below n f ≡ any_below n g
any_same n f g h = ap (any_below n) (fun_ext h)

left_row : (n : Network) (heard : List ℕ) (rows : Rows (Option Word)) (others : List Block) → heads rows ≡ n.prefixes ++ others → AreDistinct (heads rows) → IsGrid (length heard) rows
    → (k : ℕ) (row : WordRow) → length n.prefixes ≤ k → slice_get rows k ≡ Some row → is_left n (window_of heard rows) row.0 ≡ shows row
left_row n heard rows others listed differ grid k row le at =
    let here : slice_get (heads rows) k ≡ Some row.0 = row-head rows k row at in
    let apart : is_among row.0 n.prefixes ≡ false =
    unplanned_at n.prefixes others k row.0 (subst AreDistinct listed differ) le (ap (λ (ps : List Block). slice_get ps k) (sym listed) ∙ here) in
    let number = number-listed (heads rows) k row.0 differ here in
    let wide : length row.1 ≡ length heard = grid_at rows k row at grid in
    ap (λ (b : Bool). b || any_below (length heard) (λ i. is_some (cell None rows i row.0))) apart
    ∙ any_same (length heard) (λ i. is_some (cell None rows i row.0)) (λ i. is_some (get_or row.1 i None)) (λ i. ap (λ (o : Option Word). is_some o) (cell-at None rows row.0 k i row.1 number at))
    ∙ ap (λ (m : ℕ). any_below m (λ i. is_some (get_or row.1 i None))) (sym wide)
    ∙ any_cell row.1
  where
    grid_at : (rs : Rows (Option Word)) (j : ℕ) (r : WordRow) → slice_get rs j ≡ Some r → IsGrid (length heard) rs → length r.1 ≡ length heard
    grid_at [] j r h all = absurd (cc h)
    grid_at (x ∷ rs) zero r h all = let same : x ≡ r = cc h in ap (λ (y : WordRow). length y.1) (sym same) ∙ all 0 x (omega arith)
    grid_at (x ∷ rs) (suc j) r h all = grid_at rs j r h (grid-tail (length heard) x rs all)

-- without those rows the table means what is to be left
pub kept-is : (n : Network) (heard : List ℕ) (rows : Rows (Option Word)) → Fits n (shown (window_of heard rows)) → AreDistinct (heads rows) → IsGrid (length heard) rows
    → window_of heard (kept_rows (length n.prefixes) rows) ≡ forgotten n (window_of heard rows)
kept-is n heard rows fits differ grid =
    let w = window_of heard rows in
    let left = kept_heads (length n.prefixes) (is_left n w) rows
    (λ k p lt at. ap (λ (b : Bool). b || any_below (length heard) (λ i. is_some (cell None rows i p))) (planned_at n.prefixes fits.others k p lt (ap (λ (ps : List Block). slice_get ps k) (sym fits.prefixes) ∙ at)))
    (left_row n heard rows fits.others fits.prefixes differ grid) in
    ap (λ (ps : List Block). record { interfaces = length heard; prefixes = ps; words = cell None (kept_rows (length n.prefixes) rows); heard = w.heard }) left
    ∙ ap (λ (f : ℕ → Block → Option Word). record { interfaces = length heard; prefixes = filter (is_left n w) (heads rows); words = f; heard = w.heard })
    (fun_ext (λ i. fun_ext (tail_cell (length n.prefixes) rows (differ_all (heads rows) differ) i)))

-- ---- it is a table

distinct_of : (ps : List Block) → Differ ps → AreDistinct ps
distinct_of [] h j k p a b = absurd (cc a)
distinct_of (q ∷ ps) h zero zero p a b = refl
distinct_of (q ∷ ps) h zero (suc k) p a b =
    let same : q ≡ p = cc a in
    true-false (is_among q ps) (ap (λ (x : Block). is_among x ps) same ∙ is_among-item ps k p b) h.0
distinct_of (q ∷ ps) h (suc j) zero p a b =
    let same : q ≡ p = cc b in
    true-false (is_among q ps) (ap (λ (x : Block). is_among x ps) same ∙ is_among-item ps j p a) h.0
distinct_of (q ∷ ps) h (suc j) (suc k) p a b = ap suc (distinct_of ps h.1 j k p a b)

-- what is not among prefixes is not among those that are left
filter_none : (test : Block → Bool) (p : Block) (ps : List Block) → is_among p ps ≡ false → is_among p (filter test ps) ≡ false
filter_none test p [] h = h
filter_none test p (q ∷ ps) h = by (filter_none test p ps) (same_prefix p q) refl h (test q)
  where
    by : (is_among p ps ≡ false → is_among p (filter test ps) ≡ false) → (s : Bool) → same_prefix p q ≡ s → (s || is_among p ps) ≡ false → (b : Bool)
        → is_among p (cond b (q ∷ filter test ps) (filter test ps)) ≡ false
    by later true e h b = absurd (cc h)
    by later false e h true = ap (λ (s : Bool). s || is_among p (filter test ps)) e ∙ later h
    by later false e h false = later h

filter_differ : (test : Block → Bool) (ps : List Block) → Differ ps → Differ (filter test ps)
filter_differ test [] h = tt
filter_differ test (p ∷ ps) h = by (test p) (filter_differ test ps h.1)
  where
    by : (b : Bool) → Differ (filter test ps) → Differ (cond b (p ∷ filter test ps) (filter test ps))
    by true later = (filter_none test p ps h.0, later)
    by false later = later

filter_few : (test : Block → Bool) (ps : List Block) → length (filter test ps) ≤ length ps
filter_few test [] = omega arith
filter_few test (p ∷ ps) = by (test p) (filter_few test ps)
  where
    by : (b : Bool) → length (filter test ps) ≤ length ps → length (cond b (p ∷ filter test ps) (filter test ps)) ≤ suc (length ps)
    by true later = omega (arith, later)
    by false later = omega (arith, later)

pub filter_some : (test : Block → Bool) (p : Block) (ps : List Block) → test p ≡ true → is_among p ps ≡ true → is_among p (filter test ps) ≡ true
filter_some test p [] t h = h
filter_some test p (q ∷ ps) t h = by (filter_some test p ps t) (same_prefix p q) refl h (test q) refl
  where
    by : (is_among p ps ≡ true → is_among p (filter test ps) ≡ true) → (s : Bool) → same_prefix p q ≡ s → (s || is_among p ps) ≡ true → (b : Bool) → test q ≡ b → is_among p (cond b (q ∷ filter test ps) (filter test ps)) ≡ true
    by later true e h true k = ap (λ (s : Bool). s || is_among p (filter test ps)) e
    by later true e h false k = true-false (test q) (ap test (sym (same_is p q e)) ∙ t) k
    by later false e h true k = ap (λ (s : Bool). s || is_among p (filter test ps)) e ∙ later h
    by later false e h false k = later h

pub any_at : (n : ℕ) (f : ℕ → Bool) (i : ℕ) → i < n → f i ≡ true → any_below n f ≡ true
any_at zero f i lt h = absurd (omega (arith, lt))
any_at (suc n) f i lt h = by (n == i) refl (any_at n f i)
  where
    by : (b : Bool) → (n == i) ≡ b → (i < n → f i ≡ true → any_below n f ≡ true) → (f n || any_below n f) ≡ true
    by true e later = ap (λ (k : ℕ). f k || any_below n f) (eqb-true n i e) ∙ ap (λ (b : Bool). b || any_below n f) h
    by false e later = let apart : n ≢ i = grind (arith, nat_tests) in ap (λ (b : Bool). f n || b) (later (omega (arith, lt, apart)) h) ∙ or-true (f n)

some_word : (m : ℕ) (word : Option Word) → option_map (λ (x : Word). x.metric) word ≡ Some m → is_some word ≡ true
some_word m None h = absurd (cc h)
some_word m (Some x) h = refl

pub forgotten-valid : (n : Network) (w : Window) → IsState (shown w) → IsState (shown (forgotten n w))
forgotten-valid n w h = record {
  differ = distinct_of (filter (is_left n w) w.prefixes) (filter_differ (is_left n w) w.prefixes (differ_all w.prefixes h.differ));
  few = omega (arith, h.few, filter_few (is_left n w) w.prefixes);
  shown = λ i m p lt is.
      let old = h.shown i m p lt is in
      let here : is_left n w p ≡ true =
      ap (λ (b : Bool). is_among p n.prefixes || b) (any_at w.interfaces (λ j. is_some (w.words j p)) i lt (some_word m (w.words i p) is)) ∙ or-true (is_among p n.prefixes) in
      record { least = old.least; most = old.most; listed = filter_some (is_left n w) p w.prefixes here old.listed };
}

pub filter_append : (test : Block → Bool) (ps qs : List Block) → ((p : Block) → is_among p ps ≡ true → test p ≡ true) → filter test (ps ++ qs) ≡ ps ++ filter test qs
filter_append test [] qs h = refl
filter_append test (p ∷ ps) qs h =
    ap (λ (b : Bool). cond b (p ∷ filter test (ps ++ qs)) (filter test (ps ++ qs))) (h p (ap (λ (b : Bool). b || is_among p ps) (same_self p)))
    ∙ ap (λ (rs : List Block). p ∷ rs) (filter_append test ps qs (λ q k. h q (ap (λ (b : Bool). same_prefix q p || b) k ∙ or-true (same_prefix q p))))

pub forgotten-fits : (n : Network) (w : Window) → Fits n (shown w) → Fits n (shown (forgotten n w))
forgotten-fits n w fits = record {
  interfaces = fits.interfaces;
  others = filter (is_left n w) fits.others;
  prefixes = ap (filter (is_left n w)) fits.prefixes
      ∙ filter_append (is_left n w) n.prefixes fits.others (λ p h. ap (λ (b : Bool). b || any_below w.interfaces (λ i. is_some (w.words i p))) h);
  unplanned = λ k p is. filter_none (is_left n w) p fits.others (fits.unplanned k p is);
}
