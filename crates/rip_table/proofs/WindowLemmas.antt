-- What a response makes of a table that forgets, and a second.
use Rattle.std.proofs.Common.{◌≡◌, ℕ, zero, suc, ◌-◌, ◌==◌, ◌<◌, nat_lt, Bool, true, false, cond, ◌&&◌, List, [], ◌∷◌, length, map, replicate, set, get_or, Option, Some, None, Result, Ok, Err, refl, sym, ap, subst, ◌∙◌, ◌≢◌, arith}
use Rattle.std.proofs.Math.ListN.{length-set}
use Rattle.std.specs.Prelude.{is_ok, option_map}
use Rattle.std.proofs.lemmas.Bool.{eqb-true}
use Rattle.std.proofs.lemmas.Bool.Decides.{nat_tests}
use mathlib.Core.Path.{fun_ext}
use Rattle.rip_wire.specs.Prefix.{Block}
use Rattle.rip_wire.specs.Message.{Message, request, response}
use Rattle.rip_wire.specs.declared.entry.Entry.{Entry}
use Rattle.rip_plan.specs.Network.{Network}
use Rattle.rip_plan.specs.Relations.{IsLawful}
use Rattle.rip_plan.specs.Passes.{same_prefix}
use Rattle.rip_table.specs.State.{Fits, IsShown, IsState, State, is_among, new_state}
use Rattle.rip_table.specs.Joined.{joined_message, with_heard}
use Rattle.rip_table.specs.Numbers.{AreFaultless, IsChecked}
use Rattle.rip_table.specs.Rows.{AreMade, IsGrid, Rows, cell, heads, planned_rows, shown_after}
use Rattle.rip_table.specs.Window.{Tells, Window, Word, new_window, passed, passed_word, shown, told_message, window_after, with_words, without_shown, word_or}
use Rattle.rip_table.specs.WindowRows.{new_word, passed_rows, window_of}
use Rattle.rip_table.specs.declared.error.TableError.{TableError}
use Rattle.rip_table.specs.declared.error.TableError.TheVariants.{Changed, NextHop, TooManyPrefixes, Memory}
use Rattle.rip_table.proofs.AfterLemmas.{after_all, heads-with_rows, joined-after, kept_among, prefixes_after}
use Rattle.rip_table.proofs.CellLemmas.{cell-planned, set_at}
use Rattle.rip_table.proofs.RowLemmas.{grid-tail, grid_cons, heads-planned, length-empty}
use Rattle.rip_table.proofs.FitLemmas.{Fits-new, Fits-taken}
use Rattle.rip_table.proofs.NewLemmas.{empty-is}
use Rattle.rip_table.proofs.TakingLemmas.{entries-memory, is_memory_fault}
use Rattle.std.specs.List.{slice_get}

pub same_number : (i : ℕ) → (i == i) ≡ true
same_number i = by (i == i) refl
  where
    by : (b : Bool) → (i == i) ≡ b → (i == i) ≡ true
    by true e = e
    by false e = let apart : i ≢ i = grind (arith, nat_tests) in absurd (apart refl)

-- ---- a response

-- the words that entries made are those of the metrics that they made, before which nothing was shown
pub words_made : (seconds i : ℕ) (old : ℕ → Block → Option Word) (es : List Entry) (f : ℕ → Block → Option ℕ) (g : ℕ → Block → Option Word)
    → ((j : ℕ) (q : Block) → g j q ≡ cond (j == i) (word_or seconds (f i q) (old i q)) (old j q))
    → (j : ℕ) (q : Block) → shown_after (new_word seconds) g i es j q ≡ cond (j == i) (word_or seconds (shown_after (λ m. Some m) f i es i q) (old i q)) (old j q)
words_made seconds i old [] f g h j q = h j q
words_made seconds i old (e ∷ es) f g h j q =
    words_made seconds i old es (λ k r. cond ((k == i) && same_prefix r e.prefix) (Some e.metric) (f k r))
    (λ k r. cond ((k == i) && same_prefix r e.prefix) (new_word seconds e.metric) (g k r))
    (λ k r. by (k == i) (i == i) (same_number i) (same_prefix r e.prefix) (g k r) (f i r) (old i r) (old k r) (h k r)) j q
  where
    by : (b c : Bool) → c ≡ true → (s : Bool) (here : Option Word) (metric : Option ℕ) (before other : Option Word)
        → here ≡ cond b (word_or seconds metric before) other
        → cond (b && s) (new_word seconds e.metric) here ≡ cond b (word_or seconds (cond (c && s) (Some e.metric) metric) before) other
    by b false k s here metric before other h = absurd (cc k)
    by true true k true here metric before other h = refl
    by true true k false here metric before other h = h
    by false true k true here metric before other h = h
    by false true k false here metric before other h = h

-- no interface that is as if it had shown nothing shows anything
pub nothing_shown : (i : ℕ) (s : State) (p : Block) → (without_shown i s).shows i p ≡ None
nothing_shown i s p = ap (λ (b : Bool). cond b None (s.shows i p)) (same_number i)

-- with no metric, the words are those that were there
pub none_made : (seconds i : ℕ) (w : Window) (j : ℕ) (q : Block) → w.words j q ≡ cond (j == i) (word_or seconds ((without_shown i (shown w)).shows i q) (w.words i q)) (w.words j q)
none_made seconds i w j q = by (j == i) refl
  where
    by : (b : Bool) → (j == i) ≡ b → w.words j q ≡ cond b (word_or seconds ((without_shown i (shown w)).shows i q) (w.words i q)) (w.words j q)
    by true e = ap (λ (k : ℕ). w.words k q) (eqb-true j i e) ∙ sym (ap (λ (m : Option ℕ). word_or seconds m (w.words i q)) (nothing_shown i (shown w) q))
    by false e = refl

after_unshown : (net : Network) (i : ℕ) (s : State) (es : List Entry) → (checked : AreFaultless net i (without_shown i s) es)
    → checked.0 ≡ after_all (with_heard (without_shown i s) i) i es
after_unshown net i s es checked =
    joined-after net i (with_heard (without_shown i s) i) checked.0 es (λ p m h. let k : None ≡ Some m = sym (nothing_shown i s p) ∙ h in absurd (cc k)) checked.1

-- what a response made is what it is to make
pub told-is : (net : Network) (seconds i w : ℕ) (heard : List ℕ) (rows new : Rows (Option Word)) (es : List Entry) → i < length heard
    → (checked : AreFaultless net i (without_shown i (shown (window_of heard rows))) es)
    → AreMade None (new_word seconds) w i es rows new → window_of (set heard i seconds) new ≡ with_words seconds i (window_of heard rows) checked.0
told-is net seconds i w heard rows new es lt checked made =
    let old = window_of heard rows in
    let t = checked.0 in
    let after = after_unshown net i (shown old) es checked in
    let listed : heads new ≡ t.prefixes = made.heads ∙ heads-with_rows None w rows es ∙ sym (ap (λ (u : State). u.prefixes) after) in
    let unshown = without_shown i (shown old) in
    let said : (j : ℕ) (q : Block) → cell None new j q ≡ cond (j == i) (word_or seconds (t.shows i q) (cell None rows i q)) (cell None rows j q) =
    λ j q. ap (λ (f : ℕ → Block → Option Word). f j q) made.cells ∙ words_made seconds i (cell None rows) es unshown.shows (cell None rows) (none_made seconds i old) j q
    ∙ ap (λ (u : State). cond (j == i) (word_or seconds (u.shows i q) (cell None rows i q)) (cell None rows j q)) (sym after) in
    let marks : ◌≡◌ {A = ℕ → ℕ} (λ j. get_or (set heard i seconds) j 0) (λ j. cond (j == i) seconds (get_or heard j 0)) = fun_ext (λ j. set_at 0 heard i j seconds lt) in
    ap (λ (n : ℕ). record { interfaces = n; prefixes = heads new; words = cell None new; heard = λ j. get_or (set heard i seconds) j 0 }) (length-set heard i seconds)
    ∙ ap (λ (ps : List Block). record { interfaces = length heard; prefixes = ps; words = cell None new; heard = λ j. get_or (set heard i seconds) j 0 }) listed
    ∙ ap (λ (f : ℕ → Block → Option Word). record { interfaces = length heard; prefixes = t.prefixes; words = f; heard = λ j. get_or (set heard i seconds) j 0 }) (fun_ext (λ j. fun_ext (said j)))
    ∙ ap (λ (f : ℕ → ℕ). record { interfaces = length heard; prefixes = t.prefixes; words = (with_words seconds i old t).words; heard = f }) marks

kept_after : (es : List Entry) (ps : List Block) (q : Block) → is_among q ps ≡ true → is_among q (prefixes_after ps es) ≡ true
kept_after [] ps q h = h
kept_after (e ∷ es) ps q h = kept_after es _ q (kept_among ps e.prefix q h)

metric_of : (seconds m : ℕ) (new : Option ℕ) (before : Option Word) → option_map (λ (x : Word). x.metric) (word_or seconds new before) ≡ Some m
    → (P : Type 0) → (new ≡ Some m → P) → (option_map (λ (x : Word). x.metric) before ≡ Some m → P) → P
metric_of seconds m None before h P new old = old h
metric_of seconds m (Some x) before h P new old = new h

-- it is a table
pub told-valid : (net : Network) (seconds i : ℕ) (w : Window) (es : List Entry) → i < w.interfaces → IsState (shown w)
    → (checked : AreFaultless net i (without_shown i (shown w)) es) → IsState (shown (with_words seconds i w checked.0))
told-valid net seconds i w es lt valid checked = record {
  differ = checked.2.differ;
  few = checked.2.few;
  shown = λ j m p within h. by j m p within (j == i) h;
}
  where
    t : State
    t = checked.0

    grown : (q : Block) → is_among q w.prefixes ≡ true → is_among q t.prefixes ≡ true
    grown q h = ap (λ (u : State). is_among q u.prefixes) (after_unshown net i (shown w) es checked) ∙ kept_after es w.prefixes q h

    width : t.interfaces ≡ w.interfaces
    width = ap (λ (u : State). u.interfaces) (after_unshown net i (shown w) es checked)

    before : (j m : ℕ) (p : Block) → j < w.interfaces → option_map (λ (x : Word). x.metric) (w.words j p) ≡ Some m → IsShown (shown (with_words seconds i w t)) p m
    before j m p within h = let old = valid.shown j m p within h in record { least = old.least; most = old.most; listed = grown p old.listed }

    by : (j m : ℕ) (p : Block) → j < w.interfaces → (b : Bool)
        → option_map (λ (x : Word). x.metric) (cond b (word_or seconds (t.shows i p) (w.words i p)) (w.words j p)) ≡ Some m → IsShown (shown (with_words seconds i w t)) p m
    by j m p within false h = before j m p within h
    by j m p within true h =
        metric_of seconds m (t.shows i p) (w.words i p) h (IsShown (shown (with_words seconds i w t)) p m)
        (λ e. let new = checked.2.shown i m p (omega (arith, lt, width)) e in record { least = new.least; most = new.most; listed = new.listed })
        (before i m p lt)

response_told : (net : Network) (seconds i : ℕ) (w : Window) (m : Message) (es : List Entry) → m ≡ response es
    → told_message net seconds i w m ≡ window_after seconds i w (joined_message net i (without_shown i (shown w)) (response es))
response_told net seconds i w m es is = ap (told_message net seconds i w) is

refused_as : (net : Network) (seconds i : ℕ) (w : Window) (m : Message) (es : List Entry) (e : TableError) → m ≡ response es
    → joined_message net i (without_shown i (shown w)) (response es) ≡ Err e → told_message net seconds i w m ≡ Err e
refused_as net seconds i w m es e is h = response_told net seconds i w m es is ∙ ap (window_after seconds i w) h

memory_told : (net : Network) (seconds i : ℕ) (w : Window) (m : Message) (es : List Entry) → m ≡ response es
    → is_ok (joined_message net i (without_shown i (shown w)) m) ≡ true → is_ok (told_message net seconds i w m) ≡ true
memory_told net seconds i w m es is h =
    ap is_ok (response_told net seconds i w m es is)
    ∙ ok_after (joined_message net i (without_shown i (shown w)) (response es)) (sym (ap (λ (x : Message). is_ok (joined_message net i (without_shown i (shown w)) x)) is) ∙ h)
  where
    ok_after : (r : Result State TableError) → is_ok r ≡ true → is_ok (window_after seconds i w r) ≡ true
    ok_after (Ok t) h = h
    ok_after (Err e) h = h

-- where memory is refused to a response without a bad entry that brings a prefix
pub told-memory : (net : Network) (seconds i : ℕ) (w new : Window) (m : Message) (es : List Entry) → m ≡ response es
    → AreFaultless net i (without_shown i (shown w)) es → (k : ℕ) (e : Entry) → slice_get es k ≡ Some e → is_among e.prefix w.prefixes ≡ false → new ≡ w → Tells net seconds i w m new (Err Memory)
told-memory net seconds i w new m es is checked k e at lacks same = (
  same,
  record {
    entries = es;
    says = is;
    good = memory_told net seconds i w m es is (ap (λ (x : Message). is_ok (joined_message net i (without_shown i (shown w)) x)) is ∙ ap is_ok checked.1);
    number = k;
    entry = e;
    at = at;
    lacks = lacks;
  },
)

-- what is refused of a table as if the interface had shown nothing is refused
pub told-refused : (net : Network) (seconds i : ℕ) (w : Window) (m : Message) (es : List Entry) (e : TableError) → m ≡ response es
    → IsChecked net i (without_shown i (shown w)) es (Err e) → Tells net seconds i w m w (Err e)
told-refused net seconds i w m es Memory is h =
    let k : true ≡ false = sym (ap is_memory_fault h) ∙ entries-memory net i (with_heard (without_shown i (shown w)) i) es in absurd (cc k)
told-refused net seconds i w m es (Changed p x y) is h = (refl, refused_as net seconds i w m es (Changed p x y) is h)
told-refused net seconds i w m es (NextHop p) is h = (refl, refused_as net seconds i w m es (NextHop p) is h)
told-refused net seconds i w m es TooManyPrefixes is h = (refl, refused_as net seconds i w m es TooManyPrefixes is h)

pub told-taken : (net : Network) (seconds i : ℕ) (w new : Window) (m : Message) (es : List Entry) → m ≡ response es
    → (checked : AreFaultless net i (without_shown i (shown w)) es) → new ≡ with_words seconds i w checked.0 → Tells net seconds i w m new (Ok tt)
told-taken net seconds i w new m es is checked same =
    response_told net seconds i w m es is ∙ ap (window_after seconds i w) checked.1 ∙ ap (λ (u : Window). Ok u) (sym same)

-- ---- a second

passed_metric : (m : ℕ) (word : Option Word) → option_map (λ (x : Word). x.metric) (passed_word word) ≡ Some m → option_map (λ (x : Word). x.metric) word ≡ Some m
passed_metric m None h = h
passed_metric m (Some x) h = by (nat_lt 1 x.left) h
  where
    by : (b : Bool) → option_map (λ (y : Word). y.metric) (cond b (Some (record { metric = x.metric; left = x.left - 1 })) None) ≡ Some m → Some x.metric ≡ Some m
    by true e = e
    by false e = absurd (cc e)

pub passed-valid : (w : Window) → IsState (shown w) → IsState (shown (passed w))
passed-valid w h = record {
  differ = h.differ;
  few = h.few;
  shown = λ i m p lt is. let old = h.shown i m p lt (passed_metric m (w.words i p) is) in record { least = old.least; most = old.most; listed = old.listed };
}

heads_passed : (rows : Rows (Option Word)) → heads (passed_rows rows) ≡ heads rows
heads_passed [] = refl
heads_passed (row ∷ rows) = ap (λ (ps : List Block). row.0 ∷ ps) (heads_passed rows)

at_passed : (cells : List (Option Word)) (i : ℕ) → get_or (map passed_word cells) i None ≡ passed_word (get_or cells i None)
at_passed [] i = refl
at_passed (c ∷ cells) zero = refl
at_passed (c ∷ cells) (suc i) = at_passed cells i

cell_passed : (rows : Rows (Option Word)) (i : ℕ) (p : Block) → cell None (passed_rows rows) i p ≡ passed_word (cell None rows i p)
cell_passed [] i p = refl
cell_passed (row ∷ rows) i p = by (same_prefix p row.0) (cell_passed rows i p)
  where
    by : (b : Bool) → cell None (passed_rows rows) i p ≡ passed_word (cell None rows i p)
        → cond b (get_or (map passed_word row.1) i None) (cell None (passed_rows rows) i p) ≡ passed_word (cond b (get_or row.1 i None) (cell None rows i p))
    by true later = at_passed row.1 i
    by false later = later

mark_passed : (heard : List ℕ) (i : ℕ) → get_or (map (λ left. left - 1) heard) i 0 ≡ get_or heard i 0 - 1
mark_passed [] i = refl
mark_passed (h ∷ heard) zero = refl
mark_passed (h ∷ heard) (suc i) = mark_passed heard i

pub length_passed : (heard : List ℕ) → length (map (λ left. left - 1) heard) ≡ length heard
length_passed [] = refl
length_passed (h ∷ heard) = ap suc (length_passed heard)

length_words : (cells : List (Option Word)) → length (map passed_word cells) ≡ length cells
length_words [] = refl
length_words (c ∷ cells) = ap suc (length_words cells)

-- the rows and marks a second later mean what is there a second later
pub passed-is : (heard : List ℕ) (rows : Rows (Option Word)) → window_of (map (λ left. left - 1) heard) (passed_rows rows) ≡ passed (window_of heard rows)
passed-is heard rows =
    ap (λ (n : ℕ). record { interfaces = n; prefixes = heads (passed_rows rows); words = cell None (passed_rows rows); heard = λ i. get_or (map (λ left. left - 1) heard) i 0 }) (length_passed heard)
    ∙ ap (λ (ps : List Block). record { interfaces = length heard; prefixes = ps; words = cell None (passed_rows rows); heard = λ i. get_or (map (λ left. left - 1) heard) i 0 }) (heads_passed rows)
    ∙ ap (λ (f : ℕ → Block → Option Word). record { interfaces = length heard; prefixes = heads rows; words = f; heard = λ i. get_or (map (λ left. left - 1) heard) i 0 })
    (fun_ext (λ i. fun_ext (cell_passed rows i)))
    ∙ ap (λ (f : ℕ → ℕ). record { interfaces = length heard; prefixes = heads rows; words = λ i p. passed_word (cell None rows i p); heard = f }) (fun_ext (mark_passed heard))

pub passed-grid : (n : ℕ) (rows : Rows (Option Word)) → IsGrid n rows → IsGrid n (passed_rows rows)
passed-grid n [] h = h
passed-grid n (row ∷ rows) h = grid_cons n (row.0, map passed_word row.1) (passed_rows rows) (length_words row.1 ∙ h 0 row (omega arith)) (passed-grid n rows (grid-tail n row rows h))

-- ---- it fits the plan

pub same_fits : (n : Network) (s t : State) → t.interfaces ≡ s.interfaces → t.prefixes ≡ s.prefixes → Fits n s → Fits n t
same_fits n s t interfaces prefixes fits =
    record { interfaces = interfaces ∙ fits.interfaces; others = fits.others; prefixes = prefixes ∙ fits.prefixes; unplanned = fits.unplanned }

after_fits : (n : Network) (seconds i : ℕ) (w new : Window) (es : List Entry) (r : Result State TableError) → joined_message n i (without_shown i (shown w)) (response es) ≡ r
    → Fits n (shown w) → window_after seconds i w r ≡ Ok new → Fits n (shown new)
after_fits n seconds i w new es (Err e) joined fits h = absurd (cc h)
after_fits n seconds i w new es (Ok t) joined fits h =
    let unshown : Fits n (without_shown i (shown w)) = same_fits n (shown w) (without_shown i (shown w)) refl refl fits in
    let made : Fits n t = Fits-taken n i (without_shown i (shown w)) t (response es) (Ok tt) unshown joined in
    let same : with_words seconds i w t ≡ new = cc h in
    subst (λ (v : Window). Fits n (shown v)) same (record { interfaces = fits.interfaces; others = made.others; prefixes = made.prefixes; unplanned = made.unplanned })

message_fits : (n : Network) (seconds i : ℕ) (w new : Window) (m : Message) → Fits n (shown w) → told_message n seconds i w m ≡ Ok new → Fits n (shown new)
message_fits n seconds i w new request fits h = let same : w ≡ new = cc h in subst (λ (v : Window). Fits n (shown v)) same fits
message_fits n seconds i w new (response es) fits h = after_fits n seconds i w new es (joined_message n i (without_shown i (shown w)) (response es)) refl fits h

kept_fits : (n : Network) (w new : Window) → Fits n (shown w) → new ≡ w → Fits n (shown new)
kept_fits n w new fits same = subst (λ (v : Window). Fits n (shown v)) (sym same) fits

pub Fits-told : (n : Network) (seconds i : ℕ) (w new : Window) (m : Message) (r : Result (Unit {0}) TableError) → Fits n (shown w) → Tells n seconds i w m new r → Fits n (shown new)
Fits-told n seconds i w new m (Ok u) fits h = message_fits n seconds i w new m fits h
Fits-told n seconds i w new m (Err Memory) fits h = kept_fits n w new fits h.0
Fits-told n seconds i w new m (Err (Changed p x y)) fits h = kept_fits n w new fits h.0
Fits-told n seconds i w new m (Err (NextHop p)) fits h = kept_fits n w new fits h.0
Fits-told n seconds i w new m (Err TooManyPrefixes) fits h = kept_fits n w new fits h.0

-- ---- the table of a plan in which nothing was heard

zero_at : (n i : ℕ) → ◌≡◌ {A = ℕ} (get_or (replicate n 0) i 0) 0
zero_at zero i = refl
zero_at (suc n) zero = refl
zero_at (suc n) (suc i) = zero_at n i

pub window-new : (n : Network) → window_of (replicate (length n.interfaces) 0) (planned_rows None (length n.interfaces) n.prefixes) ≡ new_window n
window-new n =
    let w = length n.interfaces in
    let rows : Rows (Option Word) = planned_rows None w n.prefixes in
    ap (λ (k : ℕ). record { interfaces = k; prefixes = heads rows; words = cell None rows; heard = λ i. get_or (replicate w 0) i 0 }) (length-empty 0 w)
    ∙ ap (λ (ps : List Block). record { interfaces = w; prefixes = ps; words = cell None rows; heard = λ i. get_or (replicate w 0) i 0 }) (heads-planned None w n.prefixes)
    ∙ ap (λ (f : ℕ → Block → Option Word). record { interfaces = w; prefixes = n.prefixes; words = f; heard = λ i. get_or (replicate w 0) i 0 }) (fun_ext (λ i. fun_ext (λ p. cell-planned None w n.prefixes i p)))
    ∙ ap (λ (f : ℕ → ℕ). record { interfaces = w; prefixes = n.prefixes; words = λ i p. None; heard = f }) (fun_ext (zero_at w))

pub new-fits : (n : Network) → Fits n (shown (new_window n))
new-fits n = same_fits n (new_state n) (shown (new_window n)) refl refl (Fits-new n (new_state n) refl)

pub new-valid : (n : Network) → IsLawful n → IsState (shown (new_window n))
new-valid n lawful = empty-is n lawful (shown (new_window n)) refl (λ i p. refl)
