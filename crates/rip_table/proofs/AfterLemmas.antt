-- What the join of a response's entries is, part by part.
use Rattle.std.proofs.Common.{◌≡◌, ℕ, ◌==◌, ◌<◌, Bool, true, false, cond, ◌&&◌, ◌||◌, not, List, [], ◌∷◌, ◌++◌, length, replicate, Option, Some, None, Result, Ok, Err, refl, sym, ap, subst, ◌∙◌, set}
use Rattle.std.proofs.Math.ListN.{length-set}
use Rattle.std.proofs.lemmas.Bool.{and_parts, eqb-true}
use mathlib.Core.Path.{fun_ext}
use Rattle.rip_plan.proofs.NumberingLemmas.{same_is, same_self}
use Rattle.rip_wire.specs.Prefix.{Block}
use Rattle.rip_wire.specs.declared.entry.Entry.{Entry}
use Rattle.rip_plan.specs.Passes.{same_prefix}
use Rattle.rip_table.specs.State.{IsState, State, is_among, with_prefix}
use Rattle.rip_table.specs.Joined.{is_foreign, is_past, joined_at, joined_entries, with_heard, with_metric}
use Rattle.rip_table.specs.Numbers.{AreFaultless}
use Rattle.rip_table.specs.Rows.{AreMade, AreWritten, IsMade, IsWritten, Rows, cell, grid_state, heads, shown_after, with_row, with_rows}
use Rattle.rip_table.specs.declared.error.TableError.TheVariants.{Changed, NextHop, TooManyPrefixes}
use Rattle.rip_table.proofs.TruthLemmas.{or-true, then-split}
use Rattle.rip_table.proofs.PrefixListLemmas.{is_among-append}
use Rattle.rip_table.proofs.RowLemmas.{heads-append}
use Rattle.rip_table.proofs.CheckLemmas.{heard_valid}
use Rattle.rip_table.proofs.CellLemmas.{cells-with_rows}
use Rattle.rip_table.proofs.TakingLemmas.{heard-with}
use Rattle.rip_plan.specs.Network.{Network}

-- the prefixes with those of entries
abbrev pub prefixes_after : List Block → List Entry → List Block
prefixes_after ps [] = ps
prefixes_after ps (e ∷ es) = prefixes_after (with_prefix e.prefix ps) es

abbrev pub after_all : State → ℕ → List Entry → State
after_all s i es = record { interfaces = s.interfaces; prefixes = prefixes_after s.prefixes es; shows = shown_after (λ m. Some m) s.shows i es; heard = s.heard }

-- what the interface showed is of a prefix of the list
abbrev pub Listed : State → ℕ → Type 0
Listed s i = (p : Block) (m : ℕ) → s.shows i p ≡ Some m → is_among p s.prefixes ≡ true

pub kept_among : (ps : List Block) (p q : Block) → is_among q ps ≡ true → is_among q (with_prefix p ps) ≡ true
kept_among ps p q h = by (is_among p ps)
  where
    by : (b : Bool) → is_among q (cond b ps (ps ++ p ∷ [])) ≡ true
    by true = h
    by false = is_among-append q ps (p ∷ []) ∙ ap (λ (b : Bool). b || is_among q (p ∷ [])) h

pub new_among : (ps : List Block) (p : Block) → is_among p (with_prefix p ps) ≡ true
new_among ps p = by (is_among p ps) refl
  where
    by : (b : Bool) → is_among p ps ≡ b → is_among p (cond b ps (ps ++ p ∷ [])) ≡ true
    by true h = h
    by false h = is_among-append p ps (p ∷ []) ∙ ap (λ (b : Bool). is_among p ps || (b || false)) (same_self p) ∙ or-true (is_among p ps)

pub listed_with : (s : State) (i j m : ℕ) (p : Block) → Listed s j → Listed (with_metric s i p m) j
listed_with s i j m p listed q v h = by ((j == i) && same_prefix q p) refl h
  where
    by : (b : Bool) → ((j == i) && same_prefix q p) ≡ b → cond b (Some m) (s.shows j q) ≡ Some v → is_among q (with_prefix p s.prefixes) ≡ true
    by true t e = ap (λ (r : Block). is_among r (with_prefix p s.prefixes)) (same_is q p (and_parts (j == i) (same_prefix q p) t).1) ∙ new_among s.prefixes p
    by false t e = kept_among s.prefixes p q (listed q v e)

-- a metric that stands already adds nothing
same_with : (s : State) (i m : ℕ) (p : Block) → Listed s i → s.shows i p ≡ Some m → s ≡ with_metric s i p m
same_with s i m p listed here =
    ap (λ (ps : List Block). record { interfaces = s.interfaces; prefixes = ps; shows = s.shows; heard = s.heard })
    (sym (ap (λ (b : Bool). cond b s.prefixes (s.prefixes ++ p ∷ [])) (listed p m here)))
    ∙ ap (λ (f : ℕ → Block → Option ℕ). record { interfaces = s.interfaces; prefixes = with_prefix p s.prefixes; shows = f; heard = s.heard })
    (fun_ext (λ j. fun_ext (λ q. at j q ((j == i) && same_prefix q p) refl)))
  where
    at : (j : ℕ) (q : Block) (b : Bool) → ((j == i) && same_prefix q p) ≡ b → s.shows j q ≡ cond b (Some m) (s.shows j q)
    at j q true t =
        let parts = and_parts (j == i) (same_prefix q p) t in
        ap (λ (k : ℕ). s.shows k q) (eqb-true j i parts.0) ∙ ap (s.shows i) (same_is q p parts.1) ∙ here
    at j q false t = refl

pub joined_is : (net : Network) (i : ℕ) (s u : State) (e : Entry) → Listed s i → (o : Option ℕ) → s.shows i e.prefix ≡ o → joined_at net i s e o ≡ Ok u → u ≡ with_metric s i e.prefix e.metric
joined_is net i s u e listed None is h = by (is_foreign net i e) (is_past s e.prefix) h
  where
    by : (f b : Bool) → cond f (Err (NextHop e.prefix)) (cond b (Err TooManyPrefixes) (Ok (with_metric s i e.prefix e.metric))) ≡ Ok u → u ≡ with_metric s i e.prefix e.metric
    by true b h = absurd (cc h)
    by false true h = absurd (cc h)
    by false false h = let same : with_metric s i e.prefix e.metric ≡ u = cc h in sym same
joined_is net i s u e listed (Some old) is h = by (old == e.metric) refl (is_foreign net i e) h
  where
    by : (c : Bool) → (old == e.metric) ≡ c → (f : Bool) → cond (not c) (Err (Changed e.prefix old e.metric)) (cond f (Err (NextHop e.prefix)) (Ok s)) ≡ Ok u → u ≡ with_metric s i e.prefix e.metric
    by false t f h = absurd (cc h)
    by true t true h = absurd (cc h)
    by true t false h =
        let same : s ≡ u = cc h in
        sym same ∙ same_with s i e.metric e.prefix listed (is ∙ ap (λ (m : ℕ). Some m) (eqb-true old e.metric t))

-- the join of entries without a fault
pub joined-after : (net : Network) (i : ℕ) (s t : State) (es : List Entry) → Listed s i → joined_entries net i s es ≡ Ok t → t ≡ after_all s i es
joined-after net i s t [] listed h = let same : s ≡ t = cc h in sym same
joined-after net i s t (e ∷ es) listed h =
    let split = then-split (joined_at net i s e (s.shows i e.prefix)) (λ u. joined_entries net i u es) t h in
    let is = joined_is net i s split.0 e listed (s.shows i e.prefix) refl split.1 in
    joined-after net i (with_metric s i e.prefix e.metric) t es (listed_with s i i e.metric e.prefix listed) (ap (λ (u : State). joined_entries net i u es) (sym is) ∙ split.2)

heads_with : {Cell : Type 0} (blank : Cell) (w : ℕ) (rows : Rows Cell) (p : Block) (b : Bool) → heads (cond b rows (rows ++ (p, replicate w blank) ∷ [])) ≡ cond b (heads rows) (heads rows ++ p ∷ [])
heads_with blank w rows p true = refl
heads_with blank w rows p false = heads-append rows (p, replicate w blank)

-- the prefixes of the rows that were added
pub heads-with_rows : {Cell : Type 0} (blank : Cell) (w : ℕ) (rows : Rows Cell) (es : List Entry) → heads (with_rows blank w rows es) ≡ prefixes_after (heads rows) es
heads-with_rows blank w rows [] = refl
heads-with_rows blank w rows (e ∷ es) = heads-with_rows blank w (with_row blank w rows e.prefix) es ∙ ap (λ (ps : List Block). prefixes_after ps es) (heads_with blank w rows e.prefix (is_among e.prefix (heads rows)))

-- the cells that entries made, in rows that were added
pub made-is : {Cell : Type 0} (blank : Cell) (made : ℕ → Cell) (w i : ℕ) (es : List Entry) (rows grown new : Rows Cell) → grown ≡ with_rows blank w rows es → heads new ≡ heads grown
    → cell blank new ≡ shown_after made (cell blank grown) i es → AreMade blank made w i es rows new
made-is blank made w i es rows grown new grows names cells = record {
  heads = names ∙ ap heads grows;
  cells = cells ∙ ap (λ (f : ℕ → Block → _). shown_after made f i es) (ap (cell blank) grows ∙ cells-with_rows blank w rows es);
}

-- what was written to the grid is the join
pub written-is : (net : Network) (i w : ℕ) (heard : List Bool) (rows new : Rows (Option ℕ)) (es : List Entry) (t : State) → i < length heard → IsState (grid_state heard rows)
    → joined_entries net i (grid_state heard rows) es ≡ Ok t → AreMade None (λ m. Some m) w i es rows new → grid_state heard new ≡ t
written-is net i w heard rows new es t lt valid joins made =
    let s = grid_state heard rows in
    let prefixes : heads new ≡ prefixes_after (heads rows) es = made.heads ∙ heads-with_rows None w rows es in
    let after : t ≡ after_all s i es = joined-after net i s t es (λ p m h. (valid.shown i m p lt h).listed) joins in
    ap (λ (ps : List Block). record { interfaces = length heard; prefixes = ps; shows = cell None new; heard = s.heard }) prefixes
    ∙ ap (λ (f : ℕ → Block → Option ℕ). record { interfaces = length heard; prefixes = prefixes_after (heads rows) es; shows = f; heard = s.heard }) made.cells
    ∙ sym after

-- what was made of the entries of an interface was written
pub made-written : {E : Type 0} (i w : ℕ) (es : List Entry) (old new : Rows (Option ℕ)) (r : Result (Unit {0}) E) → IsMade None (λ m. Some m) w i es old new r → IsWritten i es old new r
made-written i w es old new (Ok u) made = λ heard net t lt valid joins. written-is net i w heard old new es t lt valid joins made
made-written i w es old new (Err e) made = made

-- marking an interface as heard
pub grid_state-heard : (heard : List Bool) (rows : Rows (Option ℕ)) (i : ℕ) → i < length heard → grid_state (set heard i true) rows ≡ with_heard (grid_state heard rows) i
grid_state-heard heard rows i lt =
    ap (λ (n : ℕ). record { interfaces = n; prefixes = heads rows; shows = cell None rows; heard = (grid_state (set heard i true) rows).heard }) (length-set heard i true)
    ∙ ap (λ (f : ℕ → Bool). record { interfaces = length heard; prefixes = heads rows; shows = cell None rows; heard = f }) (heard-with heard i lt)

-- what was taken is the join of the entries
pub taken-is : (net : Network) (i : ℕ) (heard : List Bool) (rows new : Rows (Option ℕ)) (es : List Entry) → i < length heard → IsState (grid_state heard rows)
    → (checked : AreFaultless net i (grid_state heard rows) es) → AreWritten i es rows new → grid_state (set heard i true) new ≡ checked.0
taken-is net i heard rows new es lt valid checked written =
    let same = grid_state-heard heard rows i lt in
    let within : i < length (set heard i true) = rw length-set lt in
    written (set heard i true) net checked.0 within (subst IsState (sym same) (heard_valid (grid_state heard rows) i valid)) (ap (λ (s : State). joined_entries net i s es) same ∙ checked.1)
