-- Numbers of prefixes, and what entries say of a prefix.
use Rattle.std.proofs.Common.{inl, inr, take, ◌≡◌, ℕ, zero, suc, ◌+◌, ◌<◌, Bool, true, false, cond, ◌||◌, not, List, [], ◌∷◌, ◌++◌, length, Option, Some, None, is_some, is_none, refl, sym, ap, ◌∙◌, arith}
use Rattle.std.specs.List.{slice_get, slice_index_or, list_any, position_from}
use Rattle.std.specs.Option.{option_or}
use Rattle.std.proofs.lemmas.Option.{get_or_from_slice_get, slice_get_cases, slice_get_within}
use Rattle.std.proofs.lemmas.List.Folds.{list_any-append}
use Rattle.rip_plan.proofs.NumberingLemmas.{same_is}
use Rattle.rip_wire.specs.Prefix.{Block}
use Rattle.rip_wire.specs.Message.{Message, request, response}
use Rattle.rip_wire.specs.Datagram.{entries_of, kind_of}
use Rattle.rip_wire.specs.declared.datagram.Kind.TheVariants.{Response}
use Rattle.rip_wire.specs.declared.entry.Entry.{Entry}
use Rattle.rip_plan.specs.Network.{number_of_prefix}
use Rattle.rip_plan.specs.Passes.{same_prefix}
use Rattle.rip_table.specs.State.{IsState, State, is_among}
use Rattle.rip_table.specs.Numbers.{AreNumbers, metric_among}
use Rattle.rip_table.proofs.TruthLemmas.{or-false}
use Rattle.rip_table.proofs.PrefixListLemmas.{is_among-item, take-more}

pub true-false : {A : Type 0} (b : Bool) → b ≡ true → b ≡ false → A
true-false true h k = absurd (cc k)
true-false false h k = absurd (cc h)

-- the number is that of an item that passes
pub placed : {A : Type 0} (test : A → Bool) (ps : List A) (n k : ℕ) → position_from test n ps ≡ Some k → (i : ℕ) × (p : A) × (k ≡ n + i) × (slice_get ps i ≡ Some p) × (test p ≡ true)
placed test [] n k h = absurd (cc h)
placed {A} test (q ∷ ps) n k h = by (test q) refl h (λ e. placed test ps (n + 1) k e)
  where
    by : (b : Bool) → test q ≡ b → cond b (Some n) (position_from test (n + 1) ps) ≡ Some k
        → (position_from test (n + 1) ps ≡ Some k → (i : ℕ) × (p : A) × (k ≡ n + 1 + i) × (slice_get ps i ≡ Some p) × (test p ≡ true))
        → (i : ℕ) × (p : A) × (k ≡ n + i) × (slice_get (q ∷ ps) i ≡ Some p) × (test p ≡ true)
    by true t e later = let same : n ≡ k = cc e in (0, q, omega (arith, same), refl, t)
    by false t e later =
        let found = later e in
        let at : slice_get (q ∷ ps) (suc found.0) ≡ Some found.1 = found.3 in
        (suc found.0, found.1, omega (arith, found.2), at, found.4)

pub number-at : (p : Block) (ps : List Block) (k : ℕ) → number_of_prefix p ps ≡ Some k → slice_get ps k ≡ Some p
number-at p ps k h =
    let found = placed (same_prefix p) ps 0 k h in
    let here : k ≡ found.0 = omega (arith, found.2) in
    let same : p ≡ found.1 = same_is p found.1 found.4 in
    ap (slice_get ps) here ∙ found.3 ∙ ap (λ (q : Block). Some q) (sym same)

missing : (p : Block) (ps : List Block) (n : ℕ) → position_from (same_prefix p) n ps ≡ None → is_among p ps ≡ false
missing p [] n h = refl
missing p (q ∷ ps) n h = by (same_prefix p q) h (λ e. missing p ps (n + 1) e)
  where
    by : (b : Bool) → cond b (Some n) (position_from (same_prefix p) (n + 1) ps) ≡ None → (position_from (same_prefix p) (n + 1) ps ≡ None → is_among p ps ≡ false) → (b || is_among p ps) ≡ false
    by true e later = absurd (cc e)
    by false e later = later e

pub number-none : (p : Block) (ps : List Block) → number_of_prefix p ps ≡ None → is_among p ps ≡ false
number-none p ps h = missing p ps 0 h

pub number-some : (p : Block) (ps : List Block) (k : ℕ) → number_of_prefix p ps ≡ Some k → is_among p ps ≡ true
number-some p ps k h = is_among-item ps k p (number-at p ps k h)

-- nothing is shown of a prefix that is not in the list
pub unlisted : (s : State) (i : ℕ) (p : Block) → IsState s → i < s.interfaces → is_among p s.prefixes ≡ false → s.shows i p ≡ None
unlisted s i p valid lt h = by (s.shows i p) refl
  where
    by : (o : Option ℕ) → s.shows i p ≡ o → s.shows i p ≡ None
    by None e = e
    by (Some m) e = true-false (is_among p s.prefixes) (valid.shown i m p lt e).listed h

-- what one more entry says
pub metric_among-snoc : (p : Block) (es : List Entry) (e : Entry) → metric_among p (es ++ e ∷ []) ≡ option_or (metric_among p es) (cond (same_prefix p e.prefix) (Some e.metric) None)
metric_among-snoc p [] e = refl
metric_among-snoc p (d ∷ es) e = by (same_prefix p d.prefix) (metric_among-snoc p es e)
  where
    by : (b : Bool) → metric_among p (es ++ e ∷ []) ≡ option_or (metric_among p es) (cond (same_prefix p e.prefix) (Some e.metric) None)
        → cond b (Some d.metric) (metric_among p (es ++ e ∷ [])) ≡ option_or (cond b (Some d.metric) (metric_among p es)) (cond (same_prefix p e.prefix) (Some e.metric) None)
    by true later = refl
    by false later = later

-- the number that was found for an entry is that of its prefix
pub number-here : (ps : List Block) (es : List Entry) (ns : List (Option ℕ)) (j : ℕ) (e : Entry) → AreNumbers ps es ns → slice_get es j ≡ Some e →
    slice_index_or ns j None ≡ number_of_prefix e.prefix ps
number-here ps es ns j e are at = get_or_from_slice_get ns j (number_of_prefix e.prefix ps) None (are j e at)

-- there is an entry at a number below the length
pub entry-at : (es : List Entry) (j : ℕ) → j < length es → (e : Entry) × (slice_get es j ≡ Some e)
entry-at es j lt = elim (slice_get_cases es j).1 [
  | inl found ↦ (found.0, found.2)
  | inr past ↦ absurd (omega (arith, past.0, lt))
]

-- a number that was found is below the length of the list
pub number-below : (ps : List Block) (es : List Entry) (ns : List (Option ℕ)) (j k : ℕ) → AreNumbers ps es ns → j < length es → slice_index_or ns j None ≡ Some k → k < length ps
number-below ps es ns j k are lt h =
    let here = entry-at es j lt in
    slice_get_within ps k (here.0).prefix (number-at (here.0).prefix ps k (sym (number-here ps es ns j here.0 are here.1) ∙ h))

-- the first entry of a prefix among the first entries
pub metric_among-found : (p : Block) (es : List Entry) (j n : ℕ) (e : Entry) → metric_among p (take j es) ≡ None → slice_get es j ≡ Some e → same_prefix p e.prefix ≡ true → j < n →
    metric_among p (take n es) ≡ Some e.metric
metric_among-found p [] j n e none at same lt = absurd (cc at)
metric_among-found p (d ∷ es) j zero e none at same lt = absurd (omega (arith, lt))
metric_among-found p (d ∷ es) zero (suc n) e none at same lt =
    let is : d ≡ e = cc at in
    ap (λ (b : Bool). cond b (Some d.metric) (metric_among p (take n es))) (ap (λ (x : Entry). same_prefix p x.prefix) is ∙ same) ∙ ap (λ (x : Entry). Some x.metric) is
metric_among-found p (d ∷ es) (suc j) (suc n) e none at same lt = by (same_prefix p d.prefix) none (λ h. metric_among-found p es j n e h at same (omega (arith, lt)))
  where
    by : (b : Bool) → cond b (Some d.metric) (metric_among p (take j es)) ≡ None → (metric_among p (take j es) ≡ None → metric_among p (take n es) ≡ Some e.metric) →
        cond b (Some d.metric) (metric_among p (take n es)) ≡ Some e.metric
    by true h later = absurd (cc h)
    by false h later = later h

-- one more entry of another prefix
pub metric_among-passed : (p : Block) (es : List Entry) (j : ℕ) (e : Entry) → metric_among p (take j es) ≡ None → slice_get es j ≡ Some e → same_prefix p e.prefix ≡ false →
    metric_among p (take (j + 1) es) ≡ None
metric_among-passed p es j e none at other =
    ap (metric_among p) (take-more es j e at)
    ∙ metric_among-snoc p (take j es) e
    ∙ ap (λ (o : Option ℕ). option_or o (cond (same_prefix p e.prefix) (Some e.metric) None)) none
    ∙ ap (λ (b : Bool). cond b (Some e.metric) None) other

-- whether one of the entries passes, with one more
pub any-next : (test : Entry → Bool) (es : List Entry) (j : ℕ) (e : Entry) → slice_get es j ≡ Some e → (list_any test (take j es) || test e) ≡ list_any test (take (j + 1) es)
any-next test es j e at =
    ap (λ (b : Bool). list_any test (take j es) || b) (or-false (test e))
    ∙ sym (list_any-append test (take j es) (e ∷ []))
    ∙ ap (list_any test) (sym (take-more es j e at))

-- a response is its entries
pub response-is : (m : Message) → kind_of m ≡ Response → m ≡ response (entries_of m)
response-is request h = absurd (cc h)
response-is (response es) h = refl

-- the test for nothing says what the test for something does not
pub none-is : (o : Option ℕ) (b : Bool) → is_some o ≡ not b → b ≡ is_none o
none-is None true h = refl
none-is None false h = absurd (cc h)
none-is (Some x) true h = absurd (cc h)
none-is (Some x) false h = refl

-- a prefix is in a list where it has a number
pub number-is : (p : Block) (ps : List Block) → is_among p ps ≡ is_some (number_of_prefix p ps)
number-is p ps = by (number_of_prefix p ps) refl
  where
    by : (o : Option ℕ) → number_of_prefix p ps ≡ o → is_among p ps ≡ is_some o
    by None h = number-none p ps h
    by (Some k) h = number-some p ps k h
