-- Judging the entries of a response one after the other.
use Rattle.std.proofs.Common.{inl, inr, ◌⊎◌, take, drop, ◌≡◌, ℕ, zero, suc, ◌+◌, ◌<◌, ◌≤◌, ◌==◌, nat_le, nat_lt, Bool, true, false, cond, ◌||◌, ◌&&◌, not, List, [], ◌∷◌, ◌++◌, length, Option, Some, None, is_some, is_none, Result, Ok, Err, refl, sym, ap, ◌∙◌, arith, length-append}
use Rattle.std.specs.List.{slice_get}
use Rattle.std.specs.Option.{option_or}
use Rattle.rip_plan.proofs.NumberingLemmas.{same_is, same_self}
use Rattle.rip_wire.specs.Prefix.{Block}
use Rattle.rip_wire.specs.declared.entry.Entry.{Entry}
use Rattle.rip_plan.specs.Network.{number_of_prefix}
use Rattle.rip_plan.specs.Passes.{same_prefix}
use Rattle.rip_table.specs.State.{IsState, State, is_among}
use Rattle.rip_table.specs.Joined.{and_then, is_foreign, is_past, joined_at, joined_entries, with_heard, with_metric}
use Rattle.rip_table.specs.Numbers.{counted, judged, judged_alone, known_metric, metric_among}
use Rattle.rip_table.specs.declared.error.TableError.{TableError}
use Rattle.rip_table.specs.declared.error.TableError.TheVariants.{Changed, NextHop, TooManyPrefixes}
use Rattle.std.proofs.lemmas.Bool.{eq-eqb, le-ltb, leb-false}
use Rattle.std.proofs.lemmas.Bool.Decides.{nat_tests}
use Rattle.std.proofs.lemmas.List.{take-append-drop}
use Rattle.rip_table.proofs.TruthLemmas.{and-false, and-true, or-false, or-none, or-true}
use Rattle.rip_table.proofs.PrefixListLemmas.{drop-more, is_among-append, is_among-item, take-more}
use Rattle.rip_table.proofs.NumberLemmas.{metric_among-snoc, number-none, number-some, true-false}
use Rattle.rip_plan.specs.Network.{Network}

-- the first j entries have no fault, and this is what they make of a table; it has so many prefixes
pub record Checked (net : Network) (i : ℕ) (s : State) (es : List Entry) (j count : ℕ) : Type 0 where
  pub state : State
  pub interfaces : state.interfaces ≡ s.interfaces
  pub joined : joined_entries net i (with_heard s i) (take j es) ≡ Ok state
  pub valid : IsState state
  pub shows : (p : Block) → state.shows i p ≡ known_metric s i (take j es) p
  pub among : (p : Block) → is_among p state.prefixes ≡ (is_among p s.prefixes || is_some (metric_among p (take j es)))
  pub count_is : length state.prefixes ≡ count

pub heard_valid : (s : State) (i : ℕ) → IsState s → IsState (with_heard s i)
heard_valid s i v = record { differ = v.differ; few = v.few; shown = λ j m p lt h. let shown = v.shown j m p lt h in record { least = shown.least; most = shown.most; listed = shown.listed } }

pub Checked-start : (net : Network) (i : ℕ) (s : State) (es : List Entry) → IsState s → Checked net i s es 0 (length s.prefixes)
Checked-start net i s es valid = record {
  state = with_heard s i;
  interfaces = refl;
  joined = refl;
  valid = heard_valid s i valid;
  shows = λ p. or-none (s.shows i p);
  among = λ p. or-false (is_among p s.prefixes);
  count_is = refl;
}

-- some entries, and then others
pub joined-append : (net : Network) (i : ℕ) (s : State) (es fs : List Entry) → joined_entries net i s (es ++ fs) ≡ and_then (joined_entries net i s es) (λ t. joined_entries net i t fs)
joined-append net i s [] fs = refl
joined-append net i s (e ∷ es) fs = by (joined_at net i s e (s.shows i e.prefix)) (λ t. joined-append net i t es fs)
  where
    by : (r : Result State TableError) → ((t : State) → joined_entries net i t (es ++ fs) ≡ and_then (joined_entries net i t es) (λ u. joined_entries net i u fs))
        → and_then r (λ t. joined_entries net i t (es ++ fs)) ≡ and_then (and_then r (λ t. joined_entries net i t es)) (λ u. joined_entries net i u fs)
    by (Ok t) later = later t
    by (Err e) later = refl

-- ---- what a table with one more metric is

at_end : (ps : List Block) (p q : Block) (k : ℕ) → slice_get (ps ++ p ∷ []) k ≡ Some q → (slice_get ps k ≡ Some q) ⊎ ((k ≡ length ps) × (q ≡ p))
at_end [] p q zero h = let same : p ≡ q = cc h in inr (refl, sym same)
at_end [] p q (suc k) h = absurd (cc h)
at_end (x ∷ ps) p q zero h = inl h
at_end (x ∷ ps) p q (suc k) h = elim (at_end ps p q k h) [ inl e ↦ inl e | inr e ↦ inr (ap suc e.0, e.1) ]

listed_at : (ps : List Block) (p : Block) (k : ℕ) {A : Type 0} → is_among p ps ≡ false → slice_get ps k ≡ Some p → A
listed_at ps p k absent at = true-false (is_among p ps) (is_among-item ps k p at) absent

differ_with : (ps : List Block) (p : Block) → ((j k : ℕ) (q : Block) → slice_get ps j ≡ Some q → slice_get ps k ≡ Some q → j ≡ k) → is_among p ps ≡ false
    → (j k : ℕ) (q : Block) → slice_get (ps ++ p ∷ []) j ≡ Some q → slice_get (ps ++ p ∷ []) k ≡ Some q → j ≡ k
differ_with ps p differ absent j k q h e = elim (at_end ps p q j h) [
  | inl a ↦ elim (at_end ps p q k e) [ inl b ↦ differ j k q a b | inr b ↦ listed_at ps p j absent (a ∙ ap (λ (x : Block). Some x) b.1) ]
  | inr a ↦ elim (at_end ps p q k e) [ inl b ↦ listed_at ps p k absent (b ∙ ap (λ (x : Block). Some x) a.1) | inr b ↦ a.0 ∙ sym b.0 ]
]

longer : (ps : List Block) (p q : Block) → is_among q ps ≡ true → is_among q (ps ++ p ∷ []) ≡ true
longer ps p q h = is_among-append q ps (p ∷ []) ∙ ap (λ (b : Bool). b || is_among q (p ∷ [])) h

last_among : (ps : List Block) (p : Block) → is_among p (ps ++ p ∷ []) ≡ true
last_among ps p = is_among-append p ps (p ∷ []) ∙ ap (λ (b : Bool). is_among p ps || (b || false)) (same_self p) ∙ or-true (is_among p ps)

-- what a table with one more metric shows is a metric of one of its prefixes
shown_with : (s : State) (i m : ℕ) (p : Block) (ps : List Block) → 1 ≤ m → m ≤ 16 → IsState s
    → ((q : Block) → is_among q s.prefixes ≡ true → is_among q ps ≡ true) → is_among p ps ≡ true
    → (j k : ℕ) (q : Block) → j < s.interfaces → (b : Bool) → ((j == i) && same_prefix q p) ≡ b → cond b (Some m) (s.shows j q) ≡ Some k
    → (1 ≤ k) × (k ≤ 16) × (is_among q ps ≡ true)
shown_with s i m p ps low high valid kept there j k q lt true test h =
    let is : m ≡ k = cc h in
    let same : q ≡ p = same_is q p (right (j == i) (same_prefix q p) test) in
    (omega (arith, low, is), omega (arith, high, is), ap (λ (x : Block). is_among x ps) same ∙ there)
  where
    right : (a b : Bool) → (a && b) ≡ true → b ≡ true
    right true b h = h
    right false b h = absurd (cc h)
shown_with s i m p ps low high valid kept there j k q lt false test h =
    let shown = valid.shown j k q lt h in
    (shown.least, shown.most, kept q shown.listed)

pub valid_with : (s : State) (i m : ℕ) (p : Block) (b : Bool) → 1 ≤ m → m ≤ 16 → IsState s → is_among p s.prefixes ≡ b → (b ≡ false → length s.prefixes < 2048) → IsState (with_metric s i p m)
valid_with s i m p true low high valid among room = record {
  differ = λ j k q h e. valid.differ j k q (h' j q h) (h' k q e);
  few = omega (arith, valid.few, ap length listed);
  shown = λ j k q lt h.
      let shown = shown_with s i m p (with_metric s i p m).prefixes low high valid (λ r e. ap (is_among r) listed ∙ e) (ap (is_among p) listed ∙ among) j k q lt ((j == i) && same_prefix q p) refl h in
      record { least = shown.0; most = shown.1; listed = shown.2 };
}
  where
    listed : (with_metric s i p m).prefixes ≡ s.prefixes
    listed = ap (λ (b : Bool). cond b s.prefixes (s.prefixes ++ p ∷ [])) among

    h' : (j : ℕ) (q : Block) → slice_get (with_metric s i p m).prefixes j ≡ Some q → slice_get s.prefixes j ≡ Some q
    h' j q h = ap (λ (l : List Block). slice_get l j) (sym listed) ∙ h
valid_with s i m p false low high valid among room = record {
  differ = λ j k q h e. differ_with s.prefixes p valid.differ among j k q (h' j q h) (h' k q e);
  few = omega (arith, room refl, ap length listed, length-append s.prefixes (p ∷ []));
  shown = λ j k q lt h.
      let shown = shown_with s i m p (with_metric s i p m).prefixes low high valid (λ r e. ap (is_among r) listed ∙ longer s.prefixes p r e)
      (ap (is_among p) listed ∙ last_among s.prefixes p) j k q lt ((j == i) && same_prefix q p) refl h in
      record { least = shown.0; most = shown.1; listed = shown.2 };
}
  where
    listed : (with_metric s i p m).prefixes ≡ s.prefixes ++ p ∷ []
    listed = ap (λ (b : Bool). cond b s.prefixes (s.prefixes ++ p ∷ [])) among

    h' : (j : ℕ) (q : Block) → slice_get (with_metric s i p m).prefixes j ≡ Some q → slice_get (s.prefixes ++ p ∷ []) j ≡ Some q
    h' j q h = ap (λ (l : List Block). slice_get l j) (sym listed) ∙ h

-- ---- how the next entry is judged

-- nothing is known of a prefix where neither says anything of it
nothing : (a b : Option ℕ) → option_or a b ≡ None → (a ≡ None) × (b ≡ None)
nothing None b h = (refl, h)
nothing (Some x) b h = absurd (cc h)

-- a prefix of which nothing is known is in the list where it has a number
new-is : (s t : State) (p : Block) (es : List Entry) (number : Option ℕ) → number ≡ number_of_prefix p s.prefixes
    → is_among p t.prefixes ≡ (is_among p s.prefixes || is_some (metric_among p es)) → metric_among p es ≡ None → is_among p t.prefixes ≡ not (is_none number)
new-is s t p es None is among none = among ∙ ap (λ (o : Option ℕ). is_among p s.prefixes || is_some o) none ∙ ap (λ (b : Bool). b || false) (number-none p s.prefixes (sym is))
new-is s t p es (Some k) is among none = among ∙ ap (λ (o : Option ℕ). is_among p s.prefixes || is_some o) none ∙ ap (λ (b : Bool). b || false) (number-some p s.prefixes k (sym is))

one_more : (count : ℕ) → nat_lt 2048 (count + 1) ≡ nat_le 2048 count
one_more count = grind (arith, nat_tests)

-- the prefix is one too many exactly where there are too many with it
past-is : (t : State) (p : Block) (count : ℕ) (number : Option ℕ) → length t.prefixes ≡ count → count ≤ 2048 → is_among p t.prefixes ≡ not (is_none number)
    → nat_lt 2048 (counted count number false) ≡ is_past t p
past-is t p count None long few new =
    one_more count ∙ and-true (nat_le 2048 count) ∙ ap (λ (n : ℕ). nat_le 2048 n && true) (sym long) ∙ ap (λ (b : Bool). nat_le 2048 (length t.prefixes) && not b) (sym new)
past-is t p count (Some k) long few new =
    le-ltb 2048 count few ∙ sym (and-false (nat_le 2048 (length t.prefixes))) ∙ ap (λ (b : Bool). nat_le 2048 (length t.prefixes) && not b) (sym new)

known-count : (count : ℕ) (number : Option ℕ) → counted count number true ≡ count
known-count count None = refl
known-count count (Some k) = refl

-- what an entry adds to a table
abbrev pub added : State → ℕ → Entry → Option ℕ → State
added s i e (Some old) = s
added s i e None = with_metric s i e.prefix e.metric

abbrev pub after : Result (Unit {0}) TableError → State → Result State TableError
after (Ok u) s = Ok s
after (Err f) s = Err f

alone-past : (net : Network) (i : ℕ) (t : State) (e : Entry) (n : ℕ) (b : Bool) → nat_lt 2048 n ≡ b → is_past t e.prefix ≡ b →
    joined_at net i t e None ≡ after (judged_alone (is_foreign net i e) e n) (with_metric t i e.prefix e.metric)
alone-past net i t e n b lt past =
    ap (λ (x : Bool). cond (is_foreign net i e) (Err (NextHop e.prefix)) (cond x (Err TooManyPrefixes) (Ok (with_metric t i e.prefix e.metric)))) past
    ∙ by (is_foreign net i e) b
    ∙ ap (λ (x : Bool). after (cond (is_foreign net i e) (Err (NextHop e.prefix)) (cond x (Err TooManyPrefixes) (Ok tt))) (with_metric t i e.prefix e.metric)) (sym lt)
  where
    by : (f b : Bool) → ◌≡◌ {A = Result State TableError} (cond f (Err (NextHop e.prefix)) (cond b (Err TooManyPrefixes) (Ok (with_metric t i e.prefix e.metric))))
        (after (cond f (Err (NextHop e.prefix)) (cond b (Err TooManyPrefixes) (Ok tt))) (with_metric t i e.prefix e.metric))
    by true b = refl
    by false true = refl
    by false false = refl

known-at : (net : Network) (i : ℕ) (t : State) (e : Entry) (old n : ℕ) → nat_lt 2048 n ≡ false → joined_at net i t e (Some old) ≡ after (judged (is_foreign net i e) e (Some old) n) t
known-at net i t e old n few =
    by (not (old == e.metric)) (is_foreign net i e)
    ∙ ap (λ (x : Bool). after (cond (not (old == e.metric)) (Err (Changed e.prefix old e.metric)) (cond (is_foreign net i e) (Err (NextHop e.prefix)) (cond x (Err TooManyPrefixes) (Ok tt)))) t)
    (sym few)
  where
    by : (c f : Bool) → ◌≡◌ {A = Result State TableError} (cond c (Err (Changed e.prefix old e.metric)) (cond f (Err (NextHop e.prefix)) (Ok t)))
        (after (cond c (Err (Changed e.prefix old e.metric)) (cond f (Err (NextHop e.prefix)) (Ok tt))) t)
    by true f = refl
    by false true = refl
    by false false = refl

module _ (net : Network) (i : ℕ) (s : State) (es : List Entry) (j count : ℕ) (e : Entry) (number o : Option ℕ)
    (here : slice_get es j ≡ Some e) (number_is : number ≡ number_of_prefix e.prefix s.prefixes) (o_is : o ≡ known_metric s i (take j es) e.prefix) (ck : Checked net i s es j count) where
  few_now : count ≤ 2048
  few_now = omega (arith, ck.valid.few, ck.count_is)

  -- nothing is known of it
  unknown : o ≡ None → is_among e.prefix ck.state.prefixes ≡ not (is_none number)
  unknown none = new-is s ck.state e.prefix (take j es) number number_is (ck.among e.prefix) (nothing (s.shows i e.prefix) (metric_among e.prefix (take j es)) (sym o_is ∙ none)).1

  at_known : (k : Option ℕ) → o ≡ k → joined_at net i ck.state e k ≡ after (judged (is_foreign net i e) e k (counted count number (is_some k))) (added ck.state i e k)
  at_known None is = alone-past net i ck.state e (counted count number false) (is_past ck.state e.prefix) (past-is ck.state e.prefix count number ck.count_is few_now (unknown is)) refl
  at_known (Some old) is = known-at net i ck.state e old (counted count number true) (ap (nat_lt 2048) (known-count count number) ∙ le-ltb 2048 count few_now)

  shows_here : ck.state.shows i e.prefix ≡ o
  shows_here = ck.shows e.prefix ∙ sym o_is

  -- joining the next entry is judging it
  pub next-is : joined_at net i ck.state e (ck.state.shows i e.prefix) ≡ after (judged (is_foreign net i e) e o (counted count number (is_some o))) (added ck.state i e o)
  next-is = ap (joined_at net i ck.state e) shows_here ∙ at_known o refl

  pub Checked-fault : (f : TableError) → judged (is_foreign net i e) e o (counted count number (is_some o)) ≡ Err f → joined_entries net i (with_heard s i) es ≡ Err f
  Checked-fault f h =
      ap (joined_entries net i (with_heard s i)) (sym (take-append-drop j es))
      ∙ joined-append net i (with_heard s i) (take j es) (drop j es)
      ∙ ap (λ (r : Result State TableError). and_then r (λ t. joined_entries net i t (drop j es))) ck.joined
      ∙ ap (joined_entries net i ck.state) (drop-more es j e here)
      ∙ ap (λ (r : Result State TableError). and_then r (λ t. joined_entries net i t (drop (j + 1) es))) (next-is ∙ ap (λ (r : Result (Unit {0}) TableError). after r (added ck.state i e o)) h)

  known_step : (p : Block) → known_metric s i (take (j + 1) es) p ≡ option_or (ck.state.shows i p) (cond (same_prefix p e.prefix) (Some e.metric) None)
  known_step p =
      ap (λ (l : List Entry). option_or (s.shows i p) (metric_among p l)) (take-more es j e here)
      ∙ ap (option_or (s.shows i p)) (metric_among-snoc p (take j es) e)
      ∙ by (s.shows i p) (metric_among p (take j es)) (cond (same_prefix p e.prefix) (Some e.metric) None)
      ∙ ap (λ (o : Option ℕ). option_or o (cond (same_prefix p e.prefix) (Some e.metric) None)) (sym (ck.shows p))
    where
      by : (a b c : Option ℕ) → option_or a (option_or b c) ≡ option_or (option_or a b) c
      by None b c = refl
      by (Some x) b c = refl

  among_step : (p : Block) → (is_among p s.prefixes || is_some (metric_among p (take (j + 1) es))) ≡ (is_among p ck.state.prefixes || same_prefix p e.prefix)
  among_step p =
      ap (λ (l : List Entry). is_among p s.prefixes || is_some (metric_among p l)) (take-more es j e here)
      ∙ ap (λ (o : Option ℕ). is_among p s.prefixes || is_some o) (metric_among-snoc p (take j es) e)
      ∙ by (is_among p s.prefixes) (metric_among p (take j es)) (same_prefix p e.prefix)
      ∙ ap (λ (b : Bool). b || same_prefix p e.prefix) (sym (ck.among p))
    where
      by : (a : Bool) (o : Option ℕ) (b : Bool) → (a || is_some (option_or o (cond b (Some e.metric) None))) ≡ ((a || is_some o) || b)
      by true o b = refl
      by false None true = refl
      by false None false = refl
      by false (Some x) b = refl

  -- where the prefix is in the list already, no other is met
  among_kept : is_among e.prefix ck.state.prefixes ≡ true → (p : Block) → is_among p ck.state.prefixes ≡ (is_among p ck.state.prefixes || same_prefix p e.prefix)
  among_kept there p = by (same_prefix p e.prefix) refl
    where
      by : (b : Bool) → same_prefix p e.prefix ≡ b → is_among p ck.state.prefixes ≡ (is_among p ck.state.prefixes || b)
      by true h =
          let is : is_among p ck.state.prefixes ≡ true = ap (λ (q : Block). is_among q ck.state.prefixes) (same_is p e.prefix h) ∙ there in
          is ∙ sym (or-true (is_among p ck.state.prefixes))
      by false h = or-false (is_among p ck.state.prefixes)

  joined_next : (k : Option ℕ) → o ≡ k → judged (is_foreign net i e) e o (counted count number (is_some o)) ≡ Ok tt →
      joined_entries net i (with_heard s i) (take (j + 1) es) ≡ Ok (added ck.state i e k)
  joined_next k is h =
      ap (joined_entries net i (with_heard s i)) (take-more es j e here)
      ∙ joined-append net i (with_heard s i) (take j es) (e ∷ [])
      ∙ ap (λ (r : Result State TableError). and_then r (λ t. joined_entries net i t (e ∷ []))) ck.joined
      ∙ ap (λ (r : Result State TableError). and_then r (λ t. Ok t)) (next-is ∙ ap (λ (r : Result (Unit {0}) TableError). after r (added ck.state i e o)) h)
      ∙ ap (λ (x : Option ℕ). Ok (added ck.state i e x)) is

  shows_known : (old : ℕ) → o ≡ Some old → (p : Block) → ck.state.shows i p ≡ known_metric s i (take (j + 1) es) p
  shows_known old is p = by (same_prefix p e.prefix) refl ∙ sym (known_step p)
    where
      by : (b : Bool) → same_prefix p e.prefix ≡ b → ck.state.shows i p ≡ option_or (ck.state.shows i p) (cond b (Some e.metric) None)
      by true h =
          let some : ck.state.shows i p ≡ Some old = ap (ck.state.shows i) (same_is p e.prefix h) ∙ shows_here ∙ is in
          some ∙ sym (ap (λ (x : Option ℕ). option_or x (Some e.metric)) some)
      by false h = or-none (ck.state.shows i p)

  shows_new : o ≡ None → (p : Block) → (with_metric ck.state i e.prefix e.metric).shows i p ≡ known_metric s i (take (j + 1) es) p
  shows_new is p = ap (λ (b : Bool). cond (b && same_prefix p e.prefix) (Some e.metric) (ck.state.shows i p)) (eq-eqb i i refl) ∙ by (same_prefix p e.prefix) refl ∙ sym (known_step p)
    where
      by : (b : Bool) → same_prefix p e.prefix ≡ b → cond b (Some e.metric) (ck.state.shows i p) ≡ option_or (ck.state.shows i p) (cond b (Some e.metric) None)
      by true h = sym (ap (λ (x : Option ℕ). option_or x (Some e.metric)) (ap (ck.state.shows i) (same_is p e.prefix h) ∙ shows_here ∙ is))
      by false h = or-none (ck.state.shows i p)

  among_new : (b : Bool) → is_among e.prefix ck.state.prefixes ≡ b → (p : Block) →
      is_among p (with_metric ck.state i e.prefix e.metric).prefixes ≡ (is_among p ck.state.prefixes || same_prefix p e.prefix)
  among_new true h p = ap (λ (b : Bool). is_among p (cond b ck.state.prefixes (ck.state.prefixes ++ e.prefix ∷ []))) h ∙ among_kept h p
  among_new false h p =
      ap (λ (b : Bool). is_among p (cond b ck.state.prefixes (ck.state.prefixes ++ e.prefix ∷ []))) h
      ∙ is_among-append p ck.state.prefixes (e.prefix ∷ [])
      ∙ ap (λ (b : Bool). is_among p ck.state.prefixes || b) (sym (or-false (same_prefix p e.prefix)))

  count_new : (k : Option ℕ) → number ≡ k → is_among e.prefix ck.state.prefixes ≡ not (is_none k) → length (with_metric ck.state i e.prefix e.metric).prefixes ≡ counted count k false
  count_new None is new =
      ap (λ (b : Bool). length (cond b ck.state.prefixes (ck.state.prefixes ++ e.prefix ∷ []))) new
      ∙ length-append ck.state.prefixes (e.prefix ∷ [])
      ∙ ap (λ (n : ℕ). n + 1) ck.count_is
  count_new (Some k) is new = ap (λ (b : Bool). length (cond b ck.state.prefixes (ck.state.prefixes ++ e.prefix ∷ []))) new ∙ ck.count_is

  -- an entry without a fault whose prefix is new has room in the list
  has_room : o ≡ None → judged (is_foreign net i e) e o (counted count number (is_some o)) ≡ Ok tt → is_among e.prefix ck.state.prefixes ≡ false → length ck.state.prefixes < 2048
  has_room is h absent =
      let fine : judged_alone (is_foreign net i e) e (counted count number false) ≡ Ok tt = ap (λ (x : Option ℕ). judged (is_foreign net i e) e x (counted count number (is_some x))) (sym is) ∙ h in
      let few = unpast (is_foreign net i e) (nat_lt 2048 (counted count number false)) fine in
      let past : is_past ck.state e.prefix ≡ false = sym (past-is ck.state e.prefix count number ck.count_is few_now (unknown is)) ∙ few in
      let still : nat_le 2048 (length ck.state.prefixes) ≡ false =
      left (nat_le 2048 (length ck.state.prefixes)) (ap (λ (b : Bool). nat_le 2048 (length ck.state.prefixes) && not b) (sym absent) ∙ past) in
      leb-false 2048 (length ck.state.prefixes) still
    where
      unpast : (f b : Bool) → ◌≡◌ {A = Result (Unit {0}) TableError} (cond f (Err (NextHop e.prefix)) (cond b (Err TooManyPrefixes) (Ok tt))) (Ok tt) → b ≡ false
      unpast true b h = absurd (cc h)
      unpast false true h = absurd (cc h)
      unpast false false h = refl

      left : (b : Bool) → (b && true) ≡ false → b ≡ false
      left true h = h
      left false h = refl

  next : i < s.interfaces → 1 ≤ e.metric → e.metric ≤ 16 → judged (is_foreign net i e) e o (counted count number (is_some o)) ≡ Ok tt → (k : Option ℕ) → o ≡ k →
      Checked net i s es (j + 1) (counted count number (is_some k))
  next lt low high h None is = record {
    state = with_metric ck.state i e.prefix e.metric;
    interfaces = ck.interfaces;
    joined = joined_next None is h;
    valid = valid_with ck.state i e.metric e.prefix (is_among e.prefix ck.state.prefixes) low high ck.valid refl (has_room is h);
    shows = shows_new is;
    among = λ p. among_new (is_among e.prefix ck.state.prefixes) refl p ∙ sym (among_step p);
    count_is = count_new number refl (unknown is);
  }
  next lt low high h (Some old) is = record {
    state = ck.state;
    interfaces = ck.interfaces;
    joined = joined_next (Some old) is h;
    valid = ck.valid;
    shows = shows_known old is;
    among = λ p. among_kept (ck.valid.shown i old e.prefix (omega (arith, lt, ck.interfaces)) (shows_here ∙ is)).listed p ∙ sym (among_step p);
    count_is = ck.count_is ∙ sym (known-count count number);
  }

  pub Checked-next : i < s.interfaces → 1 ≤ e.metric → e.metric ≤ 16 → judged (is_foreign net i e) e o (counted count number (is_some o)) ≡ Ok tt →
      Checked net i s es (j + 1) (counted count number (is_some o))
  Checked-next lt low high h = next lt low high h o refl
