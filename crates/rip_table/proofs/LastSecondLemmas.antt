-- What is shown in the last second of a log that lies within a window is the table that it makes.
use Rattle.std.proofs.Common.{◌⊎◌, inl, inr, ◌≡◌, ℕ, zero, suc, ◌+◌, ◌-◌, ◌==◌, ◌<◌, ◌≤◌, nat_lt, Bool, true, false, cond, not, ◌&&◌, ◌||◌, List, [], ◌∷◌, ◌++◌, length, filter, Option, Some, None, Result, Ok, Err, refl, sym, ap, subst, ◌∙◌, arith, append_assoc, append-nil}
use Rattle.std.specs.Prelude.{is_some, nat_le}
use Rattle.std.specs.List.{slice_get}
use Rattle.std.proofs.lemmas.Bool.{lt-ltb, ltb-true}
use mathlib.Core.Path.{fun_ext}
use Rattle.rip_wire.specs.Prefix.{Block}
use Rattle.rip_wire.specs.Message.{Message, request, response}
use Rattle.rip_wire.specs.declared.entry.Entry.{Entry}
use Rattle.rip_plan.specs.Network.{Network}
use Rattle.rip_plan.specs.Passes.{same_prefix}
use Rattle.rip_log.specs.Lines.{Capture}
use Rattle.rip_log.specs.Logs.{Numbered}
use Rattle.rip_log.specs.TimedText.{AreCaptured, LineSaid, TimedSaid}
use Rattle.rip_table.specs.State.{State, is_among, new_state, with_prefix}
use Rattle.rip_table.specs.Joined.{and_then, interface_of, is_foreign, is_past, joined_at, joined_capture, joined_entries, joined_from, joined_message, joined_records, message_of_capture, with_heard, with_metric}
use Rattle.rip_table.specs.Rows.{shown_after}
use Rattle.rip_table.specs.Scenes.{View, after_message, after_said, closed_view, new_view, passed_episode, passed_view, with_window}
use Rattle.rip_table.specs.Seconds.{AreWithin, EndsShowing, after_quiet, later_second, log_seconds, own_second, quiet, seconds_of}
use Rattle.rip_table.specs.Window.{Window, Word, any_below, passed, passed_word, shown, window_after, with_words, without_shown, word_or}
use Rattle.rip_table.specs.WindowRows.{new_word}
use Rattle.rip_table.specs.declared.error.TableError.{TableError}
use Rattle.rip_table.specs.declared.error.TableError.TheVariants.{Changed, NextHop, TooManyPrefixes}
use Rattle.rip_table.proofs.AfterLemmas.{Listed, after_all, joined-after, joined_is, listed_with}
use Rattle.rip_table.proofs.ForgetLemmas.{any_at, any_same, filter_append, is_left}
use Rattle.rip_table.proofs.PrefixListLemmas.{is_among-append}
use Rattle.rip_table.proofs.RememberLemmas.{metric_in}
use Rattle.rip_table.proofs.SaidLemmas.{from_cause}
use Rattle.rip_table.proofs.SecondLemmas.{begun}
use Rattle.rip_table.proofs.TruthLemmas.{and-false, or-false, or-true, then-split}
use Rattle.rip_table.proofs.WindowLemmas.{none_made, nothing_shown, same_number, words_made}

-- ---- a response, where its interface is as if it had shown nothing

-- a table shows at an interface a part of what another shows
record IsPart (i : ℕ) (s t : State) : Type 0 where
  pub prefixes : t.prefixes ≡ s.prefixes
  pub shows : (p : Block) (m : ℕ) → t.shows i p ≡ Some m → s.shows i p ≡ Some m

part_with : (i m : ℕ) (p : Block) (s t : State) → IsPart i s t → IsPart i (with_metric s i p m) (with_metric t i p m)
part_with i m p s t h = record {
  prefixes = ap (with_prefix p) h.prefixes;
  shows = λ q v. by q v ((i == i) && same_prefix q p);
}
  where
    by : (q : Block) (v : ℕ) (b : Bool) → cond b (Some m) (t.shows i q) ≡ Some v → cond b (Some m) (s.shows i q) ≡ Some v
    by q v true e = e
    by q v false e = h.shows q v e

joined_some : (n : Network) (i old : ℕ) (s u : State) (e : Entry) → joined_at n i s e (Some old) ≡ Ok u → ((old == e.metric) ≡ true) × (is_foreign n i e ≡ false)
joined_some n i old s u e h = by (old == e.metric) (is_foreign n i e) h
  where
    by : (c f : Bool) → cond (not c) (Err (Changed e.prefix old e.metric)) (cond f (Err (NextHop e.prefix)) (Ok s)) ≡ Ok u → (c ≡ true) × (f ≡ false)
    by true true h = absurd (cc h)
    by true false h = (refl, refl)
    by false f h = absurd (cc h)

joined_none : (n : Network) (i : ℕ) (s u : State) (e : Entry) → joined_at n i s e None ≡ Ok u → (is_foreign n i e ≡ false) × (is_past s e.prefix ≡ false)
joined_none n i s u e h = by (is_foreign n i e) (is_past s e.prefix) h
  where
    by : (f b : Bool) → cond f (Err (NextHop e.prefix)) (cond b (Err TooManyPrefixes) (Ok (with_metric s i e.prefix e.metric))) ≡ Ok u → (f ≡ false) × (b ≡ false)
    by true b h = absurd (cc h)
    by false true h = absurd (cc h)
    by false false h = (refl, refl)

some_joined : (n : Network) (i old : ℕ) (t : State) (e : Entry) → (old == e.metric) ≡ true → is_foreign n i e ≡ false → joined_at n i t e (Some old) ≡ Ok t
some_joined n i old t e same near =
    ap (λ (c : Bool). cond (not c) (Err (Changed e.prefix old e.metric)) (cond (is_foreign n i e) (Err (NextHop e.prefix)) (Ok t))) same
    ∙ ap (λ (f : Bool). cond f (Err (NextHop e.prefix)) (Ok t)) near

none_joined : (n : Network) (i : ℕ) (t : State) (e : Entry) → is_foreign n i e ≡ false → is_past t e.prefix ≡ false → joined_at n i t e None ≡ Ok (with_metric t i e.prefix e.metric)
none_joined n i t e near few =
    ap (λ (f : Bool). cond f (Err (NextHop e.prefix)) (cond (is_past t e.prefix) (Err TooManyPrefixes) (Ok (with_metric t i e.prefix e.metric)))) near
    ∙ ap (λ (b : Bool). cond b (Err TooManyPrefixes) (Ok (with_metric t i e.prefix e.metric))) few

-- an entry that is joined where more is shown is joined where less is
part_joined : (n : Network) (i : ℕ) (s t u : State) (e : Entry) → Listed s i → IsPart i s t → joined_at n i s e (s.shows i e.prefix) ≡ Ok u
    → (v : State) × (joined_at n i t e (t.shows i e.prefix) ≡ Ok v)
part_joined n i s t u e listed part = by (s.shows i e.prefix) refl (t.shows i e.prefix) refl
  where
    past : is_among e.prefix s.prefixes ≡ true → is_past t e.prefix ≡ false
    past among =
        let there : is_among e.prefix t.prefixes ≡ true = ap (is_among e.prefix) part.prefixes ∙ among in
        ap (λ (b : Bool). nat_le 2048 (length t.prefixes) && not b) there ∙ and-false (nat_le 2048 (length t.prefixes))

    by : (a : Option ℕ) → s.shows i e.prefix ≡ a → (b : Option ℕ) → t.shows i e.prefix ≡ b → joined_at n i s e a ≡ Ok u → (v : State) × (joined_at n i t e b ≡ Ok v)
    by (Some old) is (Some x) has h =
        let facts = joined_some n i old s u e h in
        let both : Some x ≡ Some old = sym (part.shows e.prefix x has) ∙ is in
        let same : x ≡ old = cc both in
        (t, some_joined n i x t e (ap (λ (k : ℕ). k == e.metric) same ∙ facts.0) facts.1)
    by (Some old) is None has h = (with_metric t i e.prefix e.metric, none_joined n i t e (joined_some n i old s u e h).1 (past (listed e.prefix old is)))
    by None is (Some x) has h = let both : None ≡ Some x = sym is ∙ part.shows e.prefix x has in absurd (cc both)
    by None is None has h =
        let facts = joined_none n i s u e h in
        let few = ap (λ (ps : List Block). nat_le 2048 (length ps) && not (is_among e.prefix ps)) part.prefixes ∙ facts.1 in
        (with_metric t i e.prefix e.metric, none_joined n i t e facts.0 few)

parts_joined : (n : Network) (i : ℕ) (es : List Entry) (s t u : State) → Listed s i → IsPart i s t → joined_entries n i s es ≡ Ok u → (v : State) × (joined_entries n i t es ≡ Ok v)
parts_joined n i [] s t u listed part h = (t, refl)
parts_joined n i (e ∷ es) s t u listed part h =
    let split = then-split (joined_at n i s e (s.shows i e.prefix)) (λ v. joined_entries n i v es) u h in
    let is = joined_is n i s split.0 e listed (s.shows i e.prefix) refl split.1 in
    let other = part_joined n i s t split.0 e listed part split.1 in
    let few : Listed t i = λ p m k. ap (is_among p) part.prefixes ∙ listed p m (part.shows p m k) in
    let other_is = joined_is n i t other.0 e few (t.shows i e.prefix) refl other.1 in
    let rest = parts_joined n i es (with_metric s i e.prefix e.metric) (with_metric t i e.prefix e.metric) u (listed_with s i i e.metric e.prefix listed) (part_with i e.metric e.prefix s t part)
    (ap (λ (v : State). joined_entries n i v es) (sym is) ∙ split.2) in (
      rest.0,
      ap (λ (r : Result State TableError). and_then r (λ v. joined_entries n i v es)) other.1 ∙ ap (λ (v : State). joined_entries n i v es) other_is ∙ rest.1,
    )

-- the metrics of the words that entries made
metrics_made : (seconds i : ℕ) (es : List Entry) (g : ℕ → Block → Option Word) (j : ℕ) (q : Block)
    → metric_in (shown_after (new_word seconds) g i es j q) ≡ shown_after (λ m. Some m) (λ k r. metric_in (g k r)) i es j q
metrics_made seconds i [] g j q = refl
metrics_made seconds i (e ∷ es) g j q =
    metrics_made seconds i es (λ k r. cond ((k == i) && same_prefix r e.prefix) (new_word seconds e.metric) (g k r)) j q
    ∙ ap (λ (f : ℕ → Block → Option ℕ). shown_after (λ m. Some m) f i es j q) (fun_ext (λ k. fun_ext (λ r. by k r ((k == i) && same_prefix r e.prefix))))
  where
    by : (k : ℕ) (r : Block) (b : Bool) → metric_in (cond b (new_word seconds e.metric) (g k r)) ≡ cond b (Some e.metric) (metric_in (g k r))
    by k r true = refl
    by k r false = refl

-- a response that is joined is told, and then the same is shown
told_join : (n : Network) (seconds i : ℕ) (w : Window) (es : List Entry) (u : State) → 1 ≤ seconds → Listed (shown w) i → joined_message n i (shown w) (response es) ≡ Ok u
    → (t : State) × (joined_message n i (without_shown i (shown w)) (response es) ≡ Ok t) × (shown (with_words seconds i w t) ≡ u)
told_join n seconds i w es u some listed h = (told.0, told.1, same)
  where
    told : (t : State) × (joined_entries n i (with_heard (without_shown i (shown w)) i) es ≡ Ok t)
    told = parts_joined n i es (with_heard (shown w) i) (with_heard (without_shown i (shown w)) i) u listed
        (record { prefixes = refl; shows = λ p m e. let none : None ≡ Some m = sym (nothing_shown i (shown w) p) ∙ e in absurd (cc none) }) h

    after : u ≡ after_all (with_heard (shown w) i) i es
    after = joined-after n i (with_heard (shown w) i) u es listed h

    made : told.0 ≡ after_all (with_heard (without_shown i (shown w)) i) i es
    made = joined-after n i (with_heard (without_shown i (shown w)) i) told.0 es (λ p m e. let none : None ≡ Some m = sym (nothing_shown i (shown w) p) ∙ e in absurd (cc none)) told.1

    shows_same : (j : ℕ) (q : Block)
        → metric_in (cond (j == i) (word_or seconds (shown_after (λ m. Some m) (without_shown i (shown w)).shows i es i q) (w.words i q)) (w.words j q))
        ≡ shown_after (λ m. Some m) (shown w).shows i es j q
    shows_same j q = ap metric_in (sym (words_made seconds i w.words es (without_shown i (shown w)).shows w.words (none_made seconds i w) j q)) ∙ metrics_made seconds i es w.words j q

    marked : (b : Bool) (mark : ℕ) → nat_lt 0 (cond b seconds mark) ≡ cond b true (nat_lt 0 mark)
    marked true mark = lt-ltb 0 seconds (omega (arith, some))
    marked false mark = refl

    same : shown (with_words seconds i w told.0) ≡ u
    same =
        ap (λ (t : State). shown (with_words seconds i w t)) made
        ∙ ap (λ (f : ℕ → Block → Option ℕ). record { interfaces = w.interfaces; prefixes = (after_all (shown w) i es).prefixes; shows = f; heard = λ j. nat_lt 0 (cond (j == i) seconds (w.heard j)) })
        (fun_ext (λ j. fun_ext (shows_same j)))
        ∙ ap (λ (f : ℕ → Bool). record { interfaces = w.interfaces; prefixes = (after_all (shown w) i es).prefixes; shows = (after_all (shown w) i es).shows; heard = f })
        (fun_ext (λ j. marked (j == i) (w.heard j)))
        ∙ sym after

-- ---- nothing is forgotten

-- what is shown is of prefixes of the list, each of which is the plan's or shown
record IsWhole (n : Network) (s : State) : Type 0 where
  pub wide : s.interfaces ≡ length n.interfaces
  pub listed : (i : ℕ) → Listed s i
  pub left : (p : Block) → is_among p s.prefixes ≡ true → (is_among p n.prefixes || any_below s.interfaces (λ i. is_some (s.shows i p))) ≡ true

other_among : (p q : Block) (ps : List Block) → same_prefix q p ≡ false → is_among q (with_prefix p ps) ≡ true → is_among q ps ≡ true
other_among p q ps other h = by (is_among p ps) h
  where
    by : (b : Bool) → is_among q (cond b ps (ps ++ p ∷ [])) ≡ true → is_among q ps ≡ true
    by true e = e
    by false e = or-false (is_among q ps) ∙ sym (ap (λ (b : Bool). is_among q ps || (b || false)) other) ∙ sym (is_among-append q ps (p ∷ [])) ∙ e

whole_with : (n : Network) (i m : ℕ) (p : Block) (s : State) → i < s.interfaces → IsWhole n s → IsWhole n (with_metric s i p m)
whole_with n i m p s lt h = record {
  wide = h.wide;
  listed = λ j. listed_with s i j m p (h.listed j);
  left = λ q. by q (same_prefix q p) refl;
}
  where
    at : (q : Block) → is_some (cond ((i == i) && true) (Some m) (s.shows i q)) ≡ true
    at q = ap (λ (b : Bool). is_some (cond (b && true) (Some m) (s.shows i q))) (same_number i)

    apart : (j : ℕ) (q : Block) (b : Bool) → is_some (s.shows j q) ≡ is_some (cond (b && false) (Some m) (s.shows j q))
    apart j q true = refl
    apart j q false = refl

    by : (q : Block) (b : Bool) → same_prefix q p ≡ b → is_among q (with_prefix p s.prefixes) ≡ true
        → (is_among q n.prefixes || any_below s.interfaces (λ j. is_some (cond ((j == i) && b) (Some m) (s.shows j q)))) ≡ true
    by q true e among =
        ap (λ (b : Bool). is_among q n.prefixes || b) (any_at s.interfaces (λ j. is_some (cond ((j == i) && true) (Some m) (s.shows j q))) i lt (at q)) ∙ or-true (is_among q n.prefixes)
    by q false e among =
        let same = any_same s.interfaces (λ j. is_some (s.shows j q)) (λ j. is_some (cond ((j == i) && false) (Some m) (s.shows j q))) (λ j. apart j q (j == i)) in
        sym (ap (λ (b : Bool). is_among q n.prefixes || b) same)
        ∙ h.left q (other_among p q s.prefixes e among)

whole_after : (n : Network) (i : ℕ) (es : List Entry) (s : State) → i < s.interfaces → IsWhole n s → IsWhole n (after_all s i es)
whole_after n i [] s lt h = h
whole_after n i (e ∷ es) s lt h = whole_after n i es (with_metric s i e.prefix e.metric) lt (whole_with n i e.metric e.prefix s lt h)

whole_joined : (n : Network) (i : ℕ) (es : List Entry) (s u : State) → i < s.interfaces → IsWhole n s → joined_message n i s (response es) ≡ Ok u → IsWhole n u
whole_joined n i es s u lt h joined =
    subst (IsWhole n) (sym (joined-after n i (with_heard s i) u es (h.listed i) joined)) (whole_after n i es (with_heard s i) lt (record { wide = h.wide; listed = h.listed; left = h.left }))

-- nothing is over for so many seconds, this one with them, and there is no episode
record Keeps (n : Network) (k : ℕ) (v : View) : Type 0 where
  pub calm : v.episode ≡ None
  pub words : (i : ℕ) (p : Block) (x : Word) → v.window.words i p ≡ Some x → k ≤ x.left
  pub marks : (i : ℕ) → (v.window.heard i ≡ 0) ⊎ (k ≤ v.window.heard i)
  pub whole : IsWhole n (shown v.window)

pub some_metric : (word : Option Word) → is_some (metric_in word) ≡ is_some word
some_metric None = refl
some_metric (Some x) = refl

closed_same : (n : Network) (k : ℕ) (v : View) → Keeps n k v → closed_view n v ≡ v
closed_same n k v h =
    ap (λ (ps : List Block). record { window = record { interfaces = v.window.interfaces; prefixes = ps; words = v.window.words; heard = v.window.heard }; episode = v.episode })
    (ap (filter (is_left n v.window)) (sym (append-nil v.window.prefixes)) ∙ filter_append (is_left n v.window) v.window.prefixes [] all ∙ append-nil v.window.prefixes)
  where
    all : (p : Block) → is_among p v.window.prefixes ≡ true → is_left n v.window p ≡ true
    all p among =
        let same = any_same v.window.interfaces (λ i. is_some (v.window.words i p)) (λ i. is_some (metric_in (v.window.words i p))) (λ i. sym (some_metric (v.window.words i p))) in
        ap (λ (b : Bool). is_among p n.prefixes || b) same
        ∙ h.whole.left p among

-- ---- a second

word_kept : (k : ℕ) (word : Option Word) → 1 ≤ k → ((x : Word) → word ≡ Some x → suc k ≤ x.left)
    → (metric_in (passed_word word) ≡ metric_in word) × ((x : Word) → passed_word word ≡ Some x → k ≤ x.left)
word_kept k None some old = (refl, λ x h. absurd (cc h))
word_kept k (Some w) some old = by (nat_lt 1 w.left) (lt-ltb 1 w.left (omega (arith, some, old w refl)))
  where
    by : (b : Bool) → b ≡ true
        → let word : Option Word = cond b (Some (record { metric = w.metric; left = w.left - 1 })) None in (metric_in word ≡ Some w.metric) × ((x : Word) → word ≡ Some x → k ≤ x.left)
    by true e = (refl, λ x h. let left : w.left - 1 ≡ x.left = cc h in omega (arith, left, old w refl))
    by false e = absurd (cc e)

mark_kept : (k mark : ℕ) → 1 ≤ k → (mark ≡ 0) ⊎ (suc k ≤ mark) → (nat_lt 0 (mark - 1) ≡ nat_lt 0 mark) × ((mark - 1 ≡ 0) ⊎ (k ≤ mark - 1))
mark_kept k mark some (inl none) = (ap (λ (m : ℕ). nat_lt 0 (m - 1)) none ∙ sym (ap (nat_lt 0) none), inl (omega (arith, none)))
mark_kept k mark some (inr more) = (lt-ltb 0 (mark - 1) (omega (arith, some, more)) ∙ sym (lt-ltb 0 mark (omega (arith, more))), inr (omega (arith, more)))

passed_keeps : (n : Network) (k : ℕ) (v : View) → 1 ≤ k → Keeps n (suc k) v → Keeps n k (passed_view v) × (shown (passed v.window) ≡ shown v.window)
passed_keeps n k v some h = (
  record {
    calm = ap passed_episode h.calm;
    words = λ i p. (word_kept k (v.window.words i p) some (h.words i p)).1;
    marks = λ i. (mark_kept k (v.window.heard i) some (h.marks i)).1;
    whole = subst (IsWhole n) (sym same) h.whole;
  },
  same,
)
  where
    same : shown (passed v.window) ≡ shown v.window
    same =
        ap (λ (f : ℕ → Block → Option ℕ). record { interfaces = v.window.interfaces; prefixes = v.window.prefixes; shows = f; heard = λ i. nat_lt 0 (v.window.heard i - 1) })
        (fun_ext (λ i. fun_ext (λ p. (word_kept k (v.window.words i p) some (h.words i p)).0)))
        ∙ ap (λ (f : ℕ → Bool). record { interfaces = v.window.interfaces; prefixes = v.window.prefixes; shows = (shown v.window).shows; heard = f })
        (fun_ext (λ i. (mark_kept k (v.window.heard i) some (h.marks i)).0))

quiet_keeps : (n : Network) (c k : ℕ) (v : View) → 1 ≤ k → Keeps n (k + c) v → Keeps n k (after_quiet n c v) × (shown (after_quiet n c v).window ≡ shown v.window)
quiet_keeps n zero k v some h = let same : k + 0 ≡ k = omega arith in (subst (λ (j : ℕ). Keeps n j v) same h, refl)
quiet_keeps n (suc c) k v some h =
    let more : k + suc c ≡ suc (k + c) = omega arith in
    let step = passed_keeps n (k + c) v (omega (arith, some)) (subst (λ (j : ℕ). Keeps n j v) more h) in
    let rest = quiet_keeps n c k (passed_view v) some step.0 in
    subst (λ (x : View). Keeps n k (after_quiet n c x) × (shown (after_quiet n c x).window ≡ shown v.window)) (sym (ap passed_view (closed_same n (k + suc c) v h)))
    (rest.0, rest.1 ∙ step.1)

-- ---- a line

new_kept : (k seconds : ℕ) (new : Option ℕ) (before : Option Word) → k ≤ seconds → ((x : Word) → before ≡ Some x → k ≤ x.left) → (x : Word) → word_or seconds new before ≡ Some x → k ≤ x.left
new_kept k seconds None before le old x h = old x h
new_kept k seconds (Some m) before le old x h = let left : seconds ≡ x.left = cc h in omega (arith, le, left)

told_keeps : (n : Network) (k seconds i : ℕ) (v : View) (t u : State) → k ≤ seconds → Keeps n k v → shown (with_words seconds i v.window t) ≡ u → IsWhole n u
    → Keeps n k (record v { window = with_words seconds i v.window t })
told_keeps n k seconds i v t u le h same whole = record {
  calm = h.calm;
  words = λ j p x. word j p x (j == i);
  marks = λ j. mark j (j == i);
  whole = subst (IsWhole n) (sym same) whole;
}
  where
    word : (j : ℕ) (p : Block) (x : Word) (b : Bool) → cond b (word_or seconds (t.shows i p) (v.window.words i p)) (v.window.words j p) ≡ Some x → k ≤ x.left
    word j p x true = new_kept k seconds (t.shows i p) (v.window.words i p) le (h.words i p) x
    word j p x false = h.words j p x

    mark : (j : ℕ) (b : Bool) → (cond b seconds (v.window.heard j) ≡ 0) ⊎ (k ≤ cond b seconds (v.window.heard j))
    mark j true = inr le
    mark j false = h.marks j

-- what is joined into the table is taken
message_keeps : (n : Network) (k seconds line : ℕ) (i : Option ℕ) (m : Message) (v : View) (u : State) → 1 ≤ k → k ≤ seconds → ((j : ℕ) → i ≡ Some j → j < length n.interfaces) → Keeps n k v
    → joined_from n (shown v.window) m i ≡ Ok u → Keeps n k (after_message n seconds line i m v) × (shown (after_message n seconds line i m v).window ≡ u)
message_keeps n k seconds line None request v u some le below h joined = (h, cc joined)
message_keeps n k seconds line None (response es) v u some le below h joined = absurd (cc joined)
message_keeps n k seconds line (Some i) request v u some le below h joined = (record { calm = h.calm; words = h.words; marks = h.marks; whole = h.whole }, cc joined)
message_keeps n k seconds line (Some i) (response es) v u some le below h joined =
    let is = from_cause (joined_message n i (shown v.window) (response es)) u joined in
    let lt : i < v.window.interfaces = omega (arith, below i refl, h.whole.wide) in
    let told = told_join n seconds i v.window es u (omega (arith, some, le)) (h.whole.listed i) is in
    let whole = whole_joined n i es (shown v.window) u lt h.whole is in
    subst (λ (r : Result State TableError). let x = with_window seconds line (window_after seconds i v.window r) v in Keeps n k x × (shown x.window ≡ u)) (sym told.1)
    (told_keeps n k seconds i v told.0 u le h told.2 whole, told.2)

-- ---- a log

later_within : (second end : ℕ) (own : Option ℕ) → second < end → ((x : ℕ) → own ≡ Some x → x < end) → (second ≤ later_second second own) × (later_second second own < end)
later_within second end None lt h = (omega arith, lt)
later_within second end (Some x) lt h = by (nat_lt second x) refl
  where
    by : (b : Bool) → nat_lt second x ≡ b → (second ≤ cond b x second) × (cond b x second < end)
    by true e = (omega (arith, ltb-true second x e), h x refl)
    by false e = (omega arith, lt)

module _ (n : Network) (window end : ℕ) (below : (c : Capture) (i : ℕ) → interface_of n c ≡ Some i → i < length n.interfaces) where
  behind : (v : View) (first second : ℕ) (count : ℕ) (x : View) (said : List LineSaid) (s : State) → EndsShowing (seconds_of n window second x said) s
      → EndsShowing (quiet n count first v ++ seconds_of n window second x said) s
  behind v first second count x said s h = record {
    before = quiet n count first v ++ h.before;
    second = h.second;
    view = h.view;
    split = ap (λ (l : List (ℕ × View)). quiet n count first v ++ l) h.split ∙ sym (append_assoc (quiet n count first v) h.before ((h.second, h.view) ∷ []));
    calm = h.calm;
    shows = h.shows;
  }

  ends : (said : List LineSaid) (records : List Numbered) (k second : ℕ) (v : View) (s : State) → second + k ≡ end → 1 ≤ k → k ≤ window → Keeps n k v → AreCaptured said records
      → ((j own : ℕ) (l : LineSaid) → slice_get said j ≡ Some l → own_second l.said ≡ Some own → own < end) → joined_records n (shown v.window) records ≡ Ok s
      → EndsShowing (seconds_of n window second v said) s
  ends [] records k second v s sum some le h are close joined =
      let same : Ok (shown v.window) ≡ Ok s = sym (ap (joined_records n (shown v.window)) are) ∙ joined in
      let shows : shown v.window ≡ s = cc same in
      record { before = []; second = second; view = closed_view n v; split = refl; calm = h.calm; shows = ap (λ (x : View). shown x.window) (closed_same n k v h) ∙ shows }
  ends (l ∷ said) [] k second v s sum some le h are close joined = absurd are
  ends (l ∷ said) (r ∷ records) k second v s sum some le h are close joined =
      let own = own_second l.said in
      let later = later_second second own in
      let within = later_within second end own (omega (arith, sum, some)) (λ x e. close 0 x l refl e) in
      let left = k - (later - second) in
      let all : k ≡ left + (later - second) = omega (arith, sum, within.0, within.1) in
      let more : 1 ≤ left = omega (arith, sum, within.0, within.1) in
      let passed = quiet_keeps n (later - second) left v more (subst (λ (j : ℕ). Keeps n j v) all h) in
      let split = then-split (joined_capture n (shown v.window) r.capture) (λ t. joined_records n t records) s joined in
      let x = after_quiet n (later - second) v in
      let line = message_keeps n left window l.line (interface_of n r.capture) (message_of_capture r.capture) x split.0 more (omega (arith, le)) (below r.capture) passed.0
      (ap (λ (t : State). joined_capture n t r.capture) passed.1 ∙ split.1) in
      let after = subst (λ (y : TimedSaid). Keeps n left (after_said n window l.line y x) × (shown (after_said n window l.line y x).window ≡ split.0)) (sym are.0.1) line in
      behind v second later (later - second) (after_said n window l.line l.said x) said s
      (ends said records left later (after_said n window l.line l.said x) s (omega (arith, sum, within.0, within.1)) more (omega (arith, le)) after.0 are.1 (λ j. close (suc j))
      (ap (λ (t : State). joined_records n t records) after.1 ∙ split.2))

new_keeps : (n : Network) (k : ℕ) → Keeps n k (new_view n)
new_keeps n k = record {
  calm = refl;
  words = λ i p x h. absurd (cc h);
  marks = λ i. inl refl;
  whole = record {
    wide = refl;
    listed = λ i p m h. absurd (cc h);
    left = λ p h. ap (λ (b : Bool). b || any_below (length n.interfaces) (λ i. false)) h;
  };
}

pub last-second : (n : Network) (window : ℕ) (said : List LineSaid) (records : List Numbered) (s : State) → ((c : Capture) (i : ℕ) → interface_of n c ≡ Some i → i < length n.interfaces)
    → AreWithin window said → AreCaptured said records → joined_records n (new_state n) records ≡ Ok s → EndsShowing (log_seconds n window said) s
last-second n window said records s below within are joined =
    let begins : own_second within.first.said ≡ Some within.second = within.begins in
    let at : slice_get said 0 ≡ Some within.first = ap (λ (l : List LineSaid). slice_get l 0) within.split in
    let some : within.second < within.second + window = within.close 0 within.second within.first at begins in
    let all = ends n window (within.second + window) below said records window within.second (new_view n) s refl (omega (arith, some)) (omega arith) (new_keeps n window) are within.close joined in
    let is : log_seconds n window said ≡ seconds_of n window within.second (new_view n) said =
    begun n window within.second said (within.first, at, begins) in
    subst (λ (l : List (ℕ × View)). EndsShowing l s) (sym is) all
