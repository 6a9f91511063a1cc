-- A table that forgets shows what was told last.
use Rattle.std.proofs.Common.{inl, inr, ◌⊎◌, ◌≡◌, ◌≢◌, ℕ, zero, suc, ◌+◌, ◌-◌, ◌==◌, ◌<◌, ◌≤◌, nat_lt, Bool, true, false, cond, List, [], ◌∷◌, ◌++◌, length, Option, Some, None, Result, Ok, Err, refl, sym, ap, subst, ◌∙◌, arith}
use Rattle.std.specs.Prelude.{◌↔◌, option_map}
use Rattle.std.specs.List.{slice_get}
use Rattle.std.proofs.lemmas.Bool.{eqb-true, ltb-true, lt-ltb}
use Rattle.std.proofs.lemmas.Bool.Decides.{nat_tests}
use Rattle.rip_wire.specs.Prefix.{Block}
use Rattle.rip_wire.specs.declared.entry.Entry.{Entry}
use Rattle.rip_plan.proofs.ItemLemmas.{get_last}
use Rattle.rip_plan.specs.Network.{Network}
use Rattle.rip_table.specs.State.{State}
use Rattle.rip_table.specs.LogJoin.{AreTaken, HasEntry}
use Rattle.rip_table.specs.Window.{Window, Word, forgotten, new_window, passed, passed_word, shown, window_after, with_words, without_shown, word_or}
use Rattle.rip_table.specs.Joined.{with_heard}
use Rattle.rip_table.specs.declared.error.TableError.{TableError}
use Rattle.rip_table.specs.Remembered.{IsHeardBy, IsShownBy, IsToldBy, Remembers, ShowsIn, Taken, later}
use Rattle.rip_table.proofs.WindowLemmas.{nothing_shown}

-- ---- so many seconds later

abbrev pub metric_in : Option Word → Option ℕ
metric_in word = option_map (λ (x : Word). x.metric) word

abbrev word_later : ℕ → Option Word → Option Word
word_later zero word = word
word_later (suc k) word = word_later k (passed_word word)

words_later : (k : ℕ) (w : Window) (i : ℕ) (p : Block) → (later k w).words i p ≡ word_later k (w.words i p)
words_later zero w i p = refl
words_later (suc k) w i p = words_later k (passed w) i p

heard_later : (k : ℕ) (w : Window) (i : ℕ) → (later k w).heard i ≡ w.heard i - k
heard_later zero w i = omega arith
heard_later (suc k) w i = let rest : w.heard i - 1 - k ≡ w.heard i - suc k = omega arith in heard_later k (passed w) i ∙ rest

none_later : (k : ℕ) → word_later k None ≡ None
none_later zero = refl
none_later (suc k) = none_later k

-- a word is shown until its seconds are over
word_left : (k m left : ℕ) → 1 ≤ left → metric_in (word_later k (Some (record { metric = m; left = left }))) ≡ cond (nat_lt k left) (Some m) None
word_left zero m left h = sym (ap (λ (b : Bool). cond b (Some m) None) (lt-ltb 0 left (omega (arith, h))))
word_left (suc k) m left h = by (nat_lt 1 left) refl (word_left k m (left - 1))
  where
    by : (b : Bool) → nat_lt 1 left ≡ b
        → (1 ≤ left - 1 → metric_in (word_later k (Some (record { metric = m; left = left - 1 }))) ≡ cond (nat_lt k (left - 1)) (Some m) None)
        → metric_in (word_later k (cond b (Some (record { metric = m; left = left - 1 })) None)) ≡ cond (nat_lt (suc k) left) (Some m) None
    by true t rest =
        let more : 1 < left = ltb-true 1 left t in
        let same : nat_lt k (left - 1) ≡ nat_lt (suc k) left = grind (arith, nat_tests, more) in
        rest (omega (arith, more)) ∙ ap (λ (b : Bool). cond b (Some m) None) same
    by false t rest =
        let over : nat_lt (suc k) left ≡ false = grind (arith, nat_tests, t) in
        ap metric_in (none_later k) ∙ sym (ap (λ (b : Bool). cond b (Some m) None) over)

-- ---- one more response

-- where the last of a list was put behind others
last_split : (taken before after : List Taken) (new last : Taken) → taken ++ new ∷ [] ≡ before ++ last ∷ after
    → ((taken ≡ before) × (new ≡ last) × (after ≡ [])) ⊎ ((rest : List Taken) × (taken ≡ before ++ last ∷ rest) × (after ≡ rest ++ new ∷ []))
last_split [] [] after new last h = let one : new ≡ last = cc h in let none : [] ≡ after = cc h in inl (refl, one, sym none)
last_split [] (b ∷ []) after new last h = absurd (cc h)
last_split [] (b ∷ c ∷ before) after new last h = absurd (cc h)
last_split (t ∷ taken) [] after new last h =
    let one : t ≡ last = cc h in
    let rest : taken ++ new ∷ [] ≡ after = cc h in
    inr (taken, ap (λ (x : Taken). x ∷ taken) one, sym rest)
last_split (t ∷ taken) (b ∷ before) after new last h =
    let one : t ≡ b = cc h in
    let rest : taken ++ new ∷ [] ≡ before ++ last ∷ after = cc h in
    more (last_split taken before after new last rest) one
  where
    more : ((taken ≡ before) × (new ≡ last) × (after ≡ [])) ⊎ ((rest : List Taken) × (taken ≡ before ++ last ∷ rest) × (after ≡ rest ++ new ∷ [])) → t ≡ b
        → ((t ∷ taken ≡ b ∷ before) × (new ≡ last) × (after ≡ [])) ⊎ ((rest : List Taken) × (t ∷ taken ≡ b ∷ before ++ last ∷ rest) × (after ≡ rest ++ new ∷ []))
    more (inl x) one = inl (ap (λ (y : Taken). y ∷ taken) one ∙ ap (λ (ys : List Taken). b ∷ ys) x.0, x.1, x.2)
    more (inr x) one = inr (x.0, ap (λ (y : Taken). y ∷ taken) one ∙ ap (λ (ys : List Taken). b ∷ ys) x.1, x.2)

-- an item of a list with one more is of the list, or that one
pub last_item : {A : Type 0} (taken : List A) (new t : A) (k : ℕ) → slice_get (taken ++ new ∷ []) k ≡ Some t → ((slice_get taken k ≡ Some t) ⊎ (t ≡ new))
last_item [] new t zero h = let one : new ≡ t = cc h in inr (sym one)
last_item [] new t (suc k) h = absurd (cc h)
last_item (x ∷ taken) new t zero h = inl h
last_item (x ∷ taken) new t (suc k) h = last_item taken new t k h

pub first_item : {A : Type 0} (taken : List A) (new t : A) (k : ℕ) → slice_get taken k ≡ Some t → slice_get (taken ++ new ∷ []) k ≡ Some t
first_item [] new t k h = absurd (cc h)
first_item (x ∷ taken) new t zero h = h
first_item (x ∷ taken) new t (suc k) h = first_item taken new t k h

append_more : (before after : List Taken) (last new : Taken) → (before ++ last ∷ after) ++ new ∷ [] ≡ before ++ last ∷ (after ++ new ∷ [])
append_more [] after last new = refl
append_more (b ∷ before) after last new = ap (λ (ys : List Taken). b ∷ ys) (append_more before after last new)

-- a response that tells nothing of the prefix for the interface changes nothing of what is shown
silent-more : (seconds n : ℕ) (taken : List Taken) (new : Taken) (i : ℕ) (p : Block) (m : ℕ) → ((x : ℕ) → new.interface ≡ i → IsToldBy new p x → ⊥)
    → IsShownBy seconds n taken i p m → IsShownBy seconds n (taken ++ new ∷ []) i p m
silent-more seconds n taken new i p m silent h = record {
  before = h.before;
  last = h.last;
  after = h.after ++ new ∷ [];
  split = ap (λ (ys : List Taken). ys ++ new ∷ []) h.split ∙ append_more h.before h.after h.last new;
  of = h.of;
  told = h.told;
  silent = λ k t x at of told. elim (last_item h.after new t k at) [
    | inl old ↦ h.silent k t x old of told
    | inr one ↦ silent x (ap (λ (y : Taken). y.interface) (sym one) ∙ of) (subst (λ (y : Taken). IsToldBy y p x) one told)
  ];
  within = h.within;
}

silent-less : (seconds n : ℕ) (taken : List Taken) (new : Taken) (i : ℕ) (p : Block) (m : ℕ) → ((x : ℕ) → new.interface ≡ i → IsToldBy new p x → ⊥)
    → IsShownBy seconds n (taken ++ new ∷ []) i p m → IsShownBy seconds n taken i p m
silent-less seconds n taken new i p m silent h = by (last_split taken h.before h.after new h.last h.split)
  where
    by : ((taken ≡ h.before) × (new ≡ h.last) × (h.after ≡ [])) ⊎ ((rest : List Taken) × (taken ≡ h.before ++ h.last ∷ rest) × (h.after ≡ rest ++ new ∷ []))
        → IsShownBy seconds n taken i p m
    by (inl x) = absurd (silent m (ap (λ (y : Taken). y.interface) x.1 ∙ h.of) (subst (λ (y : Taken). IsToldBy y p m) (sym x.1) h.told))
    by (inr x) = record {
      before = h.before;
      last = h.last;
      after = x.0;
      split = x.1;
      of = h.of;
      told = h.told;
      silent = λ k t y at of told. h.silent k t y (ap (λ (ys : List Taken). slice_get ys k) x.2 ∙ first_item x.0 new t k at) of told;
      within = h.within;
    }

-- what a response tells of the prefix is shown
shown-now : (seconds n : ℕ) (taken : List Taken) (new : Taken) (p : Block) (m : ℕ) → IsToldBy new p m → n < new.second + seconds → IsShownBy seconds n (taken ++ new ∷ []) new.interface p m
shown-now seconds n taken new p m told within = record {
  before = taken;
  last = new;
  after = [];
  split = refl;
  of = refl;
  told = told;
  silent = λ k t x at of said. absurd (cc at);
  within = within;
}

-- and nothing else
shown-only : (seconds n : ℕ) (taken : List Taken) (new : Taken) (p : Block) (m x : ℕ) → IsToldBy new p x → IsShownBy seconds n (taken ++ new ∷ []) new.interface p m
    → IsToldBy new p m × (n < new.second + seconds)
shown-only seconds n taken new p m x told h = by (last_split taken h.before h.after new h.last h.split)
  where
    by : ((taken ≡ h.before) × (new ≡ h.last) × (h.after ≡ [])) ⊎ ((rest : List Taken) × (taken ≡ h.before ++ h.last ∷ rest) × (h.after ≡ rest ++ new ∷ []))
        → IsToldBy new p m × (n < new.second + seconds)
    by (inl y) = (subst (λ (t : Taken). IsToldBy t p m) (sym y.1) h.told, subst (λ (t : Taken). n < t.second + seconds) (sym y.1) h.within)
    by (inr y) = absurd (h.silent (length y.0) new x (ap (λ (ys : List Taken). slice_get ys (length y.0)) y.2 ∙ get_last y.0 new) refl told)

same-shown : (seconds n : ℕ) (taken : List Taken) (s t : State) → ((i : ℕ) (p : Block) → t.shows i p ≡ s.shows i p) → ((i : ℕ) → t.heard i ≡ s.heard i) → ShowsIn seconds n taken s → ShowsIn seconds n taken t
same-shown seconds n taken s t shows heard h = record {
  shows = λ i p m. (λ e. (h.shows i p m).0 (sym (shows i p) ∙ e), λ e. shows i p ∙ (h.shows i p m).1 e);
  heard = λ i. (λ e. (h.heard i).0 (sym (heard i) ∙ e), λ e. heard i ∙ (h.heard i).1 e);
}

-- a metric that is told is shown for so many seconds, and one that is not told as before
module _ (seconds n i : ℕ) (old : Window) (t : State) (entries : List Entry) (taken : List Taken) (some : 1 ≤ seconds)
    (told : (p : Block) (x : ℕ) → (t.shows i p ≡ Some x) ↔ ((k : ℕ) × HasEntry entries k p x)) (h : Remembers seconds n taken old) where
  abbrev new : Taken
  new = record { second = n; interface = i; entries = entries }

  abbrev window : Window
  window = with_words seconds i old t

  -- of another interface, or of a prefix that it does not name
  as_before : (k j : ℕ) (p : Block) (m : ℕ) → ((x : ℕ) → i ≡ j → IsToldBy new p x → ⊥)
      → (metric_in (word_later k (old.words j p)) ≡ Some m) ↔ IsShownBy seconds (n + k) (taken ++ new ∷ []) j p m
  as_before k j p m silent =
      let was = (h.shown k).shows j p m in
      let word = words_later k old j p in (
        λ e. silent-more seconds (n + k) taken new j p m silent (was.0 (ap metric_in word ∙ e)),
        λ e. sym (ap metric_in word) ∙ was.1 (silent-less seconds (n + k) taken new j p m silent e),
      )

  -- of its interface
  of_it : (k : ℕ) (p : Block) (m : ℕ) (o : Option ℕ) → t.shows i p ≡ o
      → (metric_in (word_later k (word_or seconds o (old.words i p))) ≡ Some m) ↔ IsShownBy seconds (n + k) (taken ++ new ∷ []) i p m
  of_it k p m None is = as_before k i p m (λ x same said. let both : None ≡ Some x = sym is ∙ (told p x).1 said in absurd (cc both))
  of_it k p m (Some x) is = (ahead, behind)
    where
      ahead : metric_in (word_later k (Some (record { metric = x; left = seconds }))) ≡ Some m → IsShownBy seconds (n + k) (taken ++ new ∷ []) i p m
      ahead e = by (nat_lt k seconds) refl (sym (word_left k x seconds some) ∙ e)
        where
          by : (b : Bool) → nat_lt k seconds ≡ b → cond b (Some x) None ≡ Some m → IsShownBy seconds (n + k) (taken ++ new ∷ []) i p m
          by true lt same =
              let one : x ≡ m = cc same in
              shown-now seconds (n + k) taken new p m ((told p m).0 (is ∙ ap (λ (v : ℕ). Some v) one)) (omega (arith, ltb-true k seconds lt))
          by false lt same = absurd (cc same)

      behind : IsShownBy seconds (n + k) (taken ++ new ∷ []) i p m → metric_in (word_later k (Some (record { metric = x; left = seconds }))) ≡ Some m
      behind e =
          let only = shown-only seconds (n + k) taken new p m x ((told p x).0 is) e in
          let one : Some x ≡ Some m = sym is ∙ (told p m).1 only.0 in
          word_left k x seconds some ∙ ap (λ (b : Bool). cond b (Some x) None) (lt-ltb k seconds (omega (arith, only.1))) ∙ one

  shows_more : (k j : ℕ) (p : Block) (m : ℕ) → ((shown (later k window)).shows j p ≡ Some m) ↔ IsShownBy seconds (n + k) (taken ++ new ∷ []) j p m
  shows_more k j p m =
      let both = by (j == i) refl in
      let word = words_later k window j p in
      (λ e. both.0 (sym (ap metric_in word) ∙ e), λ e. ap metric_in word ∙ both.1 e)
    where
      by : (b : Bool) → (j == i) ≡ b
          → (metric_in (word_later k (cond b (word_or seconds (t.shows i p) (old.words i p)) (old.words j p))) ≡ Some m) ↔ IsShownBy seconds (n + k) (taken ++ new ∷ []) j p m
      by true e = let same : j ≡ i = eqb-true j i e in subst (λ (v : ℕ). (metric_in (word_later k (word_or seconds (t.shows i p) (old.words i p))) ≡ Some m) ↔ IsShownBy seconds (n + k) (taken ++ new ∷ []) v p m) (sym same) (of_it k p m (t.shows i p) refl)
      by false e = let apart : j ≢ i = grind (arith, nat_tests) in as_before k j p m (λ x same said. absurd (apart (sym same)))

  heard_more : (k j : ℕ) → ((shown (later k window)).heard j ≡ true) ↔ IsHeardBy seconds (n + k) (taken ++ new ∷ []) j
  heard_more k j =
      let both = by (j == i) refl in
      let mark = ap (nat_lt 0) (heard_later k window j) in
      (λ e. both.0 (sym mark ∙ e), λ e. mark ∙ both.1 e)
    where
      of_other : (j == i) ≡ false → (nat_lt 0 (old.heard j - k) ≡ true) ↔ IsHeardBy seconds (n + k) (taken ++ new ∷ []) j
      of_other e =
          let apart : j ≢ i = grind (arith, nat_tests) in
          let was = (h.shown k).heard j in
          let mark = ap (nat_lt 0) (heard_later k old j) in (
            λ d. let there = was.0 (mark ∙ d) in (there.0, there.1, first_item taken new there.1 there.0 there.2, there.3, there.4),
            λ d. sym mark ∙ was.1 (elim (last_item taken new d.1 d.0 d.2) [
              | inl at ↦ (d.0, d.1, at, d.3, d.4)
              | inr one ↦ absurd (apart (sym d.3 ∙ ap (λ (y : Taken). y.interface) one))
            ]),
          )

      by : (b : Bool) → (j == i) ≡ b → (nat_lt 0 (cond b seconds (old.heard j) - k) ≡ true) ↔ IsHeardBy seconds (n + k) (taken ++ new ∷ []) j
      by true e =
          let same : j ≡ i = eqb-true j i e in (
            λ d. let left : 0 < seconds - k = ltb-true 0 (seconds - k) d in (length taken, new, get_last taken new, sym same, omega (arith, left)),
            λ d. lt-ltb 0 (seconds - k) (elim (last_item taken new d.1 d.0 d.2) [
              | inl at ↦ omega (arith, d.4, h.past d.0 d.1 at)
              | inr one ↦ omega (arith, d.4, ap (λ (y : Taken). y.second) one)
            ]),
          )
      by false e = of_other e

  pub remembers-told : Remembers seconds n (taken ++ new ∷ []) window
  remembers-told = record {
    past = λ k x at. elim (last_item taken new x k at) [
      | inl old_one ↦ h.past k x old_one
      | inr one ↦ omega (arith, ap (λ (y : Taken). y.second) one)
    ];
    shown = λ k. record { shows = shows_more k; heard = heard_more k };
  }

-- the table that a response made, as if its interface had shown nothing
pub made_of : (seconds i : ℕ) (old new : Window) (r : Result State TableError) → window_after seconds i old r ≡ Ok new → (t : State) × (r ≡ Ok t) × (with_words seconds i old t ≡ new)
made_of seconds i old new (Ok t) h = let same : with_words seconds i old t ≡ new = cc h in (t, refl, same)
made_of seconds i old new (Err e) h = absurd (cc h)

-- what a response made shows what its entries tell
pub told_by : (i : ℕ) (s t : State) (entries : List Entry) → AreTaken i (with_heard (without_shown i s) i) entries t → (p : Block) (x : ℕ) → (t.shows i p ≡ Some x) ↔ ((k : ℕ) × HasEntry entries k p x)
told_by i s t entries h p x = (
  λ e. elim ((h.shown i p x).0 e) [
    | inl old ↦ let none : None ≡ Some x = sym (nothing_shown i s p) ∙ old in absurd (cc none)
    | inr said ↦ said.1
  ],
  λ said. (h.shown i p x).1 (inr (refl, said)),
)

-- ---- nothing, a second, and prefixes that are forgotten

none_split : {A : Type 0} (before after : List Taken) (last : Taken) → [] ≡ before ++ last ∷ after → A
none_split [] after last h = absurd (cc h)
none_split (b ∷ before) after last h = absurd (cc h)

pub remembers-nothing : (net : Network) (seconds n : ℕ) → Remembers seconds n [] (new_window net)
remembers-nothing net seconds n = record {
  past = λ k t at. absurd (cc at);
  shown = λ k. record {
    shows = λ i p m. (
      λ e. let none : None ≡ Some m = sym (ap metric_in (words_later k (new_window net) i p ∙ none_later k)) ∙ e in absurd (cc none),
      λ e. none_split e.before e.after e.last e.split,
    );
    heard = λ i. (
      λ e. let left : 0 < 0 - k = ltb-true 0 (0 - k) (sym (ap (nat_lt 0) (heard_later k (new_window net) i)) ∙ e) in absurd (omega (arith, left)),
      λ e. absurd (cc e.2),
    );
  };
}

pub remembers-passed : (seconds n : ℕ) (taken : List Taken) (w : Window) → Remembers seconds n taken w → Remembers seconds (n + 1) taken (passed w)
remembers-passed seconds n taken w h = record {
  past = λ k t at. omega (arith, h.past k t at);
  shown = λ k. let same : n + suc k ≡ n + 1 + k = omega arith in subst (λ (v : ℕ). ShowsIn seconds v taken (shown (later k (passed w)))) same (h.shown (suc k));
}

pub remembers-forgotten : (net : Network) (seconds n : ℕ) (taken : List Taken) (w : Window) → Remembers seconds n taken w → Remembers seconds n taken (forgotten net w)
remembers-forgotten net seconds n taken w h = record {
  past = h.past;
  shown = λ k. same-shown seconds (n + k) taken (shown (later k w)) (shown (later k (forgotten net w)))
      (λ i p. ap metric_in (words_later k (forgotten net w) i p ∙ sym (words_later k w i p)))
      (λ i. ap (nat_lt 0) (heard_later k (forgotten net w) i ∙ sym (heard_later k w i)))
      (h.shown k);
}
