-- What is to be seen at the end of each second of a log is what the words say.
use Rattle.std.proofs.Common.{◌⊎◌, inl, inr, ◌≡◌, ℕ, zero, suc, ◌+◌, ◌-◌, ◌==◌, ◌<◌, ◌≤◌, nat_lt, Bool, true, false, cond, ◌||◌, List, [], ◌∷◌, ◌++◌, length, filter, Option, Some, None, Result, Ok, Err, refl, sym, ap, subst, ◌∙◌, arith, append-nil, append_assoc, add-zero}
use Rattle.std.specs.Prelude.{◌↔◌, is_some}
use Rattle.std.specs.List.{slice_get}
use Rattle.std.proofs.lemmas.Bool.{eqb-true, ltb-true, or_cases}
use Rattle.std.proofs.lemmas.Bool.Decides.{nat_tests}
use Rattle.std.proofs.lemmas.Option.{slice_get_within}
use Rattle.rip_wire.specs.Prefix.{Block}
use Rattle.rip_wire.specs.Datagram.{message_or_request}
use Rattle.rip_wire.specs.Message.{Message, message_in, request, response}
use Rattle.rip_wire.specs.declared.entry.Entry.{Entry}
use Rattle.rip_wire.specs.declared.error.WireError.{WireError}
use Rattle.rip_plan.proofs.ItemLemmas.{get_last}
use Rattle.rip_plan.specs.Network.{Network}
use Rattle.rip_plan.specs.Relations.{IsLawful}
use Rattle.rip_log.specs.Lines.{Capture}
use Rattle.rip_log.specs.TimedText.{LineSaid, TimedSaid, captured, bad, untimed}
use Rattle.rip_table.specs.State.{Fits, IsState, State, is_among}
use Rattle.rip_table.specs.Joined.{interface_of, joined_message, with_heard}
use Rattle.rip_table.specs.LogJoin.{AreJoined, HasBadEntry, HasEntry, IsListed, IsResponse}
use Rattle.rip_table.specs.Remembered.{IsShownBy, IsToldBy, Remembers, ShowsIn, Taken}
use Rattle.rip_table.specs.Scenes.{View, after_message, after_said, closed_view, new_view, passed_view, with_refusal, with_window}
use Rattle.rip_table.specs.Seconds.{after_quiet, from_first, later_second, log_seconds, own_second, quiet, seconds_of}
use Rattle.rip_table.specs.Seen.{AreAsTheyCame, AreUpTo, Become, BeginsIn, CameWith, IsBefore, IsNoResponse, IsPlanned, IsRefusedAs, IsSeen, IsToldSince, RefusedLine, no_line, is_taken, is_refused, is_neither, IsToldWithin}
use Rattle.rip_table.specs.Window.{Window, Word, any_below, forgotten, passed, passed_word, shown, told_message, window_after, with_words, without_shown, word_or}
use Rattle.rip_table.specs.WindowFacts.{IsState-without_shown}
use Rattle.rip_table.specs.declared.error.TableError.{TableError}
use Rattle.rip_table.specs.declared.scene.LineCause.{LineCause}
use Rattle.rip_table.specs.declared.scene.LineCause.TheVariants.{Log, Table, UnknownSender}
use Rattle.rip_table.proofs.CheckLemmas.{heard_valid}
use Rattle.rip_table.proofs.ForgetLemmas.{any_at, filter_append, filter_some, forgotten-fits, forgotten-valid, is_left}
use Rattle.rip_table.proofs.MakesLemmas.{either_list, front_at}
use Rattle.rip_table.proofs.MetricLemmas.{LowerLaws, response_metrics}
use Rattle.rip_table.proofs.PrefixListLemmas.{is_among-item}
use Rattle.rip_table.proofs.RefusedLemmas.{entries_joined, response_refused}
use Rattle.rip_table.proofs.RememberLemmas.{first_item, last_item, made_of, metric_in, remembers-forgotten, remembers-nothing, remembers-passed, told_by}
use Rattle.rip_table.proofs.SaidLemmas.{interface_below, item-is_among}
use Rattle.rip_table.proofs.TruthLemmas.{or-true}
use Rattle.rip_table.proofs.WindowLemmas.{Fits-told, new-fits, new-valid, passed-valid, same_fits, same_number, told-valid}
use Rattle.rip_table.proofs.ComingLemmas.{FirstEntry, HaveCome, came_more, came_now, came_passed, first_entry}
use Rattle.rip_table.proofs.EpisodeLemmas.{Lasts, lasts_is, lasts_passed, lasts_refused}
use Rattle.rip_table.proofs.SecondLemmas.{later_least, later_most, later_than}

-- ---- lists and tests

-- an item that is left of a list was in it, and passes the test
filter_item : (test : Block → Bool) (ps : List Block) (k : ℕ) (p : Block) → slice_get (filter test ps) k ≡ Some p → (test p ≡ true) × ((j : ℕ) × (slice_get ps j ≡ Some p))
filter_item test [] k p h = absurd (cc h)
filter_item test (q ∷ ps) k p h = by (test q) refl k h (λ j. filter_item test ps j p)
  where
    by : (b : Bool) → test q ≡ b → (k : ℕ) → slice_get (cond b (q ∷ filter test ps) (filter test ps)) k ≡ Some p
        → ((j : ℕ) → slice_get (filter test ps) j ≡ Some p → (test p ≡ true) × ((i : ℕ) × (slice_get ps i ≡ Some p))) → (test p ≡ true) × ((j : ℕ) × (slice_get (q ∷ ps) j ≡ Some p))
    by true e zero h rest = let same : q ≡ p = cc h in (sym (ap test same) ∙ e, (zero, h))
    by true e (suc k) h rest = let there = rest k h in (there.0, (suc there.1.0, there.1.1))
    by false e k h rest = let there = rest k h in (there.0, (suc there.1.0, there.1.1))

any_found : (n : ℕ) (f : ℕ → Bool) → any_below n f ≡ true → (i : ℕ) × (f i ≡ true)
any_found zero f h = absurd (cc h)
any_found (suc n) f h = by (f n) refl h (any_found n f)
  where
    by : (b : Bool) → f n ≡ b → (b || any_below n f) ≡ true → (any_below n f ≡ true → (i : ℕ) × (f i ≡ true)) → (i : ℕ) × (f i ≡ true)
    by true e h rest = (n, e)
    by false e h rest = rest h

-- so two items that are left, in their order
filter_items : (test : Block → Bool) (ps : List Block) (a b : ℕ) (p q : Block) → a < b → slice_get (filter test ps) a ≡ Some p → slice_get (filter test ps) b ≡ Some q
    → (c d : ℕ) × (c < d) × (slice_get ps c ≡ Some p) × (slice_get ps d ≡ Some q)
filter_items test [] a b p q lt first then = absurd (cc first)
filter_items test (r ∷ ps) a b p q lt first then = by (test r) a b lt first then (λ c d. filter_items test ps c d p q) (λ d. filter_item test ps d q)
  where
    by : (x : Bool) (a b : ℕ) → a < b → slice_get (cond x (r ∷ filter test ps) (filter test ps)) a ≡ Some p → slice_get (cond x (r ∷ filter test ps) (filter test ps)) b ≡ Some q
        → ((c d : ℕ) → c < d → slice_get (filter test ps) c ≡ Some p → slice_get (filter test ps) d ≡ Some q → (e f : ℕ) × (e < f) × (slice_get ps e ≡ Some p) × (slice_get ps f ≡ Some q))
        → ((d : ℕ) → slice_get (filter test ps) d ≡ Some q → (test q ≡ true) × ((j : ℕ) × (slice_get ps j ≡ Some q)))
        → (c d : ℕ) × (c < d) × (slice_get (r ∷ ps) c ≡ Some p) × (slice_get (r ∷ ps) d ≡ Some q)
    by true a zero lt first then both one = absurd (omega (arith, lt))
    by true zero (suc b) lt first then both one = let there = one b then in (zero, suc there.1.0, omega arith, first, there.1.1)
    by true (suc a) (suc b) lt first then both one = let there = both a b (omega (arith, lt)) first then in (suc there.0, suc there.1, omega (arith, there.2), there.3, there.4)
    by false a b lt first then both one = let there = both a b lt first then in (suc there.0, suc there.1, omega (arith, there.2), there.3, there.4)

-- an item of the second of two lists
behind_item : {A : Type 0} (xs ys : List A) (k : ℕ) (y : A) → slice_get ys k ≡ Some y → slice_get (xs ++ ys) (length xs + k) ≡ Some y
behind_item [] ys k y at = let same : k ≡ 0 + k = omega arith in ap (slice_get ys) (sym same) ∙ at
behind_item (x ∷ xs) ys k y at = let same : suc (length xs + k) ≡ suc (length xs) + k = omega arith in sym (ap (slice_get (x ∷ xs ++ ys)) same) ∙ behind_item xs ys k y at

middle_item : {A : Type 0} (before after : List A) (x : A) → slice_get (before ++ x ∷ after) (length before) ≡ Some x
middle_item [] after x = refl
middle_item (b ∷ before) after x = middle_item before after x

-- ---- what was told and is not over stands in the table

abbrev IsAlive : ℕ → ℕ → Option Word → ℕ → Type 0
IsAlive window second word from = (from + window ≤ second) ⊎ ((y : Word) × (word ≡ Some y) × (from + window ≤ second + y.left))

alive_passed : (window second : ℕ) (word : Option Word) (from : ℕ) → IsAlive window second word from → IsAlive window (second + 1) (passed_word word) from
alive_passed window second word from (inl over) = inl (omega (arith, over))
alive_passed window second word from (inr (y, is, le)) = subst (λ (w : Option Word). IsAlive window (second + 1) (passed_word w) from) (sym is) (by (nat_lt 1 y.left) refl)
  where
    by : (b : Bool) → nat_lt 1 y.left ≡ b → IsAlive window (second + 1) (cond b (Some (record { metric = y.metric; left = y.left - 1 })) None) from
    by true t = let more : 1 < y.left = ltb-true 1 y.left t in inr (record { metric = y.metric; left = y.left - 1 }, refl, omega (arith, more, le))
    by false t = let less : y.left ≤ 1 = grind (arith, nat_tests, t) in inl (omega (arith, less, le))

alive_told : (window second : ℕ) (new : Option ℕ) (word : Option Word) (from : ℕ) → from ≤ second → IsAlive window second word from → IsAlive window second (word_or window new word) from
alive_told window second None word from le h = h
alive_told window second (Some m) word from le h = inr (record { metric = m; left = window }, refl, omega (arith, le))

-- the clause `told` of the law `windows`
abbrev pub ToldLaw : Type 0
ToldLaw = (n : Network) (seconds second i : ℕ) (old new : Window) (c : Capture) (entries : List Entry) (taken : List Taken) → 1 ≤ seconds
    → IsState (shown old) → Fits n (shown old) → IsResponse n c i entries
    → told_message n seconds i old (response entries) ≡ Ok new → Remembers seconds second taken old
    → Remembers seconds second (taken ++ (record { second = second; interface = i; entries = entries }) ∷ []) new

module _ (below : LowerLaws) (told : ToldLaw) (n : Network) (lawful : IsLawful n) (window first : ℕ) (some : 1 ≤ window) where
  -- what is so in a second, when these lines have come
  record Going (lines : List LineSaid) (last second : ℕ) (v : View) : Type 0 where
    pub taken : List Taken
    pub refused : List RefusedLine
    pub become : Become n window first lines last taken refused
    pub reached : last ≤ second
    pub early : (k own : ℕ) (l : LineSaid) → slice_get lines k ≡ Some l → own_second l.said ≡ Some own → own ≤ second
    pub remembers : Remembers window second taken v.window
    pub valid : IsState (shown v.window)
    pub fits : Fits n (shown v.window)
    pub listed : (p : Block) → IsListed (shown v.window) p ↔ (IsPlanned n p ⊎ IsToldSince window second taken p)
    pub others : List Block
    pub prefixes : v.window.prefixes ≡ n.prefixes ++ others
    pub come : HaveCome window second taken others
    pub order : AreAsTheyCame window second taken others
    pub alive : (k x : ℕ) (p : Block) (t : Taken) → slice_get taken k ≡ Some t → IsToldBy t p x → IsAlive window second (v.window.words t.interface p) t.second
    pub planned : (k : ℕ) (t : Taken) → slice_get taken k ≡ Some t → t.interface < length n.interfaces
    pub past : (k : ℕ) (r : RefusedLine) → slice_get refused k ≡ Some r → r.second ≤ second
    pub lasts : Lasts window second refused v.episode

  starts : Going [] first first (new_view n)
  starts = record {
    taken = [];
    refused = [];
    become = no_line;
    reached = omega arith;
    early = λ k own l at is. absurd (cc at);
    remembers = remembers-nothing n window first;
    valid = new-valid n lawful;
    fits = new-fits n;
    listed = λ p. (λ h. inl h, λ h. elim h [ inl planned ↦ planned | inr since ↦ absurd (cc since.3) ]);
    others = [];
    prefixes = sym (append-nil n.prefixes);
    come = λ a p at. absurd (cc at);
    order = λ a b p q lt at. absurd (cc at);
    alive = λ k x p t at says. absurd (cc at);
    planned = λ k t at. absurd (cc at);
    past = λ k r at. absurd (cc at);
    lasts = λ k r at. absurd (cc at);
  }

  -- ---- the end of a second

  shows_now : (lines : List LineSaid) (last second : ℕ) (v : View) (g : Going lines last second v) → ShowsIn window second g.taken (shown v.window)
  shows_now lines last second v g = subst (λ (s : ℕ). ShowsIn window s g.taken (shown v.window)) (add-zero second) (g.remembers.shown 0)

  metric_some : (word : Option Word) → is_some word ≡ true → (m : ℕ) × (metric_in word ≡ Some m)
  metric_some None h = absurd (cc h)
  metric_some (Some x) h = (x.metric, refl)

  some_is : (word : Option Word) (m : ℕ) → metric_in word ≡ Some m → is_some word ≡ true
  some_is None m h = absurd (cc h)
  some_is (Some x) m h = refl

  -- what is shown was told in one of the last so many seconds
  shown_within : (lines : List LineSaid) (last second : ℕ) (v : View) (g : Going lines last second v) (i m : ℕ) (p : Block) → IsShownBy window second g.taken i p m
      → (i < v.window.interfaces) × IsToldWithin window second g.taken p
  shown_within lines last second v g i m p h =
      let at = ap (λ (l : List Taken). slice_get l (length h.before)) h.split ∙ middle_item h.before h.after h.last in
      let lt = g.planned (length h.before) h.last at in
      let past = g.remembers.past (length h.before) h.last at in
      (omega (arith, lt, h.of, g.fits.interfaces), (length h.before, m, h.last, at, h.told, past, h.within))

  within_since : (second : ℕ) (taken : List Taken) (p : Block) → IsToldWithin window second taken p → IsToldSince window (second + 1) taken p
  within_since second taken p h = (h.0, h.1, h.2, h.3, h.4, omega (arith, h.6))

  since_less : (second : ℕ) (taken : List Taken) (p : Block) → IsToldSince window (second + 1) taken p → IsToldSince window second taken p
  since_less second taken p h = (h.0, h.1, h.2, h.3, h.4, omega (arith, h.5))

  since_shown : (lines : List LineSaid) (last second : ℕ) (v : View) (g : Going lines last second v) (p : Block) → IsToldSince window (second + 1) g.taken p
      → (i m : ℕ) × IsShownBy window second g.taken i p m
  since_shown lines last second v g p (k, x, t, at, says, le) = by (g.alive k x p t at says)
    where
      by : IsAlive window second (v.window.words t.interface p) t.second → (i m : ℕ) × IsShownBy window second g.taken i p m
      by (inl over) = absurd (omega (arith, over, le))
      by (inr (y, is, left)) = (t.interface, y.metric, ((shows_now lines last second v g).shows t.interface p y.metric).0 (ap metric_in is))

  closed_listed : (lines : List LineSaid) (last second : ℕ) (v : View) (g : Going lines last second v) (p : Block)
      → IsListed (shown (forgotten n v.window)) p ↔ (IsPlanned n p ⊎ ((i m : ℕ) × IsShownBy window second g.taken i p m))
  closed_listed lines last second v g p = (ahead, behind)
    where
      ahead : IsListed (shown (forgotten n v.window)) p → IsPlanned n p ⊎ ((i m : ℕ) × IsShownBy window second g.taken i p m)
      ahead (k, at) = elim (or_cases (is_among p n.prefixes) (any_below v.window.interfaces (λ i. is_some (v.window.words i p))) (filter_item (is_left n v.window) v.window.prefixes k p at).0) [
        | inl among ↦ inl (item-is_among p n.prefixes among)
        | inr any ↦
            let found = any_found v.window.interfaces (λ i. is_some (v.window.words i p)) any in
            let metric = metric_some (v.window.words found.0 p) found.1 in
            inr (found.0, metric.0, ((shows_now lines last second v g).shows found.0 p metric.0).0 metric.1)
      ]

      kept : is_left n v.window p ≡ true → IsListed (shown v.window) p → IsListed (shown (forgotten n v.window)) p
      kept left (k, at) = item-is_among p (filter (is_left n v.window) v.window.prefixes) (filter_some (is_left n v.window) p v.window.prefixes left (is_among-item v.window.prefixes k p at))

      behind : IsPlanned n p ⊎ ((i m : ℕ) × IsShownBy window second g.taken i p m) → IsListed (shown (forgotten n v.window)) p
      behind (inl (k, at)) =
          kept (ap (λ (b : Bool). b || any_below v.window.interfaces (λ i. is_some (v.window.words i p))) (is_among-item n.prefixes k p at)) ((g.listed p).1 (inl (k, at)))
      behind (inr (i, m, h)) =
          let within = shown_within lines last second v g i m p h in
          let there = some_is (v.window.words i p) m (((shows_now lines last second v g).shows i p m).1 h) in
          kept (ap (λ (b : Bool). is_among p n.prefixes || b) (any_at v.window.interfaces (λ j. is_some (v.window.words j p)) i within.0 there) ∙ or-true (is_among p n.prefixes))
          ((g.listed p).1 (inr (since_less second g.taken p (within_since second g.taken p within.1))))

  -- which prefixes are left, and how they stand
  module _ (lines : List LineSaid) (last second : ℕ) (v : View) (g : Going lines last second v) where
    left_prefixes : (forgotten n v.window).prefixes ≡ n.prefixes ++ filter (is_left n v.window) g.others
    left_prefixes =
        ap (filter (is_left n v.window)) g.prefixes
        ∙ filter_append (is_left n v.window) n.prefixes g.others (λ p h. ap (λ (b : Bool). b || any_below v.window.interfaces (λ i. is_some (v.window.words i p))) h)

    not_planned : (a : ℕ) (p : Block) → slice_get g.others a ≡ Some p → IsPlanned n p → ⊥
    not_planned a p at (k, there) =
        let first = ap (λ (ps : List Block). slice_get ps k) g.prefixes ∙ front_at n.prefixes g.others k p there in
        let then = ap (λ (ps : List Block). slice_get ps (length n.prefixes + a)) g.prefixes ∙ behind_item n.prefixes g.others a p at in
        let same : k ≡ length n.prefixes + a = g.valid.differ k (length n.prefixes + a) p first then in
        omega (arith, same, slice_get_within n.prefixes k p there)

    left_within : (a : ℕ) (p : Block) → slice_get (filter (is_left n v.window) g.others) a ≡ Some p → IsToldWithin window second g.taken p
    left_within a p at =
        let item = filter_item (is_left n v.window) g.others a p at in
        elim (or_cases (is_among p n.prefixes) (any_below v.window.interfaces (λ i. is_some (v.window.words i p))) item.0) [
          | inl among ↦ absurd (not_planned item.1.0 p item.1.1 (item-is_among p n.prefixes among))
          | inr any ↦
              let found = any_found v.window.interfaces (λ i. is_some (v.window.words i p)) any in
              let metric = metric_some (v.window.words found.0 p) found.1 in
              (shown_within lines last second v g found.0 metric.0 p (((shows_now lines last second v g).shows found.0 p metric.0).0 metric.1)).1
        ]

    left_come : HaveCome window (second + 1) g.taken (filter (is_left n v.window) g.others)
    left_come a p at =
        let item = filter_item (is_left n v.window) g.others a p at in
        let came = g.come item.1.0 p item.1.1 in
        (came.0, came.1, came_passed window second g.taken p came.0 came.1 (left_within a p at) came.2)

    left_order : AreAsTheyCame window second g.taken (filter (is_left n v.window) g.others)
    left_order a b p q lt first then =
        let items = filter_items (is_left n v.window) g.others a b p q lt first then in
        g.order items.0 items.1 p q items.2 items.3 items.4

    order_passed : AreAsTheyCame window (second + 1) g.taken (filter (is_left n v.window) g.others)
    order_passed a b p q lt first then =
        let (k, j, l, m, one, other, before) = left_order a b p q lt first then in
        (k, j, l, m, came_passed window second g.taken p k j (left_within a p first) one, came_passed window second g.taken q l m (left_within b q then) other, before)

  passes : (lines : List LineSaid) (last second : ℕ) (v : View) → Going lines last second v → Going lines last (second + 1) (passed_view (closed_view n v))
  passes lines last second v g = record {
    taken = g.taken;
    refused = g.refused;
    become = g.become;
    reached = omega (arith, g.reached);
    early = λ k own l at is. omega (arith, g.early k own l at is);
    remembers = remembers-passed window second g.taken (forgotten n v.window) (remembers-forgotten n window second g.taken v.window g.remembers);
    valid = passed-valid (forgotten n v.window) (forgotten-valid n v.window g.valid);
    fits = same_fits n (shown (forgotten n v.window)) (shown (passed (forgotten n v.window))) refl refl (forgotten-fits n v.window g.fits);
    listed = λ p. (
      λ h. elim ((closed_listed lines last second v g p).0 h) [
        | inl planned ↦ inl planned
        | inr by ↦ inr (within_since second g.taken p (shown_within lines last second v g by.0 by.1 p by.2).1)
      ],
      λ h. (closed_listed lines last second v g p).1 (elim h [
        | inl planned ↦ inl planned
        | inr since ↦ inr (since_shown lines last second v g p since)
      ]),
    );
    others = filter (is_left n v.window) g.others;
    prefixes = left_prefixes lines last second v g;
    come = left_come lines last second v g;
    order = order_passed lines last second v g;
    alive = λ k x p t at says. alive_passed window second (v.window.words t.interface p) t.second (g.alive k x p t at says);
    planned = g.planned;
    past = λ k r at. omega (arith, g.past k r at);
    lasts = lasts_passed window second g.refused v.episode g.lasts;
  }

  seen : (said lines : List LineSaid) (last second : ℕ) (v : View) → BeginsIn said first → AreUpTo second said lines → Going lines last second v → IsSeen n window said second (closed_view n v)
  seen said lines last second v begins up_to g = record {
    first = first;
    begins = begins;
    lines = lines;
    up_to = up_to;
    last = last;
    taken = g.taken;
    refused = g.refused;
    become = g.become;
    interfaces = g.fits.interfaces;
    shows = let now = shows_now lines last second v g in record { shows = now.shows; heard = now.heard };
    listed = closed_listed lines last second v g;
    differ = (forgotten-valid n v.window g.valid).differ;
    others = filter (is_left n v.window) g.others;
    prefixes = left_prefixes lines last second v g;
    order = left_order lines last second v g;
    episode = lasts_is window second g.refused v.episode g.lasts;
  }

  -- ---- a line

  is_before : (lines : List LineSaid) (last second : ℕ) (v : View) (g : Going lines last second v) → IsBefore n window second g.taken (shown v.window)
  is_before lines last second v g = record {
    interfaces = g.fits.interfaces;
    shows = shows_now lines last second v g;
    listed = g.listed;
    differ = g.valid.differ;
  }

  early_more : (lines : List LineSaid) (l : LineSaid) (last second : ℕ) → second ≡ later_second last (own_second l.said)
      → ((k own : ℕ) (q : LineSaid) → slice_get lines k ≡ Some q → own_second q.said ≡ Some own → own ≤ second)
      → (k own : ℕ) (q : LineSaid) → slice_get (lines ++ l ∷ []) k ≡ Some q → own_second q.said ≡ Some own → own ≤ second
  early_more lines l last second now early k own q at is = elim (last_item lines l q k at) [
    | inl old ↦ early k own q old is
    | inr one ↦
        let here : own_second l.said ≡ Some own = sym (ap (λ (x : LineSaid). own_second x.said) one) ∙ is in
        omega (arith, now ∙ ap (later_second last) here, later_most last own)
  ]

  refuses : (lines : List LineSaid) (last second : ℕ) (v : View) (l : LineSaid) (cause : LineCause) (g : Going lines last second v) → second ≡ later_second last (own_second l.said)
      → IsRefusedAs n window second g.taken l.said cause → Going (lines ++ l ∷ []) second second (with_refusal window l.line cause v)
  refuses lines last second v l cause g now is =
      let r : RefusedLine = record { second = second; refusal = record { line = l.line; cause = cause } } in record {
        taken = g.taken;
        refused = g.refused ++ r ∷ [];
        become = is_refused lines last g.taken g.refused l r g.become now refl is;
        reached = omega arith;
        early = early_more lines l last second now g.early;
        remembers = g.remembers;
        valid = g.valid;
        fits = g.fits;
        listed = g.listed;
        others = g.others;
        prefixes = g.prefixes;
        come = g.come;
        order = g.order;
        alive = g.alive;
        planned = g.planned;
        past = λ k q at. elim (last_item g.refused r q k at) [
          | inl old ↦ g.past k q old
          | inr one ↦ omega (arith, ap (λ (x : RefusedLine). x.second) one)
        ];
        lasts = lasts_refused window second g.refused v.episode r some refl g.past g.lasts;
      }

  ignores : (lines : List LineSaid) (last second : ℕ) (v : View) (l : LineSaid) (g : Going lines last second v) → second ≡ later_second last (own_second l.said) → IsNoResponse l.said
      → Going (lines ++ l ∷ []) second second v
  ignores lines last second v l g now is = record {
    taken = g.taken;
    refused = g.refused;
    become = subst (λ (s : ℕ). Become n window first (lines ++ l ∷ []) s g.taken g.refused) (sym now) (is_neither lines last g.taken g.refused l g.become is);
    reached = omega arith;
    early = early_more lines l last second now g.early;
    remembers = g.remembers;
    valid = g.valid;
    fits = g.fits;
    listed = g.listed;
    others = g.others;
    prefixes = g.prefixes;
    come = g.come;
    order = g.order;
    alive = g.alive;
    planned = g.planned;
    past = g.past;
    lasts = g.lasts;
  }

  -- a response of an interface
  module _ (lines : List LineSaid) (last second : ℕ) (v : View) (line micros : ℕ) (c : Capture) (g : Going lines last second v) (now : second ≡ later_second last (own_second (captured micros c)))
      (i : ℕ) (entries : List Entry) (response_is : IsResponse n c i entries) where
    abbrev l : LineSaid
    l = record { line = line; said = captured micros c }

    abbrev unshown : State
    unshown = without_shown i (shown v.window)

    unshown_valid : IsState unshown
    unshown_valid = IsState-without_shown i (shown v.window) g.valid

    unshown_fits : Fits n unshown
    unshown_fits = same_fits n (shown v.window) unshown refl refl g.fits

    lt : i < v.window.interfaces
    lt = interface_below n (shown v.window) c.link c.sender i g.fits response_is.from

    refused_by : (error : TableError) → (joined_message n i unshown (response entries) ≡ Err error) ↔ HasBadEntry n unshown c error
    refused_by error = response_refused below n unshown c i entries error lawful unshown_valid unshown_fits response_is

    takes : (new : Window) → told_message n window i v.window (response entries) ≡ Ok new → Going (lines ++ l ∷ []) second second (record v { window = new })
    takes new h = record {
      taken = g.taken ++ t ∷ [];
      refused = g.refused;
      become = is_taken lines last g.taken g.refused l t g.become now (response_is, shown v.window, is_before lines last second v g, good);
      reached = omega arith;
      early = early_more lines l last second now g.early;
      remembers = told n window second i v.window new c entries g.taken some g.valid g.fits response_is h g.remembers;
      valid = subst (λ (w : Window). IsState (shown w)) made.2 (told-valid n window i v.window entries lt g.valid (made.0, made.1, joined.state));
      fits = Fits-told n window i v.window new (response entries) (Ok tt) g.fits h;
      listed = λ p. (ahead p, behind p);
      others = g.others ++ joined.taken.others;
      prefixes = all_prefixes;
      come = all_come;
      order = all_order;
      alive = λ k x p q at says. elim (last_item g.taken t q k at) [
        | inl old ↦ subst (λ (w : Window). IsAlive window second (w.words q.interface p) q.second) made.2 (alive_old k x p q old says (q.interface == i) refl)
        | inr one ↦ subst (λ (w : Window). IsAlive window second (w.words q.interface p) q.second) made.2 (alive_new x p q says one)
      ];
      planned = λ k q at. elim (last_item g.taken t q k at) [
        | inl old ↦ g.planned k q old
        | inr one ↦ omega (arith, lt, g.fits.interfaces, ap (λ (x : Taken). x.interface) one)
      ];
      past = g.past;
      lasts = g.lasts;
    }
      where
        t : Taken
        t = record { second = second; interface = i; entries = entries }

        made : (s : State) × (joined_message n i unshown (response entries) ≡ Ok s) × (with_words window i v.window s ≡ new)
        made = made_of window i v.window new (joined_message n i unshown (response entries)) h

        joined : AreJoined n i (with_heard unshown i) entries made.0
        joined = entries_joined n i (with_heard unshown i) made.0 entries (response_metrics c.datagram entries response_is.says) (heard_valid unshown i unshown_valid) lt made.1

        good : (error : TableError) → ¬ HasBadEntry n unshown c error
        good error first_bad = let clash = sym made.1 ∙ (refused_by error).1 first_bad in cc clash

        says_told : (p : Block) (x : ℕ) → (made.0.shows i p ≡ Some x) ↔ ((k : ℕ) × HasEntry entries k p x)
        says_told = told_by i (shown v.window) made.0 entries joined.taken

        prefixes : new.prefixes ≡ made.0.prefixes
        prefixes = sym (ap (λ (w : Window). w.prefixes) made.2)

        ahead : (p : Block) → IsListed (shown new) p → IsPlanned n p ⊎ IsToldSince window second (g.taken ++ t ∷ []) p
        ahead p (k, at) = elim ((joined.taken.listed p).0 (k, sym (ap (λ (ps : List Block). slice_get ps k) prefixes) ∙ at)) [
          | inl old ↦ elim ((g.listed p).0 old) [
            | inl planned ↦ inl planned
            | inr since ↦ inr (since.0, since.1, since.2, first_item g.taken t since.2 since.0 since.3, since.4, since.5)
          ]
          | inr has ↦ inr (length g.taken, has.1, t, get_last g.taken t, (has.0, has.2), omega arith)
        ]

        listed_in : (p : Block) → IsListed made.0 p → IsListed (shown new) p
        listed_in p (k, at) = (k, ap (λ (ps : List Block). slice_get ps k) prefixes ∙ at)

        behind : (p : Block) → IsPlanned n p ⊎ IsToldSince window second (g.taken ++ t ∷ []) p → IsListed (shown new) p
        behind p (inl planned) = listed_in p ((joined.taken.listed p).1 (inl ((g.listed p).1 (inl planned))))
        behind p (inr (k, x, q, at, says, le)) = listed_in p ((joined.taken.listed p).1 (elim (last_item g.taken t q k at) [
          | inl old ↦ inl ((g.listed p).1 (inr (k, x, q, old, says, le)))
          | inr one ↦ let has = subst (λ (y : Taken). IsToldBy y p x) one says in inr (has.0, x, has.1)
        ]))

        all_prefixes : new.prefixes ≡ n.prefixes ++ (g.others ++ joined.taken.others)
        all_prefixes = prefixes ∙ joined.taken.prefixes ∙ ap (λ (ps : List Block). ps ++ joined.taken.others) g.prefixes ∙ append_assoc n.prefixes g.others joined.taken.others

        -- a prefix that is new came with the first entry that is of it
        fresh : (a : ℕ) (p : Block) → slice_get joined.taken.others a ≡ Some p → (k : ℕ) × (f : FirstEntry entries p k) × CameWith window second (g.taken ++ t ∷ []) p (length g.taken) f.number
        fresh a p at = elim ((joined.taken.listed p).0 (length v.window.prefixes + a, there)) [
          | inl old ↦ absurd (not_old old)
          | inr has ↦
              let entry = first_entry entries p has.0 has.1 has.2 in
              (has.0, entry, came_now window g.taken t p has.0 entry (λ since. not_old ((g.listed p).1 (inr since))))
        ]
          where
            there : slice_get made.0.prefixes (length v.window.prefixes + a) ≡ Some p
            there = ap (λ (ps : List Block). slice_get ps (length v.window.prefixes + a)) joined.taken.prefixes ∙ behind_item v.window.prefixes joined.taken.others a p at

            not_old : IsListed (shown v.window) p → ⊥
            not_old (k, here) =
                let same : k ≡ length v.window.prefixes + a = joined.state.differ k (length v.window.prefixes + a) p
                (ap (λ (ps : List Block). slice_get ps k) joined.taken.prefixes ∙ front_at v.window.prefixes joined.taken.others k p here) there in
                omega (arith, same, slice_get_within v.window.prefixes k p here)

        more : (p : Block) (k j : ℕ) → CameWith window second g.taken p k j → CameWith window second (g.taken ++ t ∷ []) p k j
        more p k j = came_more window second g.taken t p k j

        all_come : HaveCome window second (g.taken ++ t ∷ []) (g.others ++ joined.taken.others)
        all_come a p at = elim (either_list g.others joined.taken.others a p at) [
          | inl old ↦ let came = g.come a p old in (came.0, came.1, more p came.0 came.1 came.2)
          | inr (j, _, new_at) ↦ let came = fresh j p new_at in (length g.taken, came.1.number, came.2)
        ]

        all_order : AreAsTheyCame window second (g.taken ++ t ∷ []) (g.others ++ joined.taken.others)
        all_order a b p q less first_at then = elim (either_list g.others joined.taken.others a p first_at) [
          | inl x ↦ elim (either_list g.others joined.taken.others b q then) [
            | inl y ↦ let (k, j, l, m, one, other, before) = g.order a b p q less x y in (k, j, l, m, more p k j one, more q l m other, before)
            | inr (d, _, y) ↦
                let came = g.come a p x in
                let one = came.2 in
                let other = fresh d q y in
                (came.0, came.1, length g.taken, other.1.number, more p came.0 came.1 one, other.2, inl (slice_get_within g.taken came.0 one.response one.at))
          ]
          | inr (c, is, x) ↦ elim (either_list g.others joined.taken.others b q then) [
            | inl y ↦ absurd (omega (arith, less, is, slice_get_within g.others b q y))
            | inr (d, also, y) ↦
                let one = fresh c p x in
                let other = fresh d q y in
                let sooner = joined.taken.order c d p q (omega (arith, less, is, also)) x y other.1.number other.1.metric other.1.has in
                (length g.taken, one.1.number, length g.taken, other.1.number, one.2, other.2, inr (refl, omega (arith, one.1.first sooner.0 sooner.1 sooner.2, sooner.3)))
          ]
        ]

        alive_old : (k x : ℕ) (p : Block) (q : Taken) → slice_get g.taken k ≡ Some q → IsToldBy q p x → (b : Bool) → (q.interface == i) ≡ b
            → IsAlive window second (cond b (word_or window (made.0.shows i p) (v.window.words i p)) (v.window.words q.interface p)) q.second
        alive_old k x p q at says true e =
            let old = subst (λ (j : ℕ). IsAlive window second (v.window.words j p) q.second) (eqb-true q.interface i e) (g.alive k x p q at says) in
            alive_told window second (made.0.shows i p) (v.window.words i p) q.second (g.remembers.past k q at) old
        alive_old k x p q at says false e = g.alive k x p q at says

        alive_new : (x : ℕ) (p : Block) (q : Taken) → IsToldBy q p x → q ≡ t
            → IsAlive window second (cond (q.interface == i) (word_or window (made.0.shows i p) (v.window.words i p)) (v.window.words q.interface p)) q.second
        alive_new x p q says one =
            let here : made.0.shows i p ≡ Some x = (says_told p x).1 (subst (λ (y : Taken). IsToldBy y p x) one says) in
            subst (λ (y : Taken). IsAlive window second (cond (y.interface == i) (word_or window (made.0.shows i p) (v.window.words i p)) (v.window.words y.interface p)) y.second) (sym one)
            (subst (λ (b : Bool). IsAlive window second (cond b (word_or window (made.0.shows i p) (v.window.words i p)) (v.window.words i p)) second) (sym (same_number i))
            (subst (λ (o : Option ℕ). IsAlive window second (word_or window o (v.window.words i p)) second) (sym here)
            (inr (record { metric = x; left = window }, refl, omega arith))))

    answers : (r : Result Window TableError) → told_message n window i v.window (response entries) ≡ r → Going (lines ++ l ∷ []) second second (with_window window line r v)
    answers (Ok new) h = takes new h
    answers (Err e) h =
        let first = (refused_by e).0 (joined_err (joined_message n i unshown (response entries)) h) in
        refuses lines last second v l (Table e) g now (i, shown v.window, response_is.from, is_before lines last second v g, first)
      where
        joined_err : (r : Result State TableError) → window_after window i v.window r ≡ Err e → r ≡ Err e
        joined_err (Ok s) k = absurd (cc k)
        joined_err (Err f) k = let same : f ≡ e = cc k in ap (λ (x : TableError). Err x) same

  comes : (lines : List LineSaid) (last second : ℕ) (v : View) (line : ℕ) (said : TimedSaid) (g : Going lines last second v) → second ≡ later_second last (own_second said)
      → Going (lines ++ (record { line = line; said = said }) ∷ []) second second (after_said n window line said v)
  comes lines last second v line (bad micros code) g now = refuses lines last second v (record { line = line; said = bad micros code }) (Log code) g now refl
  comes lines last second v line (untimed code) g now = refuses lines last second v (record { line = line; said = untimed code }) (Log code) g now refl
  comes lines last second v line (captured micros c) g now = by (message_in c.datagram) refl (interface_of n c) refl
    where
      none : (m : Result Message WireError) → message_in c.datagram ≡ m → ((es : List Entry) → ◌≡◌ {A = Result Message WireError} m (Ok (response es)) → ⊥) → IsNoResponse (captured micros c)
      none m is other es says = other es (sym is ∙ (below.fields es c.datagram).1 says)

      ignored : IsNoResponse (captured micros c) → Going (lines ++ (record { line = line; said = captured micros c }) ∷ []) second second v
      ignored = ignores lines last second v (record { line = line; said = captured micros c }) g now

      a_request : (o : Option ℕ) → IsNoResponse (captured micros c) → Going (lines ++ (record { line = line; said = captured micros c }) ∷ []) second second (after_message n window line o request v)
      a_request None no_response = ignored no_response
      a_request (Some i) no_response = ignored no_response

      by : (m : Result Message WireError) → message_in c.datagram ≡ m → (o : Option ℕ) → interface_of n c ≡ o
          → Going (lines ++ (record { line = line; said = captured micros c }) ∷ []) second second (after_message n window line o (message_or_request m) v)
      by (Err e) is o found = a_request o (none (Err e) is (λ es k. cc k))
      by (Ok request) is o found = a_request o (none (Ok request) is (λ es k. cc k))
      by (Ok (response es)) is None found =
          refuses lines last second v (record { line = line; said = captured micros c }) UnknownSender g now (record {
            entries = es;
            says = (below.fields es c.datagram).0 is;
            nobody = λ i at. let clash : Some i ≡ None = sym (below.finds n c.link c.sender i lawful at) ∙ found in cc clash;
          })
      by (Ok (response es)) is (Some i) found =
          answers lines last second v line micros c g now i es (record { from = below.gives n c.link c.sender i found; says = (below.fields es c.datagram).0 is })
          (told_message n window i v.window (response es)) refl

  -- ---- a log

  goes_quiet : (count : ℕ) (lines : List LineSaid) (last second : ℕ) (v : View) → Going lines last second v → Going lines last (second + count) (after_quiet n count v)
  goes_quiet zero lines last second v g = subst (λ (s : ℕ). Going lines last s v) (sym (add-zero second)) g
  goes_quiet (suc count) lines last second v g =
      let same : second + 1 + count ≡ second + suc count = omega arith in
      subst (λ (s : ℕ). Going lines last s (after_quiet n (suc count) v)) same (goes_quiet count lines last (second + 1) (passed_view (closed_view n v)) (passes lines last second v g))

  module _ (said : List LineSaid) (begins : BeginsIn said first) where
    abbrev Sees : ℕ × View → Type 0
    Sees x = IsSeen n window said x.0 x.1

    sees_quiet : (count : ℕ) (lines rest : List LineSaid) (last second : ℕ) (v : View) → said ≡ lines ++ rest
        → ((l : LineSaid) → slice_get rest 0 ≡ Some l → (s : ℕ) → second ≤ s → s < second + count → (own : ℕ) × (own_second l.said ≡ Some own) × (s < own))
        → Going lines last second v → (k : ℕ) (x : ℕ × View) → slice_get (quiet n count second v) k ≡ Some x → Sees x
    sees_quiet zero lines rest last second v split late g k x at = absurd (cc at)
    sees_quiet (suc count) lines rest last second v split late g zero x at =
        let here : ◌≡◌ {A = ℕ × View} (second, closed_view n v) x = cc at in
        subst Sees here (seen said lines last second v begins (record { after = rest; split = split; early = g.early; late = λ l is. late l is second (omega arith) (omega arith) }) g)
    sees_quiet (suc count) lines rest last second v split late g (suc k) x at =
        sees_quiet count lines rest last (second + 1) (passed_view (closed_view n v)) split (λ l is s low high. late l is s (omega (arith, low)) (omega (arith, high)))
        (passes lines last second v g) k x at

    sees : (rest lines : List LineSaid) (second : ℕ) (v : View) → said ≡ lines ++ rest → Going lines second second v
        → (k : ℕ) (x : ℕ × View) → slice_get (seconds_of n window second v rest) k ≡ Some x → Sees x
    sees [] lines second v split g zero x at =
        let here : ◌≡◌ {A = ℕ × View} (second, closed_view n v) x = cc at in
        subst Sees here (seen said lines second second v begins (record { after = []; split = split; early = g.early; late = λ l is. absurd (cc is) }) g)
    sees [] lines second v split g (suc k) x at = absurd (cc at)
    sees (l ∷ rest) lines second v split g k x at =
        let later = later_second second (own_second l.said) in
        let count = later - second in
        let least = later_least second (own_second l.said) in
        let reach : second + count ≡ later = omega (arith, least) in
        let there = subst (λ (s : ℕ). Going lines second s (after_quiet n count v)) reach (goes_quiet count lines second second v g) in
        let behind = comes lines second later (after_quiet n count v) l.line l.said there refl in
        elim (either_list (quiet n count second v) (seconds_of n window later (after_said n window l.line l.said (after_quiet n count v)) rest) k x at) [
          | inl early ↦ sees_quiet count lines (l ∷ rest) second second v split
              (λ q is s low high.
              let same : l ≡ q = cc is in
              subst (λ (y : LineSaid). (own : ℕ) × (own_second y.said ≡ Some own) × (s < own)) same (later_than second s (own_second l.said) low (omega (arith, high, reach))))
              g k x early
          | inr (j, _, now) ↦ sees rest (lines ++ l ∷ []) later (after_said n window l.line l.said (after_quiet n count v)) (split ∙ sym (append_assoc lines (l ∷ []) rest)) behind j x now
        ]

pub seen-seconds : LowerLaws → ToldLaw → (n : Network) (window k second : ℕ) (said : List LineSaid) (v : View) → IsLawful n → 1 ≤ window → slice_get (log_seconds n window said) k ≡ Some (second, v)
    → IsSeen n window said second v
seen-seconds below told n window k second [] v lawful some at = absurd (cc at)
seen-seconds below told n window k second (l ∷ said) v lawful some at = by (own_second l.said) refl at
  where
    by : (o : Option ℕ) → own_second l.said ≡ o → slice_get (from_first n window o (l ∷ said)) k ≡ Some (second, v) → IsSeen n window (l ∷ said) second v
    by None is at = absurd (cc at)
    by (Some first) is at = sees below told n lawful window first some (l ∷ said) (l, refl, is) (l ∷ said) [] first (new_view n) refl (starts below told n lawful window first some) k (second, v) at
