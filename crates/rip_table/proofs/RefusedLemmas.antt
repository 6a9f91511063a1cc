-- What refuses a log.
use Rattle.std.proofs.Common.{◌↔◌, inl, inr, ◌≡◌, ◌≢◌, ℕ, ◌<◌, ◌≤◌, ◌==◌, Bool, true, false, cond, ◌&&◌, ◌||◌, not, nat_le, nat_lt, List, [], ◌∷◌, ◌++◌, length, Option, Some, None, Result, Ok, Err, refl, sym, ap, ◌∙◌, arith, subst, append-nil}
use Rattle.std.proofs.lemmas.Bool.{and_parts, eq-eqb, eqb-true, false_from_ne_true}
use Rattle.std.proofs.lemmas.Bool.Decides.{nat_tests}
use Rattle.rip_log.proofs.LineRelations.{not-eq}
use Rattle.rip_wire.specs.Prefix.{Block}
use Rattle.rip_wire.specs.Message.{Message, request, response, message_in}
use Rattle.rip_wire.specs.Datagram.{message_or_request}
use Rattle.rip_wire.specs.Response.{IsResponseOf}
use Rattle.rip_wire.specs.declared.entry.Entry.{Entry}
use Rattle.rip_wire.specs.declared.error.WireError.{WireError}
use Rattle.rip_plan.specs.Network.{Network}
use Rattle.rip_plan.specs.Relations.{IsLawful}
use Rattle.rip_log.specs.Lines.{Capture}
use Rattle.rip_log.specs.Logs.{Log, Numbered}
use Rattle.rip_log.specs.declared.error.LogError.{LogError}
use Rattle.rip_table.specs.State.{Fits, IsState, State, is_among}
use Rattle.rip_table.specs.Joined.{holds_address, knows_gateway, may_tell, Outcome, and_then, as_cause, interface_of, is_foreign, is_past, joined_at, joined_capture, joined_entries, joined_from, joined_message, joined_records, log_fault, outcome, outcome_of, with_heard, with_metric, with_record}
use Rattle.rip_table.specs.LogJoin.{AreAccepted, AreGood, AreJoined, HasBadEntry, IsBadEntry, IsElsewhere, IsFirstRefused, IsJoin, IsJoined, IsListed, IsOutcome, IsRefused, IsResponse, KeepsMetric}
use Rattle.rip_table.specs.declared.error.TableError.{TableError}
use Rattle.rip_table.specs.declared.error.TableError.TheVariants.{Changed, NextHop, TooManyPrefixes, Memory}
use Rattle.rip_table.specs.declared.error.CollectCause.{CollectCause}
use Rattle.rip_table.specs.declared.error.CollectCause.TheVariants.{Log as OfLog, Table, UnknownSender}
use Rattle.rip_table.specs.declared.error.CollectError.{CollectError}
use Rattle.rip_table.proofs.PrefixListLemmas.{is_among-item}
use Rattle.rip_table.proofs.NumberLemmas.{true-false}
use Rattle.rip_table.proofs.TruthLemmas.{then-split}
use Rattle.rip_table.proofs.CheckLemmas.{heard_valid, joined-append}
use Rattle.rip_table.proofs.HopLemmas.{address_held, gateway_known, held_address, known_gateway}
use Rattle.rip_table.proofs.JoinLemmas.{outcome_of-front}
use Rattle.rip_table.proofs.MetricLemmas.{AreMetrics, LowerLaws, front_metrics, response_metrics}
use Rattle.rip_table.proofs.OneJoinLemmas.{one_join, one_taken}
use Rattle.rip_table.proofs.SaidLemmas.{fits_log, interface_below, item-is_among, join_made, log_then, makes_entries, makes_log, taken_made}

-- ---- a route by another router

neither : (a b : Bool) → not (a || b) ≡ true → (a ≡ false) × (b ≡ false)
neither true b h = absurd (cc h)
neither false true h = absurd (cc h)
neither false false h = (refl, refl)

differs : (m n : ℕ) → m ≢ n → (m == n) ≡ false
differs m n h = by (m == n) refl
  where
    by : (b : Bool) → (m == n) ≡ b → (m == n) ≡ false
    by true t = absurd (h (eqb-true m n t))
    by false t = t

foreign-IsElsewhere : (net : Network) (i : ℕ) (e : Entry) → is_foreign net i e ≡ true → IsElsewhere net i e
foreign-IsElsewhere net i e h =
    let parts = and_parts (nat_lt e.metric 16) (not (may_tell net i e.prefix e.next_hop)) h in
    let low = parts.0 in
    let hops = neither (e.next_hop == 0) (holds_address net i e.next_hop || knows_gateway net i e.prefix e.next_hop) parts.1 in
    let others = neither (holds_address net i e.next_hop) (knows_gateway net i e.prefix e.next_hop) (ap not hops.1) in
    record {
      reachable = grind (arith, nat_tests);
      unspecified = not-eq e.next_hop 0 hops.0;
      other = λ l has. true-false (holds_address net i e.next_hop) (address_held net i l e.next_hop has) others.0;
      no_gateway = λ knows. true-false (knows_gateway net i e.prefix e.next_hop) (gateway_known net i e.prefix e.next_hop knows) others.1;
    }

pub IsElsewhere-foreign : (net : Network) (i : ℕ) (e : Entry) → IsElsewhere net i e → is_foreign net i e ≡ true
IsElsewhere-foreign net i e h =
    let lt = h.reachable in
    let low : nat_lt e.metric 16 ≡ true = grind (arith, nat_tests) in
    let held : holds_address net i e.next_hop ≡ false = false_from_ne_true (holds_address net i e.next_hop) (λ t. let (l, has) = held_address net i e.next_hop t in h.other l has) in
    let known : knows_gateway net i e.prefix e.next_hop ≡ false = false_from_ne_true (knows_gateway net i e.prefix e.next_hop) (λ t. h.no_gateway (known_gateway net i e.prefix e.next_hop t)) in
    rw (low, differs e.next_hop 0 h.unspecified, held, known) refl

-- ---- an entry

full_of : (among : Bool) (n : ℕ) → (nat_le 2048 n && not among) ≡ true → (2048 ≤ n) × (among ≡ false)
full_of true n h = let parts = and_parts (nat_le 2048 n) false h in absurd (cc parts.1)
full_of false n h = let low = (and_parts (nat_le 2048 n) true h).0 in (grind (arith, nat_tests), refl)

full-past : (among : Bool) (n : ℕ) → 2048 ≤ n → among ≡ false → (nat_le 2048 n && not among) ≡ true
full-past true n low h = absurd (cc h)
full-past false n low h = let le : nat_le 2048 n ≡ true = grind (arith, nat_tests) in rw le refl

absent : (s : State) (p : Block) → (IsListed s p → ⊥) → is_among p s.prefixes ≡ false
absent s p none = by (is_among p s.prefixes) refl
  where
    by : (b : Bool) → is_among p s.prefixes ≡ b → is_among p s.prefixes ≡ false
    by true h = absurd (none (item-is_among p s.prefixes h))
    by false h = h

bad_of : (net : Network) (i : ℕ) (s : State) (e : Entry) (error : TableError) (o : Option ℕ) → s.shows i e.prefix ≡ o → joined_at net i s e o ≡ Err error → IsBadEntry net i s e error
bad_of net i s e error (Some old) shows h = by (old == e.metric) refl (is_foreign net i e) refl h
  where
    by : (c : Bool) → (old == e.metric) ≡ c → (f : Bool) → is_foreign net i e ≡ f → cond (not c) (Err (Changed e.prefix old e.metric)) (cond f (Err (NextHop e.prefix)) (Ok s)) ≡ Err error
        → IsBadEntry net i s e error
    by false test f foreign k =
        let is : Changed e.prefix old e.metric ≡ error = cc k in
        subst (IsBadEntry net i s e) is (record { prefix = refl; stands = shows; metric = refl; differ = not-eq old e.metric test })
    by true test true foreign k =
        let is : NextHop e.prefix ≡ error = cc k in
        subst (IsBadEntry net i s e) is (record {
          prefix = refl;
          keeps = λ x at. let same : Some x ≡ Some old = sym at ∙ shows in let here : x ≡ old = cc same in here ∙ eqb-true old e.metric test;
          elsewhere = foreign-IsElsewhere net i e foreign;
        })
    by true test false foreign k = absurd (cc k)
bad_of net i s e error None shows h = by (is_foreign net i e) refl (is_past s e.prefix) refl h
  where
    keeps : KeepsMetric s i e
    keeps x at = let clash : Some x ≡ None = sym at ∙ shows in absurd (cc clash)

    by : (f : Bool) → is_foreign net i e ≡ f → (b : Bool) → is_past s e.prefix ≡ b → cond f (Err (NextHop e.prefix)) (cond b (Err TooManyPrefixes) (Ok (with_metric s i e.prefix e.metric))) ≡ Err error
        → IsBadEntry net i s e error
    by true foreign b past k =
        let is : NextHop e.prefix ≡ error = cc k in
        subst (IsBadEntry net i s e) is (record { prefix = refl; keeps = keeps; elsewhere = foreign-IsElsewhere net i e foreign })
    by false foreign true past k =
        let is : TooManyPrefixes ≡ error = cc k in
        let full = full_of (is_among e.prefix s.prefixes) (length s.prefixes) past in
        subst (IsBadEntry net i s e) is (record {
          keeps = keeps;
          here = λ there. true-false (is_foreign net i e) (IsElsewhere-foreign net i e there) foreign;
          new = λ at. true-false (is_among e.prefix s.prefixes) (is_among-item s.prefixes at.0 e.prefix at.1) full.1;
          full = full.0;
        })
    by false foreign false past k = absurd (cc k)

bad_at : (net : Network) (i : ℕ) (s : State) (e : Entry) (error : TableError) → IsState s → i < s.interfaces → IsBadEntry net i s e error → joined_at net i s e (s.shows i e.prefix) ≡ Err error
bad_at net i s e (Changed p old new) valid lt h =
    ap (joined_at net i s e) (ap (s.shows i) (sym h.prefix) ∙ h.stands)
    ∙ ap (λ (c : Bool). cond (not c) (Err (Changed e.prefix old e.metric)) (cond (is_foreign net i e) (Err (NextHop e.prefix)) (Ok s))) (differs old e.metric (λ same. h.differ (same ∙ sym h.metric)))
    ∙ ap (λ (q : Block). Err (Changed q old e.metric)) (sym h.prefix)
    ∙ ap (λ (m : ℕ). Err (Changed p old m)) (sym h.metric)
bad_at net i s e (NextHop p) valid lt h = by (s.shows i e.prefix) refl ∙ ap (λ (q : Block). Err (NextHop q)) (sym h.prefix)
  where
    by : (o : Option ℕ) → s.shows i e.prefix ≡ o → joined_at net i s e o ≡ Err (NextHop e.prefix)
    by None shows =
        ap (λ (f : Bool). cond f (Err (NextHop e.prefix)) (cond (is_past s e.prefix) (Err TooManyPrefixes) (Ok (with_metric s i e.prefix e.metric)))) (IsElsewhere-foreign net i e h.elsewhere)
    by (Some old) shows =
        ap (λ (c : Bool). cond (not c) (Err (Changed e.prefix old e.metric)) (cond (is_foreign net i e) (Err (NextHop e.prefix)) (Ok s))) (eq-eqb old e.metric (h.keeps old shows))
        ∙ ap (λ (f : Bool). cond f (Err (NextHop e.prefix)) (Ok s)) (IsElsewhere-foreign net i e h.elsewhere)
bad_at net i s e TooManyPrefixes valid lt h = by (s.shows i e.prefix) refl
  where
    here : is_foreign net i e ≡ false
    here = at (is_foreign net i e) refl
      where
        at : (b : Bool) → is_foreign net i e ≡ b → is_foreign net i e ≡ false
        at true t = absurd (h.here (foreign-IsElsewhere net i e t))
        at false t = t

    by : (o : Option ℕ) → s.shows i e.prefix ≡ o → joined_at net i s e o ≡ Err TooManyPrefixes
    by None shows =
        ap (λ (f : Bool). cond f (Err (NextHop e.prefix)) (cond (is_past s e.prefix) (Err TooManyPrefixes) (Ok (with_metric s i e.prefix e.metric)))) here
        ∙ ap (λ (b : Bool). cond b (Err TooManyPrefixes) (Ok (with_metric s i e.prefix e.metric))) (full-past (is_among e.prefix s.prefixes) (length s.prefixes) h.full (absent s e.prefix h.new))
    by (Some old) shows = absurd (h.new (item-is_among e.prefix s.prefixes (valid.shown i old e.prefix lt shows).listed))
bad_at net i s e Memory valid lt h = absurd h

-- ---- entries

pub record FirstBad (net : Network) (i : ℕ) (s : State) (es : List Entry) (error : TableError) : Type 0 where
  pub front : List Entry
  pub entry : Entry
  pub rest : List Entry
  pub split : es ≡ front ++ entry ∷ rest
  pub state : State
  pub joined : joined_entries net i s front ≡ Ok state
  pub bad : IsBadEntry net i state entry error

first_bad : (net : Network) (i : ℕ) (s : State) (es : List Entry) (error : TableError) → joined_entries net i s es ≡ Err error → FirstBad net i s es error
first_bad net i s [] error h = absurd (cc h)
first_bad net i s (e ∷ es) error h = by (joined_at net i s e (s.shows i e.prefix)) refl h (λ t k. first_bad net i t es error k)
  where
    by : (r : Result State TableError) → joined_at net i s e (s.shows i e.prefix) ≡ r → and_then r (λ t. joined_entries net i t es) ≡ Err error
        → ((t : State) → joined_entries net i t es ≡ Err error → FirstBad net i t es error) → FirstBad net i s (e ∷ es) error
    by (Err other) is k later =
        let same : other ≡ error = cc k in
        record {
          front = [];
          entry = e;
          rest = es;
          split = refl;
          state = s;
          joined = refl;
          bad = subst (IsBadEntry net i s e) same (bad_of net i s e other (s.shows i e.prefix) refl is);
        }
    by (Ok t) is k later =
        let found = later t k in
        record {
          front = e ∷ found.front;
          entry = found.entry;
          rest = found.rest;
          split = ap (λ (ds : List Entry). e ∷ ds) found.split;
          state = found.state;
          joined = ap (λ (r : Result State TableError). and_then r (λ u. joined_entries net i u found.front)) is ∙ found.joined;
          bad = found.bad;
        }

bad_entries : (net : Network) (i : ℕ) (s u : State) (front rest : List Entry) (e : Entry) (error : TableError) → AreMetrics (front ++ e ∷ rest) → IsState s → i < s.interfaces
    → joined_entries net i s front ≡ Ok u → IsBadEntry net i u e error → joined_entries net i s (front ++ e ∷ rest) ≡ Err error
bad_entries net i s u front rest e error metrics valid lt joined bad =
    let made = makes_entries net i s u front (front_metrics front (e ∷ rest) metrics) valid lt joined in
    joined-append net i s front (e ∷ rest)
    ∙ ap (λ (r : Result State TableError). and_then r (λ t. joined_entries net i t (e ∷ rest))) joined
    ∙ ap (λ (r : Result State TableError). and_then r (λ t. joined_entries net i t rest)) (bad_at net i u e error made.1 (omega (arith, lt, (made.0).interfaces)) bad)

-- where entries are joined, so are those before one of them, and then that one
front_taken : (net : Network) (i : ℕ) (s t : State) (front rest : List Entry) (e : Entry) → joined_entries net i s (front ++ e ∷ rest) ≡ Ok t
    → (u v : State) × (joined_entries net i s front ≡ Ok u) × (joined_at net i u e (u.shows i e.prefix) ≡ Ok v)
front_taken net i s t front rest e h =
    let split = then-split (joined_entries net i s front) (λ u. joined_entries net i u (e ∷ rest)) t (sym (joined-append net i s front (e ∷ rest)) ∙ h) in
    let u = split.0 in
    let next = then-split (joined_at net i u e (u.shows i e.prefix)) (λ v. joined_entries net i v rest) t split.2 in
    (u, next.0, split.1, next.1)

good_entries : (net : Network) (i : ℕ) (s t : State) (es : List Entry) → AreMetrics es → IsState s → i < s.interfaces → joined_entries net i s es ≡ Ok t → AreGood net i s es
good_entries net i s t es metrics valid lt h front rest e v error split taken state bad =
    let before = front_taken net i s t front rest e (ap (joined_entries net i s) (sym split) ∙ h) in
    let u = before.0 in
    let made = makes_entries net i s u front (front_metrics front (e ∷ rest) (subst AreMetrics split metrics)) valid lt before.2 in
    let same = one_taken i s front u v made.1 state (taken_made i s u front made.0) taken in
    let again : IsBadEntry net i u e error = subst (λ (w : State). IsBadEntry net i w e error) (sym same) bad in
    let clash : ◌≡◌ {A = Result State TableError} (Ok before.1) (Err error) = sym before.3 ∙ bad_at net i u e error made.1 (omega (arith, lt, (made.0).interfaces)) again in
    cc clash

pub entries_joined : (net : Network) (i : ℕ) (s t : State) (es : List Entry) → AreMetrics es → IsState s → i < s.interfaces → joined_entries net i s es ≡ Ok t → AreJoined net i s es t
entries_joined net i s t es metrics valid lt h =
    let made = makes_entries net i s t es metrics valid lt h in
    record { taken = taken_made i s t es made.0; state = made.1; good = good_entries net i s t es metrics valid lt h }

pub joined_of_entries : (net : Network) (i : ℕ) (s t : State) (es : List Entry) → AreMetrics es → IsState s → i < s.interfaces → AreJoined net i s es t → joined_entries net i s es ≡ Ok t
joined_of_entries net i s t es metrics valid lt h = by (joined_entries net i s es) refl
  where
    by : (r : Result State TableError) → joined_entries net i s es ≡ r → joined_entries net i s es ≡ Ok t
    by (Ok u) is =
        let made = makes_entries net i s u es metrics valid lt is in
        is ∙ ap (λ (v : State). Ok v) (one_taken i s es u t made.1 h.state (taken_made i s u es made.0) h.taken)
    by (Err error) is =
        let first = first_bad net i s es error is in
        let made = makes_entries net i s first.state first.front (front_metrics first.front (first.entry ∷ first.rest) (subst AreMetrics first.split metrics)) valid lt first.joined in
        absurd (h.good first.front first.rest first.entry first.state error first.split (taken_made i s first.state first.front made.0) made.1 first.bad)

-- ---- a record

from_request : (net : Network) (s : State) (o : Option ℕ) (cause : CollectCause) {A : Type 0} → joined_from net s request o ≡ Err cause → A
from_request net s None cause h = absurd (cc h)
from_request net s (Some i) cause h = absurd (cc h)

from_cause : (r : Result State TableError) (cause : CollectCause) → as_cause r ≡ Err cause → (e : TableError) × (r ≡ Err e) × (Table e ≡ cause)
from_cause (Ok u) cause h = absurd (cc h)
from_cause (Err e) cause h = (e, refl, cc h)

bad_entry : (below : LowerLaws) (n : Network) (s : State) (c : Capture) (i : ℕ) (es : List Entry) (error : TableError) → IsState s → i < s.interfaces → IsResponseOf es c.datagram →
    interface_of n c ≡ Some i
    → joined_message n i s (response es) ≡ Err error → HasBadEntry n s c error
bad_entry below n s c i es error valid lt says found h =
    let first = first_bad n i (with_heard s i) es error h in
    let metrics = front_metrics first.front (first.entry ∷ first.rest) (subst AreMetrics first.split (response_metrics c.datagram es says)) in
    record {
      interface = i;
      front = first.front;
      entry = first.entry;
      rest = first.rest;
      response = record { from = below.gives n c.link c.sender i found; says = subst (λ (ds : List Entry). IsResponseOf ds c.datagram) first.split says };
      state = first.state;
      joined = entries_joined n i (with_heard s i) first.state first.front metrics (heard_valid s i valid) lt first.joined;
      bad = first.bad;
    }

pub refused_of : (below : LowerLaws) (n : Network) (s : State) (c : Capture) (cause : CollectCause) → IsLawful n → IsState s → Fits n s → joined_capture n s c ≡ Err cause → IsRefused n s c cause
refused_of below n s c cause lawful valid fits h = by (message_in c.datagram) refl (interface_of n c) refl h
  where
    by : (m : Result Message WireError) → message_in c.datagram ≡ m → (o : Option ℕ) → interface_of n c ≡ o → joined_from n s (message_or_request m) o ≡ Err cause → IsRefused n s c cause
    by (Err e) is o found k = from_request n s o cause k
    by (Ok request) is o found k = from_request n s o cause k
    by (Ok (response es)) is None found k =
        let same : UnknownSender ≡ cause = cc k in
        subst (IsRefused n s c) same (record {
          entries = es;
          says = (below.fields es c.datagram).0 is;
          nobody = λ i at. let clash : Some i ≡ None = sym (below.finds n c.link c.sender i lawful at) ∙ found in cc clash;
        })
    by (Ok (response es)) is (Some i) found k =
        let split = from_cause (joined_message n i s (response es)) cause k in
        subst (IsRefused n s c) split.2 (bad_entry below n s c i es split.0 valid (interface_below n s c.link c.sender i fits (below.gives n c.link c.sender i found))
        ((below.fields es c.datagram).0 is) found split.1)

pub refused_at : (below : LowerLaws) (n : Network) (s : State) (c : Capture) (cause : CollectCause) → IsLawful n → IsState s → Fits n s → IsRefused n s c cause → joined_capture n s c ≡ Err cause
refused_at below n s c (OfLog e) lawful valid fits h = absurd h
refused_at below n s c UnknownSender lawful valid fits h =
    ap (λ (m : Result Message WireError). joined_from n s (message_or_request m) (interface_of n c)) ((below.fields h.entries c.datagram).1 h.says) ∙ by (interface_of n c) refl
  where
    by : (o : Option ℕ) → interface_of n c ≡ o → joined_from n s (response h.entries) o ≡ Err UnknownSender
    by None found = refl
    by (Some i) found = absurd (h.nobody i (below.gives n c.link c.sender i found))
refused_at below n s c (Table error) lawful valid fits h =
    let i = h.interface in
    let es = h.front ++ h.entry ∷ h.rest in
    let at = (h.response).from in
    let lt = interface_below n s c.link c.sender i fits at in
    let metrics = response_metrics c.datagram es (h.response).says in
    let joined = joined_of_entries n i (with_heard s i) h.state h.front (front_metrics h.front (h.entry ∷ h.rest) metrics) (heard_valid s i valid) lt h.joined in
    ap (λ (m : Result Message WireError). joined_from n s (message_or_request m) (interface_of n c)) ((below.fields es c.datagram).1 (h.response).says)
    ∙ ap (joined_from n s (response es)) (below.finds n c.link c.sender i lawful at)
    ∙ ap as_cause (bad_entries n i (with_heard s i) h.state h.front h.rest h.entry error metrics (heard_valid s i valid) lt joined h.bad)

-- what a response of an interface makes of a table
response_joined : (below : LowerLaws) (n : Network) (s : State) (c : Capture) (i : ℕ) (es : List Entry) → IsLawful n → IsResponse n c i es →
    joined_capture n s c ≡ as_cause (joined_message n i s (response es))
response_joined below n s c i es lawful is =
    ap (λ (m : Result Message WireError). joined_from n s (message_or_request m) (interface_of n c)) ((below.fields es c.datagram).1 is.says)
    ∙ ap (joined_from n s (response es)) (below.finds n c.link c.sender i lawful is.from)

pub response_refused : (below : LowerLaws) (n : Network) (s : State) (c : Capture) (i : ℕ) (es : List Entry) (error : TableError) → IsLawful n → IsState s → Fits n s → IsResponse n c i es
    → (joined_message n i s (response es) ≡ Err error) ↔ HasBadEntry n s c error
response_refused below n s c i es error lawful valid fits is = (
  bad_entry below n s c i es error valid (interface_below n s c.link c.sender i fits is.from) is.says (below.finds n c.link c.sender i lawful is.from),
  λ h.
      let (e, is_error, same) = from_cause (joined_message n i s (response es)) (Table error)
      (sym (response_joined below n s c i es lawful is) ∙ refused_at below n s c (Table error) lawful valid fits h) in
      let one : e ≡ error = cc same in
      subst (λ (x : TableError). joined_message n i s (response es) ≡ Err x) one is_error,
)

-- ---- a log

-- the first record that is refused, and the join of those before it
pub record Refusal (n : Network) (old : State) (log : List Numbered) (s : State) (line : ℕ) (cause : CollectCause) : Type 0 where
  pub before : List Numbered
  pub capture : Capture
  pub after : List Numbered
  pub split : log ≡ before ++ (record { line = line; capture = capture }) ∷ after
  pub joined : joined_records n old before ≡ Ok s
  pub refused : joined_capture n s capture ≡ Err cause

-- where a log is joined, so is what comes before one of its records, and then that record
front_joined : (n : Network) (s t : State) (before after : List Numbered) (r : Numbered) → joined_records n s (before ++ r ∷ after) ≡ Ok t
    → (u v : State) × (joined_records n s before ≡ Ok u) × (joined_capture n u r.capture ≡ Ok v)
front_joined n s t [] after r h = let split = log_then (joined_capture n s r.capture) (λ u. joined_records n u after) t h in (s, split.0, refl, split.1)
front_joined n s t (q ∷ before) after r h =
    let split = log_then (joined_capture n s q.capture) (λ u. joined_records n u (before ++ r ∷ after)) t h in
    let later = front_joined n split.0 t before after r split.2 in
    (later.0, later.1, ap (λ (x : Result State CollectCause). and_then x (λ u. joined_records n u before)) split.1 ∙ later.2, later.3)

first_refused : (n : Network) (s : State) (log : List Numbered) (cause : CollectCause) → joined_records n s log ≡ Err cause → (t : State) × (line : ℕ) × Refusal n s log t line cause
first_refused n s [] cause h = absurd (cc h)
first_refused n s (r ∷ log) cause h = by (joined_capture n s r.capture) refl h (λ t k. first_refused n t log cause k)
  where
    by : (x : Result State CollectCause) → joined_capture n s r.capture ≡ x → and_then x (λ t. joined_records n t log) ≡ Err cause
        → ((t : State) → joined_records n t log ≡ Err cause → (u : State) × (line : ℕ) × Refusal n t log u line cause)
        → (u : State) × (line : ℕ) × Refusal n s (r ∷ log) u line cause
    by (Err other) is k later =
        let same : other ≡ cause = cc k in (
          s,
          r.line,
          record {
            before = [];
            capture = r.capture;
            after = log;
            split = refl;
            joined = refl;
            refused = is ∙ ap (λ (x : CollectCause). Err x) same;
          },
        )
    by (Ok t) is k later =
        let found = later t k in
        let first = found.2 in (
          found.0,
          found.1,
          record {
            before = r ∷ first.before;
            capture = first.capture;
            after = first.after;
            split = ap (λ (rs : List Numbered). r ∷ rs) first.split;
            joined = ap (λ (x : Result State CollectCause). and_then x (λ u. joined_records n u first.before)) is ∙ first.joined;
            refused = first.refused;
          },
        )

records-append : (n : Network) (s t : State) (before rest : List Numbered) → joined_records n s before ≡ Ok t → joined_records n s (before ++ rest) ≡ joined_records n t rest
records-append n s t [] rest h = let same : s ≡ t = cc h in ap (λ (u : State). joined_records n u rest) same
records-append n s t (r ∷ before) rest h = by (joined_capture n s r.capture) h (λ u k. records-append n u t before rest k)
  where
    by : (x : Result State CollectCause) → and_then x (λ u. joined_records n u before) ≡ Ok t →
        ((u : State) → joined_records n u before ≡ Ok t → joined_records n u (before ++ rest) ≡ joined_records n t rest)
        → and_then x (λ u. joined_records n u (before ++ rest)) ≡ joined_records n t rest
    by (Ok u) k later = later u k
    by (Err e) k later = absurd (cc k)

module _ (below : LowerLaws) (n : Network) (old : State) (lawful : IsLawful n) (valid : IsState old) (fits : Fits n old) where
  made : (log : List Numbered) (s : State) → joined_records n old log ≡ Ok s → IsJoin n old log s × IsState s
  made log s h = let m = makes_log below n old s log lawful valid fits h in (join_made n old s log m.0, m.1)

  accepted_in : (log : List Numbered) (s : State) → joined_records n old log ≡ Ok s → AreAccepted n old log
  accepted_in log s h before after r t cause split join state refused =
      let front = front_joined n old s before after r (ap (joined_records n old) (sym split) ∙ h) in
      let there = made before front.0 front.2 in
      let same = one_join n old before front.0 t there.1.differ state.differ there.0 join in
      let again : IsRefused n front.0 r.capture cause = subst (λ (u : State). IsRefused n u r.capture cause) (sym same) refused in
      let clash : ◌≡◌ {A = Result State CollectCause} (Ok front.1) (Err cause) =
      sym front.3 ∙ refused_at below n front.0 r.capture cause lawful there.1 (fits_log n old front.0 before fits front.2) again in
      cc clash

  pub is_joined : (log : List Numbered) (s : State) → joined_records n old log ≡ Ok s → IsJoined n old log s
  is_joined log s h = let there = made log s h in record { join = there.0; state = there.1; accepted = accepted_in log s h }

  -- a refusal after records that are joined
  words : (before : List Numbered) (s : State) (c : Capture) (cause : CollectCause) → joined_records n old before ≡ Ok s → joined_capture n s c ≡ Err cause → IsRefused n s c cause
  words before s c cause joined h = refused_of below n s c cause lawful (made before s joined).1 (fits_log n old s before fits joined) h

  pub joined_is : (log : List Numbered) (s : State) → IsJoined n old log s → joined_records n old log ≡ Ok s
  joined_is log s h = by (joined_records n old log) refl
    where
      by : (x : Result State CollectCause) → joined_records n old log ≡ x → joined_records n old log ≡ Ok s
      by (Ok t) is =
          let there = made log t is in
          is ∙ ap (λ (u : State). Ok u) (one_join n old log t s there.1.differ h.state.differ there.0 h.join)
      by (Err cause) is =
          let found = first_refused n old log cause is in
          let first = found.2 in
          let before = made first.before found.0 first.joined in
          absurd (h.accepted first.before first.after (record { line = found.1; capture = first.capture }) found.0 cause first.split before.0 before.1
          (words first.before found.0 first.capture cause first.joined first.refused))

  in_words : (log : List Numbered) (s : State) (line : ℕ) (cause : CollectCause) → Refusal n old log s line cause → IsFirstRefused n old log s line cause
  in_words log s line cause h =
      record { before = h.before; capture = h.capture; after = h.after; split = h.split; joined = is_joined h.before s h.joined; refused = words h.before s h.capture cause h.joined h.refused }

  of_words : (log : List Numbered) (s : State) (line : ℕ) (cause : CollectCause) → IsFirstRefused n old log s line cause → Refusal n old log s line cause
  of_words log s line cause h =
      record {
        before = h.before;
        capture = h.capture;
        after = h.after;
        split = h.split;
        joined = joined_is h.before s h.joined;
        refused = refused_at below n s h.capture cause lawful (h.joined).state
            (fits_log n old s h.before fits (joined_is h.before s h.joined)) h.refused;
      }

  records_refused : (log : List Numbered) (s : State) (line : ℕ) (cause : CollectCause) → Refusal n old log s line cause → joined_records n old log ≡ Err cause
  records_refused log s line cause h =
      let r : Numbered = record { line = line; capture = h.capture } in
      ap (joined_records n old) h.split
      ∙ records-append n old s h.before (r ∷ h.after) h.joined
      ∙ ap (λ (x : Result State CollectCause). and_then x (λ t. joined_records n t h.after)) h.refused

  pub refused_is : (log : List Numbered) (s : State) (line : ℕ) (cause : CollectCause) → IsFirstRefused n old log s line cause → joined_records n old log ≡ Err cause
  refused_is log s line cause h = records_refused log s line cause (of_words log s line cause h)

  pub is_refused : (log : List Numbered) (cause : CollectCause) → joined_records n old log ≡ Err cause → (s : State) × (line : ℕ) × IsFirstRefused n old log s line cause
  is_refused log cause h = let first = first_refused n old log cause h in (first.0, first.1, in_words log first.0 first.1 cause first.2)

  outcome_refused : (log : List Numbered) (fault : Option LogError) (s : State) (line : ℕ) (cause : CollectCause) → Refusal n old log s line cause
      → outcome_of n old log fault ≡ record { state = s; fault = Some (record { line = line; cause = cause }) }
  outcome_refused log fault s line cause h =
      let r : Numbered = record { line = line; capture = h.capture } in
      ap (λ (rs : List Numbered). outcome_of n old rs fault) h.split
      ∙ outcome_of-front n old h.before (r ∷ h.after) fault s h.joined
      ∙ ap (λ (x : Result State CollectCause). with_record s line x (λ t. outcome_of n t h.after fault)) h.refused

  outcome_joined : (log : List Numbered) (fault : Option LogError) (s : State) → joined_records n old log ≡ Ok s → outcome_of n old log fault ≡ record { state = s; fault = log_fault fault }
  outcome_joined log fault s h = ap (λ (rs : List Numbered). outcome_of n old rs fault) (sym (append-nil log)) ∙ outcome_of-front n old log [] fault s h

  pub outcome_is : (log : Log) (s : State) (fault : Option CollectError) → IsOutcome n old log s fault → outcome n old log ≡ record { state = s; fault = fault }
  outcome_is log s None h = outcome_joined log.records log.fault s (joined_is log.records s h.1) ∙ ap (λ (f : Option LogError). record { state = s; fault = log_fault f }) h.0
  outcome_is log s (Some error) (inl h) = outcome_refused log.records log.fault s error.line error.cause (of_words log.records s error.line error.cause h)
  outcome_is log s (Some error) (inr h) =
      outcome_joined log.records log.fault s (joined_is log.records s h.joined)
      ∙ ap (λ (f : Option LogError). record { state = s; fault = log_fault f }) h.has
      ∙ ap (λ (e : CollectError). record { state = s; fault = Some e }) (sym h.is)

  outcome_ok : (log : Log) (s : State) → joined_records n old log.records ≡ Ok s → IsOutcome n old log s (log_fault log.fault)
  outcome_ok log s h = by log.fault refl
    where
      by : (f : Option LogError) → log.fault ≡ f → IsOutcome n old log s (log_fault f)
      by None is = (is, is_joined log.records s h)
      by (Some e) is = inr (record { fault = e; has = is; is = refl; joined = is_joined log.records s h })

  outcome_as : (log : Log) (s t : State) (fault other : Option CollectError) → outcome n old log ≡ record { state = s; fault = fault } → outcome n old log ≡ record { state = t; fault = other }
      → IsOutcome n old log t other → IsOutcome n old log s fault
  outcome_as log s t fault other h k is =
      let same = sym k ∙ h in
      let state : t ≡ s = ap (λ (o : Outcome). o.state) same in
      let faults : other ≡ fault = ap (λ (o : Outcome). o.fault) same in
      subst (λ (f : Option CollectError). IsOutcome n old log s f) faults (subst (λ (u : State). IsOutcome n old log u other) state is)

  pub is_outcome : (log : Log) (s : State) (fault : Option CollectError) → outcome n old log ≡ record { state = s; fault = fault } → IsOutcome n old log s fault
  is_outcome log s fault h = by (joined_records n old log.records) refl
    where
      by : (x : Result State CollectCause) → joined_records n old log.records ≡ x → IsOutcome n old log s fault
      by (Ok t) is = outcome_as log s t fault (log_fault log.fault) h (outcome_joined log.records log.fault t is) (outcome_ok log t is)
      by (Err cause) is =
          let first = first_refused n old log.records cause is in
          let error : CollectError = record { line = first.1; cause = cause } in
          outcome_as log s first.0 fault (Some error) h (outcome_refused log.records log.fault first.0 first.1 cause first.2) (inl (in_words log.records first.0 first.1 cause first.2))
