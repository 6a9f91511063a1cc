-- What entries, records and logs say is what their join makes.
use Rattle.std.proofs.Common.{inl, inr, ◌⊎◌, ◌≡◌, ℕ, zero, suc, ◌<◌, ◌≤◌, ◌==◌, Bool, true, false, cond, ◌&&◌, not, nat_le, List, [], ◌∷◌, ◌++◌, length, Option, Some, None, Result, Ok, Err, refl, sym, ap, ◌∙◌, arith, subst, append-nil}
use Rattle.std.specs.List.{slice_get}
use Rattle.std.proofs.lemmas.Option.{slice_get_within}
use Rattle.std.proofs.lemmas.Bool.{and_parts, eq-eqb, eqb-true}
use Rattle.std.proofs.lemmas.Bool.Decides.{nat_tests}
use Rattle.rip_plan.proofs.NumberingLemmas.{same_is, same_self}
use Rattle.rip_wire.specs.Prefix.{Block}
use Rattle.rip_wire.specs.Message.{Message, request, response, message_in}
use Rattle.rip_wire.specs.Datagram.{message_or_request}
use Rattle.rip_wire.specs.Response.{IsResponseOf}
use Rattle.rip_wire.specs.declared.entry.Entry.{Entry}
use Rattle.rip_wire.specs.declared.error.WireError.{WireError}
use Rattle.rip_plan.specs.Network.{Network, number_of_prefix}
use Rattle.rip_plan.specs.Passes.{same_prefix}
use Rattle.rip_plan.specs.Relations.{IsAt, IsLawful}
use Rattle.rip_log.specs.Lines.{Capture}
use Rattle.rip_log.specs.Logs.{Numbered}
use Rattle.rip_table.specs.State.{Fits, IsState, State, is_among}
use Rattle.rip_table.specs.Joined.{and_then, as_cause, interface_of, is_foreign, is_past, joined_at, joined_capture, joined_entries, joined_from, joined_message, joined_records, with_heard, with_metric}
use Rattle.rip_table.specs.LogJoin.{AreTaken, ComesBefore, HasEntry, HasResponse, HasUpdate, IsJoin, IsListed, IsResponse, IsSaid, IsTold}
use Rattle.rip_table.specs.declared.error.TableError.{TableError}
use Rattle.rip_table.specs.declared.error.TableError.TheVariants.{Changed, NextHop, TooManyPrefixes}
use Rattle.rip_table.specs.declared.error.CollectCause.{CollectCause}
use Rattle.rip_table.proofs.NumberLemmas.{number-at, number-none, true-false}
use Rattle.rip_table.proofs.FitLemmas.{Fits-joined}
use Rattle.rip_table.proofs.AfterLemmas.{joined_is, new_among}
use Rattle.rip_table.proofs.TruthLemmas.{then-split}
use Rattle.rip_table.proofs.CheckLemmas.{heard_valid, valid_with}
use Rattle.rip_table.proofs.MetricLemmas.{AreMetrics, LowerLaws, response_metrics, same_entries}
use Rattle.rip_table.proofs.MakesLemmas.{Joining, Makes, either_list, front_at, makes_as, makes_both, makes_nothing}

-- ---- one metric

abbrev says_one : ℕ → Block → ℕ → ℕ → ℕ → Block → ℕ → Type 0
says_one i p m k j q x = (j ≡ i) × (p ≡ q) × (m ≡ x)

abbrev never : ℕ → ℕ → Type 0
never k l = ⊥

abbrev nobody : ℕ → Type 0
nobody j = ⊥

test_of : (i j : ℕ) (p q : Block) → j ≡ i → p ≡ q → ((j == i) && same_prefix q p) ≡ true
test_of i j p q here same =
    ap (λ (k : ℕ). (k == i) && same_prefix q p) here ∙ ap (λ (r : Block). (i == i) && same_prefix r p) (sym same) ∙ ap (λ (b : Bool). b && same_prefix p p) (eq-eqb i i refl) ∙ same_self p

shown_one : (s : State) (i m : ℕ) (p : Block) (j : ℕ) (q : Block) (x : ℕ) → (b : Bool) → ((j == i) && same_prefix q p) ≡ b → cond b (Some m) (s.shows j q) ≡ Some x
    → (s.shows j q ≡ Some x) ⊎ ((k : ℕ) × says_one i p m k j q x)
shown_one s i m p j q x true t h =
    let parts = and_parts (j == i) (same_prefix q p) t in
    let metric : m ≡ x = cc h in
    inr (0, (eqb-true j i parts.0, sym (same_is q p parts.1), metric))
shown_one s i m p j q x false t h = inl h

kept_one : (s : State) (i m : ℕ) (p : Block) → ((y : ℕ) → s.shows i p ≡ Some y → y ≡ m) → (j : ℕ) (q : Block) (x : ℕ) → (b : Bool) → ((j == i) && same_prefix q p) ≡ b
    → s.shows j q ≡ Some x → cond b (Some m) (s.shows j q) ≡ Some x
kept_one s i m p keeps j q x true t h =
    let parts = and_parts (j == i) (same_prefix q p) t in
    let here : j ≡ i = eqb-true j i parts.0 in
    let same : q ≡ p = same_is q p parts.1 in
    ap (λ (y : ℕ). Some y) (sym (keeps x (ap (λ (k : ℕ). s.shows k p) (sym here) ∙ ap (s.shows j) (sym same) ∙ h)))
kept_one s i m p keeps j q x false t h = h

-- the prefix, where it is new
abbrev news : Bool → Block → List Block
news true p = []
news false p = p ∷ []

news_with : (ps : List Block) (p : Block) (b : Bool) → cond b ps (ps ++ p ∷ []) ≡ ps ++ news b p
news_with ps p true = sym (append-nil ps)
news_with ps p false = refl

news_at : (ps : List Block) (p : Block) (b : Bool) → is_among p ps ≡ b → (k : ℕ) (q : Block) → slice_get (news b p) k ≡ Some q → (p ≡ q) × (is_among p ps ≡ false)
news_at ps p true among k q h = absurd (cc h)
news_at ps p false among zero q h = let same : p ≡ q = cc h in (same, among)
news_at ps p false among (suc k) q h = absurd (cc h)

news_once : (p : Block) (b : Bool) (k l : ℕ) (q r : Block) {A : Type 0} → k < l → slice_get (news b p) k ≡ Some q → slice_get (news b p) l ≡ Some r → A
news_once p true k l q r lt h e = absurd (cc h)
news_once p false k zero q r lt h e = absurd (omega (arith, lt))
news_once p false k (suc l) q r lt h e = absurd (cc e)

makes_one : (s : State) (i m : ℕ) (p : Block) → ((y : ℕ) → s.shows i p ≡ Some y → y ≡ m) → Makes (says_one i p m) never nobody s (with_metric s i p m)
makes_one s i m p keeps = record {
  interfaces = refl;
  shown = λ j q x h. shown_one s i m p j q x ((j == i) && same_prefix q p) refl h;
  kept = λ j q x h. kept_one s i m p keeps j q x ((j == i) && same_prefix q p) refl h;
  told = λ k j q x says. ap (λ (b : Bool). cond b (Some m) (s.shows j q)) (test_of i j p q says.0 says.1) ∙ ap (λ (y : ℕ). Some y) says.2;
  heard = λ j h. inl h;
  still = λ j h. h;
  marked = λ j h. absurd h;
  others = news (is_among p s.prefixes) p;
  prefixes = news_with s.prefixes p (is_among p s.prefixes);
  fresh = λ k q h. let at = news_at s.prefixes p (is_among p s.prefixes) refl k q h in ap (λ (r : Block). is_among r s.prefixes) (sym at.0) ∙ at.1;
  named = λ k q h. (0, i, m, (refl, (news_at s.prefixes p (is_among p s.prefixes) refl k q h).0, refl));
  listed = λ k j q x says. ap (λ (r : Block). is_among r (with_metric s i p m).prefixes) (sym says.1) ∙ new_among s.prefixes p;
  order = λ a b q r lt h e x j l says. news_once p (is_among p s.prefixes) a b q r lt h e;
}

-- ---- one entry

-- an entry that is joined keeps what stands there
joined_keeps : (net : Network) (i : ℕ) (s t : State) (e : Entry) (o : Option ℕ) → joined_at net i s e o ≡ Ok t → (x : ℕ) → o ≡ Some x → x ≡ e.metric
joined_keeps net i s t e None h x is = absurd (cc is)
joined_keeps net i s t e (Some old) h x is = by (old == e.metric) refl (is_foreign net i e) h
  where
    by : (c : Bool) → (old == e.metric) ≡ c → (f : Bool) → cond (not c) (Err (Changed e.prefix old e.metric)) (cond f (Err (NextHop e.prefix)) (Ok s)) ≡ Ok t → x ≡ e.metric
    by false test f h = absurd (cc h)
    by true test f h = let same : old ≡ x = cc is in sym same ∙ eqb-true old e.metric test

room : (past among : Bool) (n : ℕ) (foreign : Bool) (e : Entry) (u t : State) → (nat_le 2048 n && not among) ≡ past
    → cond foreign (Err (NextHop e.prefix)) (cond past (Err TooManyPrefixes) (Ok u)) ≡ Ok t → among ≡ false → n < 2048
room past among n true e u t test h absent = absurd (cc h)
room true among n false e u t test h absent = absurd (cc h)
room false true n false e u t test h absent = absurd (cc absent)
room false false n false e u t test h absent = below (nat_le 2048 n) refl test
  where
    below : (b : Bool) → nat_le 2048 n ≡ b → (b && true) ≡ false → n < 2048
    below true is k = absurd (cc k)
    below false is k = grind (arith, nat_tests)

-- a table stays one
joined_valid : (net : Network) (i : ℕ) (s t : State) (e : Entry) → 1 ≤ e.metric → e.metric ≤ 16 → IsState s → i < s.interfaces → joined_at net i s e (s.shows i e.prefix) ≡ Ok t → IsState t
joined_valid net i s t e least most valid lt h = subst IsState (sym is) (valid_with s i e.metric e.prefix (is_among e.prefix s.prefixes) least most valid refl (here (s.shows i e.prefix) refl h))
  where
    is : t ≡ with_metric s i e.prefix e.metric
    is = joined_is net i s t e (λ p m k. (valid.shown i m p lt k).listed) (s.shows i e.prefix) refl h

    here : (o : Option ℕ) → s.shows i e.prefix ≡ o → joined_at net i s e o ≡ Ok t → is_among e.prefix s.prefixes ≡ false → length s.prefixes < 2048
    here (Some old) shows k absent = true-false (is_among e.prefix s.prefixes) (valid.shown i old e.prefix lt shows).listed absent
    here None shows k absent = room (is_past s e.prefix) (is_among e.prefix s.prefixes) (length s.prefixes) (is_foreign net i e) e (with_metric s i e.prefix e.metric) t refl k absent

makes_entry : (net : Network) (i : ℕ) (s t : State) (e : Entry) → IsState s → i < s.interfaces → joined_at net i s e (s.shows i e.prefix) ≡ Ok t → Makes (says_one i e.prefix e.metric) never nobody s t
makes_entry net i s t e valid lt h =
    let is = joined_is net i s t e (λ p m k. (valid.shown i m p lt k).listed) (s.shows i e.prefix) refl h in
    subst (Makes (says_one i e.prefix e.metric) never nobody s) (sym is) (makes_one s i e.metric e.prefix (λ y k. joined_keeps net i s t e (s.shows i e.prefix) h y k))

-- ---- entries

-- entries of an interface
abbrev pub says_entries : ℕ → List Entry → ℕ → ℕ → Block → ℕ → Type 0
says_entries i es k j p m = (j ≡ i) × HasEntry es k p m

abbrev pub earlier : ℕ → ℕ → Type 0
earlier k l = k < l

entry_split : (i : ℕ) (e : Entry) (es : List Entry) (k j : ℕ) (p : Block) (m : ℕ) → says_entries i (e ∷ es) k j p m
    → ((x : ℕ) × (0 ≡ k) × says_one i e.prefix e.metric x j p m) ⊎ ((y : ℕ) × (suc y ≡ k) × says_entries i es y j p m)
entry_split i e es zero j p m says =
    let entry = says.1 in
    let is : e ≡ entry.0 = cc entry.1 in
    inl (0, refl, (says.0, ap (λ (x : Entry). x.prefix) is ∙ entry.2, ap (λ (x : Entry). x.metric) is ∙ entry.3))
entry_split i e es (suc k) j p m says = inr (k, refl, says)

one_more : (i : ℕ) (e : Entry) (es : List Entry) → Joining (says_one i e.prefix e.metric) (says_entries i es) (says_entries i (e ∷ es)) never earlier earlier nobody nobody nobody
one_more i e es = record {
  at_first = λ x. 0;
  at_then = λ y. suc y;
  of_first = λ x j p m says. (says.0, (e, refl, says.1, says.2));
  of_then = λ y j p m says. says;
  split = entry_split i e es;
  both_first = λ x y h. absurd h;
  both_then = λ x y h. omega (arith, h);
  one_each = λ x y. omega arith;
  heard_of_first = λ j h. h;
  heard_of_then = λ j h. h;
  heard_split = λ j h. inl h;
}

pub makes_entries : (net : Network) (i : ℕ) (s t : State) (es : List Entry) → AreMetrics es → IsState s → i < s.interfaces → joined_entries net i s es ≡ Ok t
    → Makes (says_entries i es) earlier nobody s t × IsState t
makes_entries net i s t [] metrics valid lt h =
    let same : s ≡ t = cc h in (
      subst (Makes (says_entries i []) earlier nobody s) same (makes_nothing (says_entries i []) earlier nobody s (λ x j p m says. cc (says.1).1) (λ j k. k)),
      subst IsState same valid,
    )
makes_entries net i s t (e ∷ es) metrics valid lt h =
    let split = then-split (joined_at net i s e (s.shows i e.prefix)) (λ u. joined_entries net i u es) t h in
    let u = split.0 in
    let first = makes_entry net i s u e valid lt split.1 in
    let below = metrics 0 e refl in
    let valid_here = joined_valid net i s u e below.0 below.1 valid lt split.1 in
    let then = makes_entries net i u t es (λ k d at. metrics (suc k) d at) valid_here (omega (arith, lt, first.interfaces)) split.2 in (
      makes_both (says_one i e.prefix e.metric) (says_entries i es) (says_entries i (e ∷ es)) never earlier earlier nobody nobody nobody (one_more i e es) s u t first then.0,
      then.1,
    )

-- ---- a record

abbrev pub says_capture : Network → Capture → ℕ → ℕ → Block → ℕ → Type 0
says_capture n c k j p m = (es : List Entry) × IsResponse n c j es × HasEntry es k p m

abbrev pub hears_capture : Network → Capture → ℕ → Type 0
hears_capture n c j = (es : List Entry) × IsResponse n c j es

-- what makes a table of another that stays one
abbrev MakesState : {X : Type 0} → (X → ℕ → Block → ℕ → Type 0) → (X → X → Type 0) → (ℕ → Type 0) → State → State → Type 0
MakesState says before hears s t = Makes says before hears s t × IsState t

abbrev silent : ⊥ → ℕ → Block → ℕ → Type 0
silent x j p m = ⊥

abbrev no_order : ⊥ → ⊥ → Type 0
no_order x y = ⊥

makes_heard : (s : State) (i : ℕ) → Makes silent no_order (λ j. j ≡ i) s (with_heard s i)
makes_heard s i = record {
  interfaces = refl;
  shown = λ j p m h. inl h;
  kept = λ j p m h. h;
  told = λ x j p m h. absurd h;
  heard = λ j h. by j (j == i) refl h;
  still = λ j h. kept j (j == i) h;
  marked = λ j h. ap (λ (b : Bool). cond b true (s.heard j)) (eq-eqb j i h);
  others = [];
  prefixes = sym (append-nil s.prefixes);
  fresh = λ k p h. absurd (cc h);
  named = λ k p h. absurd (cc h);
  listed = λ x j p m h. absurd h;
  order = λ a b p q lt h e x j m k. absurd x;
}
  where
    by : (j : ℕ) (b : Bool) → (j == i) ≡ b → cond b true (s.heard j) ≡ true → (s.heard j ≡ true) ⊎ (j ≡ i)
    by j true t h = inr (eqb-true j i t)
    by j false t h = inl h

    kept : (j : ℕ) (b : Bool) → s.heard j ≡ true → cond b true (s.heard j) ≡ true
    kept j true h = refl
    kept j false h = h

heard_first : (i : ℕ) (es : List Entry) → Joining silent (says_entries i es) (says_entries i es) no_order earlier earlier (λ j. j ≡ i) nobody (λ j. j ≡ i)
heard_first i es = record {
  at_first = λ x. absurd x;
  at_then = λ y. y;
  of_first = λ x j p m h. absurd x;
  of_then = λ y j p m h. h;
  split = λ z j p m h. inr (z, refl, h);
  both_first = λ x y h. absurd x;
  both_then = λ x y h. h;
  one_each = λ x y. absurd x;
  heard_of_first = λ j h. h;
  heard_of_then = λ j h. absurd h;
  heard_split = λ j h. inl h;
}

makes_message : (net : Network) (i : ℕ) (s t : State) (es : List Entry) → AreMetrics es → IsState s → i < s.interfaces → joined_message net i s (response es) ≡ Ok t
    → MakesState (says_entries i es) earlier (λ j. j ≡ i) s t
makes_message net i s t es metrics valid lt h =
    let then = makes_entries net i (with_heard s i) t es metrics (heard_valid s i valid) lt h in (
      makes_both silent (says_entries i es) (says_entries i es) no_order earlier earlier (λ j. j ≡ i) nobody (λ j. j ≡ i) (heard_first i es) s (with_heard s i) t (makes_heard s i) then.0,
      then.1,
    )

-- a capture that is no response says nothing
says_nothing : (n : Network) (c : Capture) (s t : State) → ((es : List Entry) → IsResponseOf es c.datagram → ⊥) → IsState s → s ≡ t
    → MakesState (says_capture n c) earlier (hears_capture n c) s t
says_nothing n c s t none valid same =
    subst (MakesState (says_capture n c) earlier (hears_capture n c) s) same
    (makes_nothing (says_capture n c) earlier (hears_capture n c) s (λ k j p m h. none h.0 (h.1).says) (λ j h. none h.0 (h.1).says), valid)

from_request : (net : Network) (s t : State) (o : Option ℕ) → joined_from net s request o ≡ Ok t → s ≡ t
from_request net s t None h = cc h
from_request net s t (Some i) h = cc h

pub from_cause : (r : Result State TableError) (t : State) → as_cause r ≡ Ok t → r ≡ Ok t
from_cause (Ok u) t h = let same : u ≡ t = cc h in ap (λ (x : State). Ok x) same
from_cause (Err e) t h = absurd (cc h)

-- an interface of the plan has a number below their count
pub interface_below : (n : Network) (s : State) (name : List ℕ) (a i : ℕ) → Fits n s → IsAt n name a i → i < s.interfaces
interface_below n s name a i fits at = omega (arith, fits.interfaces, slice_get_within n.interfaces i (at.2).1.interface (at.2).1.listed)

-- one response is of one interface
pub same_interface : (below : LowerLaws) (n : Network) (c : Capture) (i j : ℕ) → IsLawful n → interface_of n c ≡ Some i → IsAt n c.link c.sender j → j ≡ i
same_interface below n c i j lawful found at = let same : Some j ≡ Some i = sym (below.finds n c.link c.sender j lawful at) ∙ found in cc same

says_response : (below : LowerLaws) (n : Network) (s t : State) (c : Capture) (i : ℕ) (es : List Entry) → IsLawful n → IsResponseOf es c.datagram → interface_of n c ≡ Some i
    → MakesState (says_entries i es) earlier (λ j. j ≡ i) s t → MakesState (says_capture n c) earlier (hears_capture n c) s t
says_response below n s t c i es lawful says found made = (
  makes_as (says_entries i es) (says_capture n c) earlier (λ j. j ≡ i) (hears_capture n c) s t
      (λ k j p m h. (es, response_of j h.0, h.1))
      (λ k j p m h. (same_interface below n c i j lawful found (h.1).from, subst (λ (fs : List Entry). HasEntry fs k p m) (same_entries below.fields c.datagram h.0 es (h.1).says says) h.2))
      (λ j h. (es, response_of j h))
      (λ j h. same_interface below n c i j lawful found (h.1).from)
      made.0,
  made.1,
)
  where
    response_of : (j : ℕ) → j ≡ i → IsResponse n c j es
    response_of j same = record { from = below.gives n c.link c.sender j (found ∙ ap (λ (k : ℕ). Some k) (sym same)); says = says }

pub makes_capture : (below : LowerLaws) (n : Network) (s t : State) (c : Capture) → IsLawful n → IsState s → Fits n s → joined_capture n s c ≡ Ok t
    → MakesState (says_capture n c) earlier (hears_capture n c) s t
makes_capture below n s t c lawful valid fits h = by (message_in c.datagram) refl (interface_of n c) refl h
  where
    by : (m : Result Message WireError) → message_in c.datagram ≡ m → (o : Option ℕ) → interface_of n c ≡ o → joined_from n s (message_or_request m) o ≡ Ok t
        → MakesState (says_capture n c) earlier (hears_capture n c) s t
    by (Err e) is o found k =
        says_nothing n c s t (λ es r. let clash : ◌≡◌ {A = Result Message WireError} (Err e) (Ok (response es)) = sym is ∙ (below.fields es c.datagram).1 r in cc clash) valid (from_request n s t o k)
    by (Ok request) is o found k =
        says_nothing n c s t (λ es r. let clash : ◌≡◌ {A = Result Message WireError} (Ok request) (Ok (response es)) = sym is ∙ (below.fields es c.datagram).1 r in cc clash) valid
        (from_request n s t o k)
    by (Ok (response es)) is None found k = absurd (cc k)
    by (Ok (response es)) is (Some i) found k =
        let lt = interface_below n s c.link c.sender i fits (below.gives n c.link c.sender i found) in
        let says : IsResponseOf es c.datagram = (below.fields es c.datagram).0 is in
        says_response below n s t c i es lawful says found
        (makes_message n i s t es (response_metrics c.datagram es says) valid lt (from_cause (joined_message n i s (response es)) t k))

-- ---- a log

abbrev says_log : Network → List Numbered → ℕ × ℕ → ℕ → Block → ℕ → Type 0
says_log n log z i p m = IsSaid n log z.0 z.1 i p m

abbrev before_log : ℕ × ℕ → ℕ × ℕ → Type 0
before_log y z = ComesBefore y.0 y.1 z.0 z.1

log_split : (n : Network) (r : Numbered) (log : List Numbered) (k l j : ℕ) (p : Block) (m : ℕ) → IsSaid n (r ∷ log) k l j p m
    → ((x : ℕ) × (◌≡◌ {A = ℕ × ℕ} (0, x) (k, l)) × says_capture n r.capture x j p m) ⊎ ((y : ℕ × ℕ) × (◌≡◌ {A = ℕ × ℕ} (suc y.0, y.1) (k, l)) × says_log n log y j p m)
log_split n r log zero l j p m h =
    let has = h.1 in
    let is : has.0 ≡ r = cc has.1 in
    inl (l, refl, (h.0, subst (λ (x : Numbered). IsResponse n x.capture j h.0) is has.2, h.2))
log_split n r log (suc k) l j p m h = inr ((k, l), refl, h)

heard_log : (n : Network) (r : Numbered) (log : List Numbered) (k i : ℕ) (es : List Entry) → HasResponse n (r ∷ log) k i es → hears_capture n r.capture i ⊎ HasUpdate n log i
heard_log n r log zero i es h = let is : h.0 ≡ r = cc h.1 in inl (es, subst (λ (x : Numbered). IsResponse n x.capture i es) is h.2)
heard_log n r log (suc k) i es h = inr (k, es, h)

record_first : (n : Network) (r : Numbered) (log : List Numbered)
    → Joining (says_capture n r.capture) (says_log n log) (says_log n (r ∷ log)) earlier before_log before_log (hears_capture n r.capture) (HasUpdate n log) (HasUpdate n (r ∷ log))
record_first n r log = record {
  at_first = λ x. (0, x);
  at_then = λ y. (suc y.0, y.1);
  of_first = λ x j p m h. (h.0, (r, refl, h.1), h.2);
  of_then = λ y j p m h. h;
  split = λ z j p m h. log_split n r log z.0 z.1 j p m h;
  both_first = λ x y h. inr (refl, h);
  both_then = λ x y h. elim h [ inl lt ↦ inl (omega (arith, lt)) | inr e ↦ inr (ap suc e.0, e.1) ];
  one_each = λ x y. inl (omega arith);
  heard_of_first = λ j h. (0, h.0, (r, refl, h.1));
  heard_of_then = λ j h. (suc h.0, h.1, h.2);
  heard_split = λ j h. heard_log n r log h.0 j h.1 h.2;
}

pub log_then : (r : Result State CollectCause) (f : State → Result State CollectCause) (t : State) → and_then r f ≡ Ok t → (u : State) × (r ≡ Ok u) × (f u ≡ Ok t)
log_then (Ok u) f t h = (u, refl, h)
log_then (Err e) f t h = absurd (cc h)

pub makes_log : (below : LowerLaws) (n : Network) (s t : State) (log : List Numbered) → IsLawful n → IsState s → Fits n s → joined_records n s log ≡ Ok t
    → MakesState (says_log n log) before_log (HasUpdate n log) s t
makes_log below n s t [] lawful valid fits h =
    let same : s ≡ t = cc h in
    subst (MakesState (says_log n []) before_log (HasUpdate n []) s) same
    (makes_nothing (says_log n []) before_log (HasUpdate n []) s (λ z j p m k. cc (k.1).1) (λ j k. cc (k.2).1), valid)
makes_log below n s t (r ∷ log) lawful valid fits h =
    let split = log_then (joined_capture n s r.capture) (λ u. joined_records n u log) t h in
    let u = split.0 in
    let first = makes_capture below n s u r.capture lawful valid fits split.1 in
    let then = makes_log below n u t log lawful first.1 (Fits-joined n s u r.capture fits split.1) split.2 in (
      makes_both (says_capture n r.capture) (says_log n log) (says_log n (r ∷ log)) earlier before_log before_log (hears_capture n r.capture) (HasUpdate n log) (HasUpdate n (r ∷ log))
          (record_first n r log) s u t first.0 then.0,
      then.1,
    )

pub fits_log : (n : Network) (s t : State) (log : List Numbered) → Fits n s → joined_records n s log ≡ Ok t → Fits n t
fits_log n s t [] fits h = let same : s ≡ t = cc h in subst (Fits n) same fits
fits_log n s t (r ∷ log) fits h =
    let split = log_then (joined_capture n s r.capture) (λ u. joined_records n u log) t h in
    fits_log n split.0 t log (Fits-joined n s split.0 r.capture fits split.1) split.2

-- ---- the join

-- a prefix that is among some is one of them
pub item-is_among : (p : Block) (ps : List Block) → is_among p ps ≡ true → (k : ℕ) × (slice_get ps k ≡ Some p)
item-is_among p ps h = by (number_of_prefix p ps) refl
  where
    by : (o : Option ℕ) → number_of_prefix p ps ≡ o → (k : ℕ) × (slice_get ps k ≡ Some p)
    by None is = true-false (is_among p ps) h (number-none p ps is)
    by (Some k) is = (k, number-at p ps k is)

-- a prefix is listed where it was, or where something said it
module _ {X : Type 0} (says : X → ℕ → Block → ℕ → Type 0) (before : X → X → Type 0) (hears : ℕ → Type 0) (old new : State) (made : Makes says before hears old new) where
  said_of : (p : Block) → IsListed new p → IsListed old p ⊎ ((x : X) × (i m : ℕ) × says x i p m)
  said_of p h = elim (either_list old.prefixes made.others h.0 p (ap (λ (ps : List Block). slice_get ps h.0) (sym made.prefixes) ∙ h.1)) [
    | inl e ↦ inl (h.0, e)
    | inr e ↦ inr (made.named e.0 p e.2)
  ]

  still_listed : (p : Block) → IsListed old p → IsListed new p
  still_listed p h = (h.0, ap (λ (ps : List Block). slice_get ps h.0) made.prefixes ∙ front_at old.prefixes made.others h.0 p h.1)

  said_listed : (p : Block) (x : X) (i m : ℕ) → says x i p m → IsListed new p
  said_listed p x i m h = item-is_among p new.prefixes (made.listed x i p m h)

module _ (n : Network) (old new : State) (log : List Numbered) (made : Makes (says_log n log) before_log (HasUpdate n log) old new) where
  listed_to : (p : Block) → IsListed new p → IsListed old p ⊎ ((i x : ℕ) × IsTold n log i p x)
  listed_to p h = elim (said_of (says_log n log) before_log (HasUpdate n log) old new made p h) [
    | inl e ↦ inl e
    | inr e ↦ let z = e.0 in inr (e.1, e.2, (z.0, z.1, e.3))
  ]

  listed_from : (p : Block) → IsListed old p ⊎ ((i x : ℕ) × IsTold n log i p x) → IsListed new p
  listed_from p (inl h) = still_listed (says_log n log) before_log (HasUpdate n log) old new made p h
  listed_from p (inr h) = let told = h.2 in said_listed (says_log n log) before_log (HasUpdate n log) old new made p (told.0, told.1) h.0 h.1 told.2

  shown_to : (i : ℕ) (p : Block) (x : ℕ) → new.shows i p ≡ Some x → (old.shows i p ≡ Some x) ⊎ IsTold n log i p x
  shown_to i p x h = elim (made.shown i p x h) [
    | inl e ↦ inl e
    | inr e ↦ let z = e.0 in inr (z.0, z.1, e.1)
  ]

  shown_from : (i : ℕ) (p : Block) (x : ℕ) → (old.shows i p ≡ Some x) ⊎ IsTold n log i p x → new.shows i p ≡ Some x
  shown_from i p x (inl h) = made.kept i p x h
  shown_from i p x (inr h) = made.told (h.0, h.1) i p x h.2

  heard_from : (i : ℕ) → (old.heard i ≡ true) ⊎ HasUpdate n log i → new.heard i ≡ true
  heard_from i (inl h) = made.still i h
  heard_from i (inr h) = made.marked i h

  pub join_made : IsJoin n old log new
  join_made = record {
    interfaces = made.interfaces;
    shown = λ i p x. (shown_to i p x, shown_from i p x);
    heard = λ i. (made.heard i, heard_from i);
    listed = λ p. (listed_to p, listed_from p);
    others = made.others;
    prefixes = made.prefixes;
    order = λ a b p q lt e d l m h.
        let first = made.order a b p q lt e d (l, m) h.0 h.1 h.2 in
        let y = first.0 in
        (y.0, y.1, first.1, first.2);
  }

-- ---- the entries that are taken

module _ (i : ℕ) (old new : State) (es : List Entry) (made : Makes (says_entries i es) earlier nobody old new) where
  entries_to : (j : ℕ) (p : Block) (x : ℕ) → new.shows j p ≡ Some x → (old.shows j p ≡ Some x) ⊎ ((j ≡ i) × ((k : ℕ) × HasEntry es k p x))
  entries_to j p x h = elim (made.shown j p x h) [
    | inl e ↦ inl e
    | inr e ↦ let says = e.1 in inr (says.0, (e.0, says.1))
  ]

  entries_from : (j : ℕ) (p : Block) (x : ℕ) → (old.shows j p ≡ Some x) ⊎ ((j ≡ i) × ((k : ℕ) × HasEntry es k p x)) → new.shows j p ≡ Some x
  entries_from j p x (inl h) = made.kept j p x h
  entries_from j p x (inr h) = let entry = h.1 in made.told entry.0 j p x (h.0, entry.1)

  heard_to : (j : ℕ) → new.heard j ≡ true → old.heard j ≡ true
  heard_to j h = elim (made.heard j h) [ inl e ↦ e | inr e ↦ absurd e ]

  entries_listed : (p : Block) → IsListed new p → IsListed old p ⊎ ((k x : ℕ) × HasEntry es k p x)
  entries_listed p h = elim (said_of (says_entries i es) earlier nobody old new made p h) [
    | inl e ↦ inl e
    | inr e ↦ let says = e.3 in inr (e.0, e.2, says.1)
  ]

  listed_entries : (p : Block) → IsListed old p ⊎ ((k x : ℕ) × HasEntry es k p x) → IsListed new p
  listed_entries p (inl h) = still_listed (says_entries i es) earlier nobody old new made p h
  listed_entries p (inr h) = said_listed (says_entries i es) earlier nobody old new made p h.0 i h.1 (refl, h.2)

  pub taken_made : AreTaken i old es new
  taken_made = record {
    interfaces = made.interfaces;
    shown = λ j p x. (entries_to j p x, entries_from j p x);
    heard = λ j. (heard_to j, made.still j);
    listed = λ p. (entries_listed p, listed_entries p);
    others = made.others;
    prefixes = made.prefixes;
    order = λ a b p q lt e d m y h.
        let first = made.order a b p q lt e d m i y (refl, h) in
        let named = first.1 in
        let says = named.2 in
        (first.0, named.1, says.1, first.2);
  }
