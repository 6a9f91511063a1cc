-- What was written, after one text more.
use Rattle.std.proofs.Common.{◌≡◌, ◌++◌, ◌∷◌, [], ℕ, true, false, List, Option, Some, None, Result, Ok, Err, is_ok, suc, ◌+◌, arith, refl, sym, subst, ap, ◌∙◌, append_assoc, append-nil, ◌≤◌, Bool, false, is_err, length}
use Rattle.rip_report.specs.Listings.{TextsBelow}
use Rattle.rip_report.specs.Outs.{Adds, AddsOne, IsOnItsWay, Progress, noted}
use Rattle.rip_report.specs.Sent.{SinkState, Writes, sink_state}
use Rattle.rip_report.specs.declared.page.TheConstants.{PAGE_BYTES}
use Rattle.rip_log.specs.Taken.{Taken, Took}
use Rattle.rip_log.specs.declared.device.Failed.{Failed}
use Rattle.rip_report.proofs.SentLemmas.{Began-front, Sent-front, Sent-whole, Writes-more}

pub noted_more : (xs : List (Option (List ℕ))) (b : List ℕ) → noted (xs ++ Some b ∷ []) ≡ noted xs ++ b
noted_more [] b = append-nil b
noted_more (Some a ∷ xs) b = ap (λ (l : List ℕ). a ++ l) (noted_more xs b) ∙ sym (append_assoc a (noted xs) b)
noted_more (None ∷ xs) b = noted_more xs b

-- one text more, where no write has failed
pub writes_on : (a b c : SinkState) (before r : Result (Unit {0}) Failed) (text held more left : List ℕ) → is_ok before ≡ true → Writes b c r (held ++ more) left → Writes a b before text held →
    Writes a c r (text ++ more) left
writes_on a b c (Ok done) r text held more left ok w s = Writes-more a b c done r text held more left s w
writes_on a b c (Err e) r text held more left ok w s = cc ok

-- and where one has
pub writes_lost : (a b : SinkState) (before : Result (Unit {0}) Failed) (text held more : List ℕ) → is_ok before ≡ false → Writes a b before text held → Writes a b before (text ++ more) held
writes_lost a b (Ok done) text held more fails s = cc fails
writes_lost a b (Err e) text held more fails s = record { ok = tt; err = Began-front a.taken b.taken text more s.err; failed = s.failed; kept = s.kept }

-- two texts, one after the other
pub adds_then : {a b c : Progress} {x y : List ℕ} → Adds a b x → Adds b c y → Adds a c (x ++ y)
adds_then {a} {b} {c} {x} {y} s t = record { start = t.start ∙ s.start; text = t.text ∙ ap (λ (l : List ℕ). l ++ y) s.text ∙ append_assoc a.text x y }

-- more text, which is held
pub writes_held : (a b : SinkState) (r : Result (Unit {0}) Failed) (text held more : List ℕ) → Writes a b r text held → Writes a b r (text ++ more) (held ++ more)
writes_held a b (Ok done) text held more s = record { ok = Sent-front a.taken b.taken text held more s.ok; err = tt; failed = s.failed; kept = s.kept }
writes_held a b (Err e) text held more s = record { ok = tt; err = Began-front a.taken b.taken text more s.err; failed = s.failed; kept = s.kept }

-- a text that is on its way
pub on_its_way : {K : Type 0} (taken : K → Taken) (broken : K → Bool) (start : SinkState) (sink : K) (r : Result (Unit {0}) Failed) (text held : List ℕ) → is_err r ≡ false → length held ≤ PAGE_BYTES →
    Writes start (sink_state taken broken sink) r text held → IsOnItsWay taken broken start text
on_its_way taken broken start sink (Ok done) text held ok few writes = record { sink = sink; held = held; writes = writes; few = few }
on_its_way taken broken start sink (Err e) text held ok few writes = cc ok

-- a text that has gone out, where nothing of it is held and no write has failed
pub gone_out : (a b : SinkState) (r : Result (Unit {0}) Failed) (text : List ℕ) → is_err r ≡ false → Writes a b r text [] → Took a.taken b.taken text
gone_out a b (Ok done) text ok writes = Sent-whole a.taken b.taken text writes.ok
gone_out a b (Err e) text ok writes = cc ok

-- the text that it is after more was added
pub way_after : {K : Type 0} (taken : K → Taken) (broken : K → Bool) {a b : Progress} {x : List ℕ} → Adds a b x → IsOnItsWay taken broken b.start b.text → IsOnItsWay taken broken a.start (a.text ++ x)
way_after taken broken {a} {b} {x} adds way =
    subst (λ (s : SinkState). IsOnItsWay taken broken s (a.text ++ x)) adds.start (subst (IsOnItsWay taken broken b.start) adds.text way)

-- no text
pub adds_none : (p : Progress) → Adds p p []
adds_none p = record { start = refl; text = sym (append-nil p.text) }

-- the same text by another name
pub adds_same : {a b : Progress} {x y : List ℕ} → x ≡ y → Adds a b x → Adds a b y
adds_same e adds = rw (← e) adds

-- a text of those that may be added
pub adds_one : {a b : Progress} {IsText : List ℕ → Type 0} {x : List ℕ} → IsText x → Adds a b x → AddsOne a b IsText
adds_one {x} is adds = record { text = x; is_text = is; adds = adds }

pub adds_nothing : {a : Progress} {IsText : List ℕ → Type 0} → IsText [] → AddsOne a a IsText
adds_nothing {a} is = adds_one is (adds_none a)

-- a text that is also one of others
pub added_also : {a b : Progress} {IsText IsAlso : List ℕ → Type 0} → ((text : List ℕ) → IsText text → IsAlso text) → AddsOne a b IsText → AddsOne a b IsAlso
added_also also one = record { text = one.text; is_text = also one.text one.is_text; adds = one.adds }

-- ---- The texts of the numbers below a bound

pub one_more : (IsText : ℕ → List ℕ → Type 0) {a b c : Progress} (k : ℕ) → AddsOne a b (TextsBelow IsText k) → AddsOne b c (IsText k) → AddsOne a c (TextsBelow IsText (k + 1))
one_more IsText k so part =
    let e : k + 1 ≡ suc k = omega arith in
    rw e (record { text = so.text ++ part.text; is_text = (so.text, part.text, so.is_text, part.is_text, refl); adds = adds_then so.adds part.adds })
