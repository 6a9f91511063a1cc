-- What is written under a verdict.
use Rattle.std.proofs.Common.{◌≡◌, ◌≢◌, ◌⊎◌, inl, inr, ℕ, zero, suc, ◌<◌, ◌↔◌, Bool, false, true, List, [], ◌∷◌, ◌++◌, Option, Some, Result, Ok, Err, get_or, length, slice_get, refl, sym, ap, ◌∙◌, append-nil, arith}
use Rattle.std.specs.Prelude.{IfOk}
use Rattle.std.specs.declared.alloc.AllocError.{AllocError}
use Rattle.std.specs.List.{Contains}
use Rattle.std.proofs.lemmas.List.Concat.{flat_map-append}
use Rattle.std.proofs.lemmas.List.{get_or_default}
use Rattle.std.proofs.lemmas.List.Elements.{Contains-get_or}
use Rattle.std.proofs.lemmas.Option.{same_Some, slice_get-get_or, slice_get_within}
use Rattle.rip_wire.specs.Prefix.{Block, block}
use Rattle.rip_plan.specs.Network.{Network}
use Rattle.rip_plan.specs.Relations.{IsInterface}
use Rattle.rip_plan.specs.declared.parts.Interface.{Interface}
use Rattle.rip_log.specs.Taken.{Taken}
use Rattle.rip_table.specs.State.{State}
use Rattle.rip_check.specs.Metrics.{metric_at}
use Rattle.rip_check.specs.Paths.{Hop, IsLeast, IsPath}
use Rattle.rip_check.specs.declared.verdict.Place2.{Place2}
use Rattle.rip_check.specs.declared.verdict.Verdict.{Verdict}
use Rattle.rip_report.specs.AuditText.{AllFailing, FailingText, IsJudged, UnsettledLine, fails, holds, a_settled as settled_verdict, an_unclear as unclear_verdict, an_unsettled as unsettled_verdict, settled_line, unclear_line, unsettled_line}
use Rattle.rip_report.specs.ExplainText.{BeginsWithVerdict, ExplainText, Explains, ExplainsAll, PlaceLines, a_settled, an_unclear, an_unsettled}
use Rattle.rip_report.specs.Finished.{AddsWritten}
use Rattle.rip_report.specs.Listings.{TextsBelow}
use Rattle.rip_report.specs.Outs.{Progress}
use Rattle.rip_report.specs.Sent.{WentOut}
use Rattle.rip_report.specs.Written.{Written}
use Rattle.rip_report.specs.declared.status.RunError.{RunError}
use Rattle.rip_report.specs.declared.status.Status.{Status}
use Rattle.rip_report.specs.declared.status.Status.TheVariants.{Refused}
use Rattle.rip_report.proofs.VerdictLemmas.{Judges, judged}

-- what a table says of a prefix by its number
pub shown_metric : (s : State) (i p : ℕ) (shown : Option ℕ) → p < length s.prefixes → ((b : Block) → slice_get s.prefixes p ≡ Some b → shown ≡ s.shows i b) → shown ≡ metric_at s i p
shown_metric s i p shown known is =
    let b = get_or s.prefixes p (block 0 0) in
    let at : slice_get s.prefixes p ≡ Some b = slice_get-get_or s.prefixes p (block 0 0) known in
    rw at (is b at)

-- the interfaces on a link, by their numbers
pub on_number : (n : Network) (l : ℕ) (numbers : List ℕ) → ((i : ℕ) → Contains numbers i ↔ ((r c : ℕ) × IsInterface n i r l c)) → (k : ℕ) → k < length numbers →
    (r c : ℕ) × IsInterface n (get_or numbers k 0) r l c
on_number n l numbers exact k lt = (exact (get_or numbers k 0)).0 (Contains-get_or numbers k 0 lt)

pub on_below : (n : Network) (l : ℕ) (numbers : List ℕ) → ((i : ℕ) → Contains numbers i ↔ ((r c : ℕ) × IsInterface n i r l c)) → (k : ℕ) → k < length numbers → get_or numbers k 0 < length n.interfaces
on_below n l numbers exact k lt = let h = on_number n l numbers exact k lt in slice_get_within n.interfaces (get_or numbers k 0) _ h.2.listed

-- what was read of an interface on a link
pub its_own_link : (n : Network) (j r l c : ℕ) (x : Interface) → IsInterface n j r l c → slice_get n.interfaces j ≡ Some x → IsInterface n j x.router l x.cost
its_own_link n j r l c x is at =
    let link : x.link ≡ l = ap (λ (y : Interface). y.link) (same_Some x is.interface (sym at ∙ is.listed)) ∙ is.link in
    record { interface = x; listed = at; router = refl; link = link; cost = refl }

-- each interface on a link is at a place of the list
pub on_place : (n : Network) (l : ℕ) (numbers : List ℕ) → ((i : ℕ) → Contains numbers i ↔ ((r c : ℕ) × IsInterface n i r l c)) → (i r c : ℕ) → IsInterface n i r l c →
    (k : ℕ) × (k < length numbers) × (get_or numbers k 0 ≡ i)
on_place n l numbers exact i r c is =
    let h = (exact i).1 (r, c, is) in
    (h.0, h.1, get_or_default numbers h.0 0 i h.1 ∙ h.2)

-- a metric below 16 is not 16
pub not_far : (n : Network) (p r m : ℕ) → m ≢ 16 → IsLeast n p r m → IsLeast n p r 16 → ⊥
not_far n p r m other is far = go is.reached
  where
    go : (m ≡ 16) ⊎ ((m < 16) × ((hops : List Hop) × IsPath n p r hops m)) → ⊥
    go (inl e) = other e
    go (inr h) = omega (arith, h.0, far.least h.1.0 m h.1.1)

-- a text without `all` begins with the verdict
pub begins : (n : Network) (s : State) (w : Written) → ExplainText n s false w → BeginsWithVerdict n s w
begins n s w (a_settled lines right under) = (settled_line n s, lines, settled_verdict right, refl)
begins n s w (an_unclear trouble text first h) = (unclear_line n s trouble, h.under, unclear_verdict trouble first, h.whole)
begins n s w (an_unsettled f text shows first h) = (unsettled_line n s f, _, unsettled_verdict f (unsettled_line n s f) shows first refl, h.whole)

-- what the status of a text says of the table
pub explained : (n : Network) (s : State) (all : Bool) (v : Verdict) (w : Written) → Judges n s v → ExplainText n s all w → IsJudged n s w.status
explained n s all v w j (a_settled lines right under) = rw (j.settled.1 right) at (judged n s v j)
explained n s all v w j (an_unclear trouble text first h) = rw ((j.unclear trouble).1 first) at (judged n s v j)
explained n s all v w j (an_unsettled f text shows first h) = rw ((j.unsettled f).1 (shows, first)) at (judged n s v j)

pub explained_written : {n : Network} {s : State} {all : Bool} {a b : Progress} {told : Result Status AllocError} (v : Verdict) → Judges n s v → AddsWritten a b told (ExplainText n s all) → IfOk told (IsJudged n s)
explained_written {n} {s} {all} {told = Ok status} v j t = explained n s all v (record { text = t.text.text; status = status }) j t.text.is_text
explained_written {told = Err e} v j t = tt

-- a run without `all` has written a text that begins with the verdict
pub begins_out : (n : Network) (s : State) (all : Bool) (a b : Taken) (outcome : Result Status RunError) → all ≡ false → IfOk outcome (WentOut (ExplainText n s all) a b) →
    IfOk outcome (WentOut (BeginsWithVerdict n s) a b)
begins_out n s all a b (Ok status) off h =
    let text : ExplainText n s false (record { text = h.0; status = status }) = rw off at h.1 in
    (h.0, begins n s (record { text = h.0; status = status }) text, h.2)
begins_out n s all a b (Err e) off h = tt

-- texts of numbers, and what explains them, one after the other
explains_more : (n : Network) (s : State) (a b c d : List ℕ) → Explains n s a b → Explains n s c d → Explains n s (a ++ c) (b ++ d)
explains_more n s a b c d x y = (
  x.0 ++ y.0,
  ap2 x.1 y.1 ∙ sym (flat_map-append (λ (f : Place2 × List ℕ). unsettled_line n s f.0) x.0 y.0),
  ap2 x.2 y.2 ∙ sym (flat_map-append (λ (f : Place2 × List ℕ). unsettled_line n s f.0 ++ f.1) x.0 y.0),
)
  where
    ap2 : {p q r t : List ℕ} → p ≡ q → r ≡ t → p ++ r ≡ q ++ t
    ap2 {p} {q} {r} {t} e f = ap (λ l. l ++ r) e ∙ ap (λ l. q ++ l) f

explains_below : (n : Network) (s : State) (IsText IsLine : ℕ → List ℕ → Type 0) → ((k : ℕ) (text : List ℕ) → IsText k text → (line : List ℕ) × IsLine k line × Explains n s line text)
    → (k : ℕ) (text : List ℕ) → TextsBelow IsText k text → (lines : List ℕ) × TextsBelow IsLine k lines × Explains n s lines text
explains_below n s IsText IsLine each zero text e = ([], refl, ([], refl, e))
explains_below n s IsText IsLine each (suc k) text h =
    let (front, part, below, is, whole) = h in
    let before = explains_below n s IsText IsLine each k front below in
    let here = each k part is in
    let more = explains_more n s before.0 front here.0 part before.2 here.2 in
    (before.0 ++ here.0, (before.0, here.0, before.1, here.1, refl), (more.0, more.1, whole ∙ more.2))

explains_place : (n : Network) (s : State) (r p : ℕ) (text : List ℕ) → FailingText n s (PlaceLines n s) r p text →
    (line : List ℕ) × FailingText n s (UnsettledLine n s) r p line × Explains n s line text
explains_place n s r p text (fails f same router prefix failing lines) =
    let line = unsettled_line n s f in
    (line, fails f line router prefix failing refl, ((f, _) ∷ [], sym (append-nil line), lines.whole ∙ sym (append-nil _)))
explains_place n s r p text (holds sound) = ([], holds sound, ([], refl, refl))

-- the lines of all places that fail, and what explains them
explains_all : (n : Network) (s : State) (text : List ℕ) → AllFailing n s (PlaceLines n s) text → (lines : List ℕ) × AllFailing n s (UnsettledLine n s) lines × Explains n s lines text
explains_all n s text h =
    explains_below n s (λ r. TextsBelow (FailingText n s (PlaceLines n s) r) (length s.prefixes)) (λ r. TextsBelow (FailingText n s (UnsettledLine n s) r) (length s.prefixes))
    (λ r. explains_below n s (FailingText n s (PlaceLines n s) r) (FailingText n s (UnsettledLine n s) r) (explains_place n s r) (length s.prefixes)) (length n.routers) text h

explains_each : (n : Network) (s : State) (w : Written) → ExplainText n s true w → ExplainsAll n s w
explains_each n s w (a_settled lines right under) = λ e. absurd cc
explains_each n s w (an_unclear trouble text first h) = λ e. absurd cc
explains_each n s w (an_unsettled f text shows first h) = λ e. let all = explains_all n s text h in (all.0, unsettled_verdict f all.0 shows first all.1, all.2)

-- a run with `all` has written a text with the lines of `audit --all`
pub explains_out : (n : Network) (s : State) (all : Bool) (a b : Taken) (outcome : Result Status RunError) → all ≡ true → IfOk outcome (WentOut (ExplainText n s all) a b) →
    IfOk outcome (WentOut (ExplainsAll n s) a b)
explains_out n s all a b (Ok status) on h =
    let text : ExplainText n s true (record { text = h.0; status = status }) = rw on at h.1 in
    (h.0, explains_each n s (record { text = h.0; status = status }) text, h.2)
explains_out n s all a b (Err e) on h = tt

-- no explained verdict is a refusal
pub explain_not_refused : (n : Network) (s : State) (all : Bool) (w : Written) → ExplainText n s all w → w.status ≢ Refused
explain_not_refused n s all w (a_settled lines right are) = λ e. cc e
explain_not_refused n s all w (an_unclear trouble text is lines) = λ e. cc e
explain_not_refused n s all w (an_unsettled f text shows is lines) = λ e. cc e
