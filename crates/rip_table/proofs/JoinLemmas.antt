-- What a call of `next` and a join do to what was passed.
use Rattle.std.proofs.Common.{◌≡◌, ℕ, Bool, true, false, List, [], ◌∷◌, ◌++◌, Option, Some, None, Result, Ok, Err, sym, ap, ◌∙◌, subst, append_assoc}
use Rattle.rip_plan.specs.Network.{Network}
use Rattle.rip_log.specs.Lines.{Capture}
use Rattle.rip_log.specs.Codes.{is_read}
use Rattle.rip_log.specs.Logs.{Numbered, Log, onto_log, Gives, IfElse}
use Rattle.rip_log.specs.declared.error.LogError.{LogError}
use Rattle.rip_table.specs.State.{State}
use Rattle.rip_table.specs.Joined.{joined_capture, joined_records, and_then, outcome, outcome_of, with_record, Outcome, MayAllocateFor}
use Rattle.rip_table.specs.Collects.{Passed, PassedKnown, StandsBehind, StandsBehindKnown, StuckKnown, OutcomeKnown}
use Rattle.rip_table.specs.declared.error.CollectCause.{CollectCause}
use Rattle.rip_table.specs.declared.error.CollectCause.TheVariants.{Log as OfLog}

front-step : (s : State) (line : ℕ) (first : Result State CollectCause) (later : State → Result State CollectCause) (on : State → Outcome) (new : State) (end : Outcome)
    → ((t : State) → later t ≡ Ok new → on t ≡ end) → and_then first later ≡ Ok new → with_record s line first on ≡ end
front-step s line (Ok t) later on new end ih h = ih t h
front-step s line (Err e) later on new end ih h = cc h

pub outcome_of-front : (n : Network) (s : State) (taken rest : List Numbered) (fault : Option LogError) (new : State)
    → joined_records n s taken ≡ Ok new → outcome_of n s (taken ++ rest) fault ≡ outcome_of n new rest fault
outcome_of-front n s [] rest fault new h =
    let e : s ≡ new = cc h in
    ap (λ (t : State). outcome_of n t rest fault) e
outcome_of-front n s (r ∷ taken) rest fault new h =
    front-step s r.line (joined_capture n s r.capture) (λ t. joined_records n t taken) (λ t. outcome_of n t (taken ++ rest) fault) new _
    (λ t k. outcome_of-front n t taken rest fault new k) h

pub outcome-passed : (n : Network) (old : State) (log : Log) (new : State) (left : Log) → Passed n old log new left → outcome n old log ≡ outcome n new left
outcome-passed n old log new left p =
    ap (λ (rs : List Numbered). outcome_of n old rs log.fault) p.records
    ∙ ap (λ (f : Option LogError). outcome_of n old (p.taken ++ left.records) f) p.fault
    ∙ outcome_of-front n old p.taken left.records left.fault new p.joined

snoc-step : (first : Result State CollectCause) (later on : State → Result State CollectCause) (mid new : State)
    → ((t : State) → later t ≡ Ok mid → on t ≡ Ok new) → and_then first later ≡ Ok mid → and_then first on ≡ Ok new
snoc-step (Ok t) later on mid new ih h = ih t h
snoc-step (Err e) later on mid new ih h = cc h

pub joined_records-snoc : (n : Network) (s : State) (taken : List Numbered) (r : Numbered) (mid new : State)
    → joined_records n s taken ≡ Ok mid → joined_capture n mid r.capture ≡ Ok new → joined_records n s (taken ++ r ∷ []) ≡ Ok new
joined_records-snoc n s [] r mid new h k =
    let e : s ≡ mid = cc h in
    ap (λ (t : State). and_then (joined_capture n t r.capture) (λ u. Ok u)) e ∙ ap (λ (x : Result State CollectCause). and_then x (λ u. Ok u)) k
joined_records-snoc n s (q ∷ taken) r mid new h k =
    snoc-step (joined_capture n s q.capture) (λ t. joined_records n t taken) (λ t. joined_records n t (taken ++ r ∷ [])) mid new
    (λ t m. joined_records-snoc n t taken r mid new m k) h

-- one more record
pub Passed-more : (n : Network) (old : State) (log : Log) (mid new : State) (r : Numbered) (left : Log)
    → Passed n old log mid (onto_log r left) → joined_capture n mid r.capture ≡ Ok new → Passed n old log new left
Passed-more n old log mid new r left p k = record {
  taken = p.taken ++ r ∷ [];
  records = p.records ∙ sym (append_assoc p.taken (r ∷ []) left.records);
  fault = p.fault;
  joined = joined_records-snoc n old p.taken r mid new p.joined k;
}

behind : (n : Network) (old : State) (log : Log) (mid : State) (r : Numbered) (left : Log) → Passed n old log mid (onto_log r left) → StandsBehind log r.line left
behind n old log mid r left p = record { before = p.taken; capture = r.capture; records = p.records; fault = p.fault }

pub when_memory : {P : Type 0} (Q : Type 0) (b : Bool) → b ≡ true → IfElse b P Q → P
when_memory Q true is p = p
when_memory Q false is q = absurd (cc is)

module _ {X : Type 0} (view : X → Capture) (number : X → ℕ) where
  pub PassedKnown-more : (n : Network) (old : State) (log : Option Log) (mid new : State) (here left : Option Log) (x : X)
      → PassedKnown n old log mid here → Gives view number here left (Ok (Some x)) → joined_capture n mid (view x) ≡ Ok new → PassedKnown n old log new left
  PassedKnown-more n old None mid new here left x p gives k = tt
  PassedKnown-more n old (Some log) mid new None left x p gives k = absurd p
  PassedKnown-more n old (Some log) mid new (Some m) left x p gives k =
      subst (λ (l : Option Log). PassedKnown n old (Some log) new l) (sym gives.1)
      (Passed-more n old log mid new _ _ (subst (λ (l : Log). Passed n old log mid l) gives.2 p) k)

  pub OutcomeKnown-none : (n : Network) (old : State) (log : Option Log) (mid : State) (here left : Option Log)
      → PassedKnown n old log mid here → Gives view number here left (Ok None) → OutcomeKnown n old log mid None
  OutcomeKnown-none n old None mid here left p gives = tt
  OutcomeKnown-none n old (Some log) mid None left p gives = absurd p
  OutcomeKnown-none n old (Some log) mid (Some m) left p gives = outcome-passed n old log mid _ p ∙ ap (outcome n mid) gives.0

  whether : {P Q P' Q' : Type 0} (b : Bool) → (P → P') → (Q → Q') → IfElse b P Q → IfElse b P' Q'
  whether true f g p = f p
  whether false f g q = g q

  trivial : {P Q : Type 0} (b : Bool) → P → Q → IfElse b P Q
  trivial true p q = p
  trivial false p q = q

  pub told_bad : (n : Network) (old : State) (log : Option Log) (mid : State) (here left : Option Log) (e : LogError)
      → PassedKnown n old log mid here → Gives view number here left (Err e)
      → IfElse (is_read e.code) (PassedKnown n old log mid left) (OutcomeKnown n old log mid (Some (record { line = e.line; cause = OfLog e })))
  told_bad n old None mid here left e p gives = trivial (is_read e.code) tt tt
  told_bad n old (Some log) mid None left e p gives = absurd p
  told_bad n old (Some log) mid (Some m) left e p gives =
      whether (is_read e.code)
      (λ k. subst (λ (l : Option Log). PassedKnown n old (Some log) mid l) (sym k) p)
      (λ k. outcome-passed n old log mid _ p ∙ ap (outcome n mid) k)
      gives

  pub OutcomeKnown-refused : (n : Network) (old : State) (log : Option Log) (mid : State) (here left : Option Log) (x : X) (cause : CollectCause)
      → PassedKnown n old log mid here → Gives view number here left (Ok (Some x)) → joined_capture n mid (view x) ≡ Err cause
      → OutcomeKnown n old log mid (Some (record { line = number x; cause = cause }))
  OutcomeKnown-refused n old None mid here left x cause p gives k = tt
  OutcomeKnown-refused n old (Some log) mid None left x cause p gives k = absurd p
  OutcomeKnown-refused n old (Some log) mid (Some m) left x cause p gives k =
      outcome-passed n old log mid _ p ∙ ap (outcome n mid) gives.2
      ∙ ap (λ (r : Result State CollectCause). with_record mid (number x) r (λ t. outcome n t gives.0)) k

  pub stands_behind : (n : Network) (old : State) (log : Option Log) (mid : State) (here left : Option Log) (x : X)
      → PassedKnown n old log mid here → Gives view number here left (Ok (Some x)) → StandsBehindKnown log (number x) left
  stands_behind n old None mid here left x p gives = tt
  stands_behind n old (Some log) mid None left x p gives = absurd p
  stands_behind n old (Some log) mid (Some m) left x p gives =
      subst (λ (l : Option Log). StandsBehindKnown (Some log) (number x) l) (sym gives.1)
      (behind n old log mid (record { line = number x; capture = view x }) gives.0 (subst (λ (l : Log). Passed n old log mid l) gives.2 p))

  pub StuckKnown-allocates : (n : Network) (old : State) (log : Option Log) (mid : State) (here left : Option Log) (x : X)
      → PassedKnown n old log mid here → Gives view number here left (Ok (Some x)) → MayAllocateFor n mid (view x)
      → StuckKnown n old log mid left (number x)
  StuckKnown-allocates n old None mid here left x p gives k = tt
  StuckKnown-allocates n old (Some log) mid None left x p gives k = absurd p
  StuckKnown-allocates n old (Some log) mid (Some m) left x p gives k =
      subst (λ (l : Option Log). StuckKnown n old (Some log) mid l (number x)) (sym gives.1)
      (record { capture = view x; before = subst (λ (l : Log). Passed n old log mid l) gives.2 p; allocates = k })
