-- What is said of a plan and a log that were read, and of those that were refused.
use Rattle.std.proofs.Common.{◌≡◌, ◌≢◌, ℕ, List, Bool, true, false, Option, Some, None, Result, Ok, Err, inl, inr, refl, sym, ap, subst, ◌∙◌}
use Rattle.std.specs.Prelude.{◌↔◌, if◌then◌else◌, IfOk}
use Rattle.std.proofs.lemmas.Option.{same_Some}
use Rattle.rip_plan.specs.Network.{Network}
use Rattle.rip_plan.specs.PlanFaults.{IsFault, PlanFault}
use Rattle.rip_plan.specs.PlanOf.{IsPlanOfText, PlanOf}
use Rattle.rip_plan.specs.WellFormed.{IsWellFormed}
use Rattle.rip_plan.specs.declared.error.PlanCode.TheVariants.{Memory as OutOfMemory}
use Rattle.rip_plan.specs.declared.error.PlanError.{PlanError}
use Rattle.rip_log.specs.LogText.{LogFault, LogText}
use Rattle.rip_log.specs.Logs.{Log, Numbered, log_in}
use Rattle.rip_log.specs.declared.error.LogError.{LogError}
use Rattle.rip_table.specs.Collects.{SaidOutcome, is_read_cause}
use Rattle.rip_table.specs.Joined.{is_memory}
use Rattle.rip_table.specs.LogJoin.{IsJoin, IsJoined, IsOutcome}
use Rattle.rip_table.specs.State.{AreDistinct, State, new_state}
use Rattle.rip_table.specs.declared.error.CollectError.{CollectError}
use Rattle.rip_report.specs.LogRefusals.{refusal_in}
use Rattle.rip_log.specs.Taken.{Taken}
use Rattle.rip_report.specs.PlanText.{a_fault, of_plan}
use Rattle.rip_report.specs.ReportText.{AreRead, IsAccepted, IsTable, LogMakes, LogSays, ReportText, a_refusal, of_table}
use Rattle.rip_report.specs.Sent.{WentOut}
use Rattle.rip_report.specs.Written.{Written}
use Rattle.rip_report.specs.declared.status.Status.TheVariants.{Refused}
use Rattle.rip_report.specs.declared.status.Status.{Status}
use Rattle.rip_report.specs.declared.status.RunError.{RunError}
use Rattle.rip_report.specs.declared.status.RunError.TheVariants.{Memory, Read}

-- what the words of a log's format say, as the reader has it
pub record LogWords : Type 0 where
  pub text : (text : List ℕ) (records : List Numbered) → (log_in (Some text) ≡ Some (record { records = records; fault = None })) ↔ LogText text records
  pub fault : (text : List ℕ) (records : List Numbered) (e : LogError) → (log_in (Some text) ≡ Some (record { records = records; fault = Some e })) ↔ LogFault text records e.line e.code

pub in_words : (words : LogWords) (text : List ℕ) (records : List Numbered) (fault : Option LogError) → log_in (Some text) ≡ Some (record { records = records; fault = fault }) →
    LogSays text records fault
in_words words text records None h = (words.text text records).0 h
in_words words text records (Some e) h = (words.fault text records e).0 h

pub as_read : (words : LogWords) (text : List ℕ) (records : List Numbered) (fault : Option LogError) → LogSays text records fault →
    log_in (Some text) ≡ Some (record { records = records; fault = fault })
as_read words text records None h = (words.text text records).1 h
as_read words text records (Some e) h = (words.fault text records e).1 h

-- what refuses a log is what the joining of its records answered
pub of_causes : (P : Option CollectError → Type 0) (e : CollectError) (memory read : Bool) → (memory ≡ false → read ≡ false → P (Some e))
    → IfOk (if memory then Err Memory else if read then Err Read else Ok (Some e)) P
of_causes P e true read h = tt
of_causes P e false true h = tt
of_causes P e false false h = h refl refl

pub refusal_said : (n : Network) (old : State) (log : Log) (s : State) (collected : Result (Unit {0}) CollectError) → SaidOutcome n old log s collected →
    IfOk (refusal_in collected) (IsOutcome n old log s)
refusal_said n old log s (Ok done) h = h
refusal_said n old log s (Err e) h = of_causes (IsOutcome n old log s) e (is_memory e.cause) (is_read_cause e.cause) h

-- what is made of a log
pub made_of : (words : LogWords) (n : Network) (text : List ℕ) (s : State) (collected : Result (Unit {0}) CollectError) →
    ((log : Log) → log_in (Some text) ≡ Some log → SaidOutcome n (new_state n) log s collected)
    → IfOk (refusal_in collected) (LogMakes n text s)
made_of words n text s collected said = found (log_in (Some text)) refl
  where
    of_log : (log : Log) → log_in (Some text) ≡ Some log → (r : Result (Option CollectError) RunError) → IfOk r (IsOutcome n (new_state n) log s) → IfOk r (LogMakes n text s)
    of_log log h (Ok refusal) made = (log, in_words words text log.records log.fault h, made)
    of_log log h (Err f) made = tt

    found : (log : Option Log) → log_in (Some text) ≡ log → IfOk (refusal_in collected) (LogMakes n text s)
    found None h = absurd (cc)
    found (Some log) h = of_log log h (refusal_in collected) (refusal_said n (new_state n) log s collected (said log h))

-- records make one table of an old one
abbrev pub OneJoin : Type 0
OneJoin = (n : Network) (old s t : State) (log : List Numbered) → AreDistinct s.prefixes → AreDistinct t.prefixes → IsJoin n old log s → IsJoin n old log t → s ≡ t

joined_alone : (one : OneJoin) (n : Network) (s t : State) (log : Log) (refusal : Option CollectError) → log.fault ≡ None → IsOutcome n (new_state n) log s refusal →
    IsJoined n (new_state n) log.records t → (s ≡ t) × (refusal ≡ None)
joined_alone one n s t log None whole (no_fault, is) h = (one n (new_state n) s t log.records is.state.differ h.state.differ is.join h.join, refl)
joined_alone one n s t log (Some e) whole (inl first) h = absurd (h.accepted first.before first.after _ s e.cause first.split first.joined.join first.joined.state first.refused)
joined_alone one n s t log (Some e) whole (inr own) h = absurd (never own.fault (sym own.has ∙ whole))
  where
    never : (f : LogError) → ◌≡◌ {A = Option LogError} (Some f) None → ⊥
    never f h = absurd (cc)

-- a log makes one table, and where it has one nothing refuses it
pub same_table : (words : LogWords) (one : OneJoin) (n : Network) (text : List ℕ) (s t : State) (refusal : Option CollectError) → LogMakes n text s refusal → IsTable n text t →
    (s ≡ t) × (refusal ≡ None)
same_table words one n text s t refusal made h =
    let (log, says, outcome) = made in
    let read = as_read words text log.records log.fault says in
    let both = same_Some _ _ (sym read ∙ (words.text text h.records).1 h.text) in
    joined_alone one n s t log refusal (ap (λ (o : Log). o.fault) both) outcome (subst (λ rs. IsJoined n (new_state n) rs t) (sym (ap (λ (o : Log). o.records) both)) h.joined)

-- a log that is refused has no table
pub no_table : (P : Type 0) (words : LogWords) (one : OneJoin) (n : Network) (text : List ℕ) (s t : State) (e : CollectError) → LogMakes n text s (Some e) → IsTable n text t → P
no_table P words one n text s t e made h = absurd (never (same_table words one n text s t (Some e) made h).1)
  where
    never : ◌≡◌ {A = Option CollectError} (Some e) None → ⊥
    never h = absurd (cc)

-- the document of the bytes has one plan
abbrev pub HasOnePlan : List ℕ → Type 0
HasOnePlan bytes = (n m : Network) (q : IsPlanOfText bytes m) → PlanOf q.document n → PlanOf q.document m → n ≡ m

pub same_plan : (bytes : List ℕ) (n m : Network) → HasOnePlan bytes → IsPlanOfText bytes n → IsPlanOfText bytes m → n ≡ m
same_plan bytes n m one_plan p q =
    let one : p.document ≡ q.document = same_Some p.document q.document (sym p.reads ∙ q.reads) in
    one_plan n m q (subst (λ d. PlanOf d n) one p.plan) q.plan

-- a plan that is accepted is the document's
pub accepted_plan : (bytes log : List ℕ) (n : Network) (s : State) → IsAccepted bytes log n s → IsPlanOfText bytes n
accepted_plan bytes log n s h =
    let w = h.well_formed in
    record { document = w.document; reads = w.text.reads; plan = subst (PlanOf w.document) h.network w.plan }

-- what is said of the plan that was read is said of every plan of the bytes
pub of_read : (IsSaid : Network → State → Type 0) (bytes log : List ℕ) (n m : Network) (s : State) → HasOnePlan bytes → IsPlanOfText bytes m
    → ((t : State) → IsTable m log t → IsSaid m t) → IsAccepted bytes log n s → IsSaid n s
of_read IsSaid bytes log n m s one_plan is told h =
    let same = same_plan bytes n m one_plan (accepted_plan bytes log n s h) is in
    subst (λ (k : Network). IsSaid k s) (sym same) (told s (subst (λ (k : Network). IsTable k log s) same h.table))

-- the bytes of a plan that is refused have a fault
pub of_refused : (IsSaid : Status → Type 0) (bytes log : List ℕ) (n : Network) (s : State) (e : PlanError) (outcome : Result Status RunError) → ((e.code ≡ OutOfMemory → ⊥) → PlanFault bytes e)
    → (outcome ≡ Err Memory) ↔ (e.code ≡ OutOfMemory) → ((e : PlanError) → IsFault bytes e → ⊥) ↔ IsWellFormed bytes → IsAccepted bytes log n s → IfOk outcome IsSaid
of_refused IsSaid bytes log n s e (Ok status) told wanted words k = let fault = told (λ m. other (wanted.1 m)) in absurd (words.1 k.well_formed e (fault.pass, fault.found))
  where
    other : ◌≡◌ {A = Result Status RunError} (Ok status) (Err Memory) → ⊥
    other h = absurd (cc)
of_refused IsSaid bytes log n s e (Err f) told wanted words k = tt

-- ---- what is not refused is accepted

-- a log of which nothing is refused has one table
table_alone : (words : LogWords) (one : OneJoin) (bytes text : List ℕ) (n : Network) (s t : State) → AreRead bytes text n s → LogMakes n text t None → IsTable n text s
table_alone words one bytes text n s t are (log, says, (whole, joined)) =
    let read = as_read words text log.records log.fault says in
    let both = same_Some _ _ (sym read ∙ (words.text text are.records).1 are.text) in
    let its : IsJoined n (new_state n) are.records t = subst (λ rs. IsJoined n (new_state n) rs t) (ap (λ (o : Log). o.records) both) joined in
    let same : t ≡ s = one n (new_state n) t s are.records its.state.differ are.once its.join are.join in
    record { records = are.records; text = are.text; joined = subst (λ u. IsJoined n (new_state n) are.records u) same its }

pub accepted_by : (words : LogWords) (one : OneJoin) (bytes text : List ℕ) (n : Network) (s : State) (IsTextOf : Network → State → Written → Type 0) (w : Written) → HasOnePlan bytes
    → ((e : PlanError) → IsFault bytes e → ⊥) ↔ IsWellFormed bytes → AreRead bytes text n s → ReportText IsTextOf bytes text w → w.status ≢ Refused → IsAccepted bytes text n s
accepted_by words one bytes text n s IsTextOf w one_plan well are (a_fault e fault) other = absurd (other refl)
accepted_by words one bytes text n s IsTextOf w one_plan well are (of_plan m w' none plan (a_refusal t e made)) other = absurd (other refl)
accepted_by words one bytes text n s IsTextOf w one_plan well are (of_plan m w' none plan (of_table t w'' made is)) other =
    let form = well.0 none in
    let its : IsPlanOfText bytes form.network = record { document = form.document; reads = form.text.reads; plan = form.plan } in
    record {
      well_formed = form;
      network = same_plan bytes form.network n one_plan its are.network;
      table = table_alone words one bytes text n s t are (subst (λ k. LogMakes k text t None) (same_plan bytes m n one_plan plan are.network) made);
    }

-- a run that did not refuse its plan or its log
pub ended_accepted : (words : LogWords) (one : OneJoin) (bytes text : List ℕ) (n : Network) (s : State) (IsTextOf : Network → State → Written → Type 0) (a b : Taken) (outcome : Result Status RunError)
    → HasOnePlan bytes → ((e : PlanError) → IsFault bytes e → ⊥) ↔ IsWellFormed bytes → AreRead bytes text n s → IfOk outcome (WentOut (ReportText IsTextOf bytes text) a b) →
    IfOk outcome (λ status. status ≢ Refused → IsAccepted bytes text n s)
ended_accepted words one bytes text n s IsTextOf a b (Ok status) one_plan well are (out, is, took) = accepted_by words one bytes text n s IsTextOf (record { text = out; status = status }) one_plan well are is
ended_accepted words one bytes text n s IsTextOf a b (Err e) one_plan well are out = tt

-- ---- what is accepted is not refused

pub accepted_read : (bytes log : List ℕ) (n : Network) (s : State) → IsAccepted bytes log n s → AreRead bytes log n s
accepted_read bytes log n s h = record {
  network = accepted_plan bytes log n s h;
  records = h.table.records;
  text = h.table.text;
  join = h.table.joined.join;
  once = h.table.joined.state.differ;
}

-- a text of a plan and a log that are accepted is one of the log's table
module _ (words : LogWords) (one : OneJoin) (bytes text : List ℕ) (n : Network) (s : State) (IsTextOf : Network → State → Written → Type 0) (one_plan : HasOnePlan bytes)
    (well : ((e : PlanError) → IsFault bytes e → ⊥) ↔ IsWellFormed bytes) (h : IsAccepted bytes text n s) where
  of_accepted : (w : Written) → ReportText IsTextOf bytes text w → IsTextOf n s w
  of_accepted w (a_fault e fault) = absurd (well.1 h.well_formed e (fault.pass, fault.found))
  of_accepted w (of_plan m w' none plan (a_refusal t e made)) =
      let same = same_plan bytes m n one_plan plan (accepted_plan bytes text n s h) in
      no_table _ words one n text t s e (subst (λ k. LogMakes k text t (Some e)) same made) h.table
  of_accepted w (of_plan m w' none plan (of_table t w'' made is)) =
      let same = same_plan bytes m n one_plan plan (accepted_plan bytes text n s h) in
      let its = same_table words one n text t s None (subst (λ k. LogMakes k text t None) same made) h.table in
      subst (λ k. IsTextOf k s w'') same (subst (λ u. IsTextOf m u w'') its.0 is)

  pub went_accepted : (a b : Taken) (status : Status) → ((w : Written) → IsTextOf n s w → w.status ≢ Refused) → WentOut (ReportText IsTextOf bytes text) a b status →
      (status ≢ Refused) × WentOut (IsTextOf n s) a b status
  went_accepted a b status other (out, is, took) =
      let of_table = of_accepted (record { text = out; status = status }) is in
      (other (record { text = out; status = status }) of_table, (out, of_table, took))
