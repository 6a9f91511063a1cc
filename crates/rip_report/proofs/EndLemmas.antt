-- The end of a run that has added one of the texts that it may print.
use Rattle.std.proofs.Common.{◌≡◌, ◌⊎◌, inl, inr, ◌++◌, ◌∙◌, ℕ, Bool, List, [], Result, Ok, Err, refl, sym, ap, subst}
use Rattle.std.specs.Prelude.{◌↔◌, IfOk}
use Rattle.std.specs.declared.alloc.AllocError.{AllocError}
use Rattle.rip_plan.specs.Answers.{out_of_memory}
use Rattle.rip_plan.specs.PlanFaults.{PlanFault}
use Rattle.rip_plan.specs.declared.error.PlanCode.TheVariants.{Memory as OutOfMemory}
use Rattle.rip_plan.specs.declared.error.PlanError.{PlanError}
use Rattle.rip_log.specs.Taken.{Taken}
use Rattle.rip_report.specs.Finished.{AddsWritten, Answers, EndsWith}
use Rattle.rip_report.specs.Outs.{AddsOne, Progress}
use Rattle.rip_report.specs.Sent.{Prints, SinkState, WentOut, sink_state}
use Rattle.rip_report.specs.PlanText.{refused_plan}
use Rattle.rip_report.specs.Written.{Written}
use Rattle.rip_report.specs.declared.status.Status.{Status}
use Rattle.rip_report.specs.declared.status.RunError.{RunError}
use Rattle.rip_report.specs.declared.status.RunError.TheVariants.{Memory, Read, Write}
use Rattle.rip_report.proofs.OutLemmas.{added_also}

-- the text that was written is one of them
pub ends_prints : {K : Type 0} (IsText : Written → Type 0) (taken : K → Taken) (broken : K → Bool) (a b : K) (w : Written) (answer : Result Status RunError) → IsText w →
    EndsWith (sink_state taken broken a) (sink_state taken broken b) w.text (Ok w.status) answer → Prints taken broken a b answer IsText
ends_prints IsText taken broken a b w (Ok status) told e =
    let out = e.out (λ h. cc h) in
    let same : status ≡ w.status = cc out.0 in
    record {
      text = (w.text, subst (λ (s : Status). IsText (record { text = w.text; status = s })) (sym same) told, out.1);
      write = λ h. cc h;
      read = λ h. cc h;
      memory = λ h. cc h;
      sink = λ other. e.sink other;
    }
ends_prints IsText taken broken a b w (Err Write) told e = record {
  text = tt;
  write = λ h. let began = e.write refl in (began.0, (w, told, began.1));
  read = λ h. cc h;
  memory = λ h. cc h;
  sink = λ other. absurd (other refl);
}
ends_prints IsText taken broken a b w (Err Read) told e = absurd (cc (e.out (λ h. cc h)).0)
ends_prints IsText taken broken a b w (Err Memory) told e = absurd (cc (e.out (λ h. cc h)).0)

-- one of them was added to nothing
pub ends_one : {K : Type 0} {IsText : Written → Type 0} (taken : K → Taken) (broken : K → Bool) (a b : K) {begun text : Progress} {status : Status} {answer : Result Status RunError}
    → begun.start ≡ sink_state taken broken a → begun.text ≡ [] → AddsOne begun text (λ l. IsText (record { text = l; status = status })) →
    EndsWith text.start (sink_state taken broken b) text.text (Ok status) answer
    → Prints taken broken a b answer IsText
ends_one {K} {IsText} taken broken a b {begun} {text} {status} {answer} start none added e =
    let same : text.text ≡ added.text = added.adds.text ∙ ap (λ l. l ++ added.text) none in
    let now = sink_state taken broken b in
    let from : EndsWith (sink_state taken broken a) now text.text (Ok status) answer = subst (λ (s : SinkState). EndsWith s now text.text (Ok status) answer) (added.adds.start ∙ start) e in
    ends_prints IsText taken broken a b (record { text = added.text; status = status }) answer added.is_text
    (subst (λ (l : List ℕ). EndsWith (sink_state taken broken a) now l (Ok status) answer) same from)

-- the end of a run whose command has added one of these texts, or nothing
pub written_prints : {K : Type 0} {IsText : Written → Type 0} (taken : K → Taken) (broken : K → Bool) (a b : K) {begun text : Progress} {added : Result Status AllocError} {answer : Result Status RunError}
    → begun.start ≡ sink_state taken broken a → begun.sink ≡ sink_state taken broken a → begun.text ≡ [] → AddsWritten begun text added IsText →
    Answers text added (sink_state taken broken b) answer
    → Prints taken broken a b answer IsText
written_prints taken broken a b {added = Ok status} start now none t h = ends_one taken broken a b start none t.text h.ends
written_prints taken broken a b {added = Err e} start now none t h =
    let same : sink_state taken broken b ≡ sink_state taken broken a = h.lacks.1 ∙ ap (λ (p : Progress). p.sink) t.nothing ∙ now in
    rw h.lacks.0 (record {
      text = tt;
      write = λ e. cc e;
      read = λ e. cc e;
      memory = λ e. ap (λ (s : SinkState). s.taken) same;
      sink = λ other. ap (λ (s : SinkState). s.broken) same;
    })

-- what holds of the status of what was added holds of the one that is answered
ended_status : (IsStatus : Status → Type 0) (old new : SinkState) (text : List ℕ) (status : Status) (answer : Result Status RunError) → IsStatus status → EndsWith old new text (Ok status) answer →
    IfOk answer IsStatus
ended_status IsStatus old new text status (Ok answered) is e =
    let same : answered ≡ status = cc (e.out (λ h. cc h)).0 in
    subst IsStatus (sym same) is
ended_status IsStatus old new text status (Err e) is h = tt

pub written_status : (IsStatus : Status → Type 0) {text : Progress} {added : Result Status AllocError} {now : SinkState} {answer : Result Status RunError} → IfOk added IsStatus →
    Answers text added now answer → IfOk answer IsStatus
written_status IsStatus {text} {added = Ok status} {now} {answer} is h = ended_status IsStatus text.start now text.text status answer is h.ends
written_status IsStatus {added = Err e} is h = rw h.lacks.0 tt

-- one of these texts is one of more
pub written_also : {IsText IsAlso : Written → Type 0} {a b : Progress} {added : Result Status AllocError} → ((w : Written) → IsText w → IsAlso w) → AddsWritten a b added IsText →
    AddsWritten a b added IsAlso
written_also {added = Ok status} also t = record { text = added_also (λ text is. also (record { text = text; status = status }) is) t.text; nothing = tt }
written_also {added = Err e} also t = record { text = tt; nothing = t.nothing }

-- what prints one of these texts prints one of more
pub prints_also : {K : Type 0} (IsText IsAlso : Written → Type 0) (taken : K → Taken) (broken : K → Bool) (a b : K) (outcome : Result Status RunError)
    → ((w : Written) → IsText w → IsAlso w) → Prints taken broken a b outcome IsText → Prints taken broken a b outcome IsAlso
prints_also IsText IsAlso taken broken a b outcome also p = record {
  text = went_on outcome p.text;
  write = λ e. let h = p.write e in (h.0, (h.1.0, also h.1.0 h.1.1, h.1.2));
  read = p.read;
  memory = p.memory;
  sink = p.sink;
}
  where
    went_on : (o : Result Status RunError) → IfOk o (WentOut IsText (taken a) (taken b)) → IfOk o (WentOut IsAlso (taken a) (taken b))
    went_on (Ok status) h = (h.0, also (record { text = h.0; status = status }) h.1, h.2)
    went_on (Err e) h = tt

-- the end of a run whose plan is refused
not_memory : (status : Status) → ◌≡◌ {A = Result Status RunError} (Ok status) (Err Memory) → ⊥
not_memory status h = absurd (cc)

write_is_not_memory : ◌≡◌ {A = Result Status RunError} (Err Write) (Err Memory) → ⊥
write_is_not_memory h = absurd (cc)

pub refused_prints : {K : Type 0} (IsText : Written → Type 0) (e : PlanError) (taken : K → Taken) (broken : K → Bool) (a b : K) (outcome : Result Status RunError)
    → ((e.code ≡ OutOfMemory → ⊥) → IsText (refused_plan e))
    → (outcome ≡ Err Memory) ↔ (e.code ≡ OutOfMemory) → Prints taken broken a b outcome (λ w. w ≡ refused_plan e) → Prints taken broken a b outcome IsText
refused_prints IsText e taken broken a b (Ok status) told wanted p =
    prints_also (λ w. w ≡ refused_plan e) IsText taken broken a b (Ok status) (λ w is. subst IsText (sym is) (told (λ m. not_memory status (wanted.1 m)))) p
refused_prints IsText e taken broken a b (Err f) told wanted p = record {
  text = tt;
  write = λ is.
      let h = p.write is in
      let other : e.code ≡ OutOfMemory → ⊥ = λ m. write_is_not_memory (sym is ∙ wanted.1 m) in
      (h.0, (h.1.0, subst IsText (sym h.1.1) (told other), h.1.2));
  read = p.read;
  memory = p.memory;
  sink = p.sink;
}

-- a fault that is not Memory is the first one of the bytes
pub first_told : (bytes : List ℕ) (e : PlanError) → (e ≡ out_of_memory) ⊎ PlanFault bytes e → (e.code ≡ OutOfMemory → ⊥) → PlanFault bytes e
first_told bytes e (inl h) other = absurd (other (ap (λ (e : PlanError). e.code) h))
first_told bytes e (inr h) other = h
