-- A log of which nothing is left out is one that is accepted, and its table is the one that is judged.
use Rattle.std.proofs.Common.{◌≡◌, ◌↔◌, ℕ, ◌==◌, ◌&&◌, Bool, true, false, List, [], ◌++◌, Option, Some, None, Result, Ok, Err, refl, sym, ap, ◌∙◌, subst, append-nil}
use Rattle.std.specs.Prelude.{IfOk, if◌then◌else◌, codes}
use Rattle.std.proofs.lemmas.Bool.{eqb-true}
use Rattle.std.proofs.lemmas.Option.{same_Some}
use Rattle.rip_plan.specs.Network.{Network}
use Rattle.rip_plan.specs.PlanFaults.{IsFault}
use Rattle.rip_plan.specs.Relations.{IsLawful}
use Rattle.rip_plan.specs.WellFormed.{IsWellFormed}
use Rattle.rip_plan.specs.declared.error.PlanError.{PlanError}
use Rattle.rip_log.specs.Said.{AllSaid, AreAllSaid, SaidAt, all_said, said_at}
use Rattle.rip_log.specs.Logs.{Log, log_at}
use Rattle.rip_log.specs.Taken.{Taken}
use Rattle.rip_table.specs.Events.{AreCalm, ComeTo, EventAt, all_events, events_of, last_event, state_after}
use Rattle.rip_table.specs.LogJoin.{IsJoined, IsOutcome}
use Rattle.rip_table.specs.State.{State, new_state}
use Rattle.rip_table.specs.Tallies.{counts_of}
use Rattle.rip_table.specs.declared.tallies.counts.Counts.{Counts}
use Rattle.rip_report.specs.AnywayText.{Anyway}
use Rattle.rip_report.specs.Hearings.{EventsText, LogComesTo, OfAccepted}
use Rattle.rip_report.specs.LeftOut.{count_part, is_all_joined, left_out_line, separator}
use Rattle.rip_report.specs.PlanText.{a_fault, of_plan}
use Rattle.rip_report.specs.ReportText.{IsAccepted, IsTable}
use Rattle.rip_report.specs.Sent.{WentOut}
use Rattle.rip_report.specs.Written.{Written, line}
use Rattle.rip_report.specs.declared.status.RunError.{RunError}
use Rattle.rip_report.specs.declared.status.Status.{Status}
use Rattle.rip_report.proofs.ReportLemmas.{HasOnePlan, LogWords, accepted_plan, same_plan}

-- the laws of lower definitions
pub record Laws (n : Network) : Type 0 where
  pub words : LogWords
  pub said : (text : List ℕ) (all : AllSaid) → (all_said text ≡ all) ↔ AreAllSaid text all
  pub come : (said : List SaidAt) (events : List EventAt) (new : State) →
      ((events_of n (new_state n) said ≡ events) × (state_after n (new_state n) said ≡ new)) ↔ ComeTo n (new_state n) said events new
  pub calm : (new : State) (text : List ℕ) (log : Log) (all : AllSaid) → log_at 0 (Some text) ≡ Some log → said_at 0 (Some text) ≡ Some all →
      IsOutcome n (new_state n) log new None ↔ (AreCalm (all_events n (new_state n) all) × (state_after n (new_state n) all.said ≡ new))
  pub counts : (events : List EventAt) → AreCalm events ↔ (((counts_of events).refused ≡ 0) × ((counts_of events).strangers ≡ 0) × ((counts_of events).bad ≡ 0))

-- a text that comes to events has a log and lines of which these are
record Come (n : Network) (text : List ℕ) (events : List EventAt) (s : State) : Type 0 where
  log : Log
  all : AllSaid
  is_log : log_at 0 (Some text) ≡ Some log
  is_all : said_at 0 (Some text) ≡ Some all
  events_are : events ≡ all_events n (new_state n) all
  state_is : state_after n (new_state n) all.said ≡ s

some_log : (text : List ℕ) → (log : Log) × (log_at 0 (Some text) ≡ Some log)
some_log text = by (log_at 0 (Some text)) refl
  where
    by : (l : Option Log) → log_at 0 (Some text) ≡ l → (log : Log) × (log_at 0 (Some text) ≡ Some log)
    by None h = absurd (cc h)
    by (Some log) h = (log, h)

come_of : (n : Network) (text : List ℕ) (events : List EventAt) (s : State) → Laws n → LogComesTo n text events s → Come n text events s
come_of n text events s laws h =
    let found = some_log text in
    let come = (laws.come h.all.said h.of_lines s).1 h.come in
    record {
      log = found.0;
      all = h.all;
      is_log = found.1;
      is_all = ap Some ((laws.said text h.all).1 h.said);
      events_are = h.whole ∙ ap (λ (l : List EventAt). l ++ last_event h.all.too_many) (sym come.0);
      state_is = come.1;
    }

-- a table of a text is what its log makes
outcome_of : (n : Network) (text : List ℕ) (log : Log) (t : State) → LogWords → log_at 0 (Some text) ≡ Some log → IsTable n text t → IsOutcome n (new_state n) log t None
outcome_of n text log t words is h =
    let both = same_Some _ _ (sym is ∙ (words.text text h.records).1 h.text) in
    (ap (λ (o : Log). o.fault) both, subst (λ rs. IsJoined n (new_state n) rs t) (sym (ap (λ (o : Log). o.records) both)) h.joined)

table_of : (n : Network) (text : List ℕ) (log : Log) (t : State) → LogWords → log_at 0 (Some text) ≡ Some log → IsOutcome n (new_state n) log t None → IsTable n text t
table_of n text log t words is h = record {
  records = log.records;
  text = (words.text text log.records).0 (is ∙ ap (λ f. Some (record { records = log.records; fault = f })) h.0);
  joined = h.1;
}

-- the counts of what is left out are 0
all_joined : (c : Counts) → (is_all_joined c ≡ true) ↔ ((c.refused ≡ 0) × (c.strangers ≡ 0) × (c.bad ≡ 0))
all_joined c = (by (c.refused == 0) (c.strangers == 0) (c.bad == 0) (eqb-true c.refused 0) (eqb-true c.strangers 0) (eqb-true c.bad 0), λ h. rw (h.0, h.1, h.2) refl)
  where
    never : false ≡ true → ⊥
    never h = absurd (cc h)

    by : (x y z : Bool) → {A B C : Type 0} → (x ≡ true → A) → (y ≡ true → B) → (z ≡ true → C) → (x && y && z) ≡ true → A × B × C
    by true true true a b c h = (a refl, b refl, c refl)
    by true true false a b c h = absurd (never h)
    by true false z a b c h = absurd (never h)
    by false y z a b c h = absurd (never h)

pub accepted : (n : Network) (text : List ℕ) (events : List EventAt) (s : State) → Laws n → LogComesTo n text events s → (is_all_joined (counts_of events) ≡ true) ↔ IsTable n text s
accepted n text events s laws h =
    let c = come_of n text events s laws h in
    let calm = laws.calm s text c.log c.all c.is_log c.is_all in
    let counts = laws.counts events in
    let joined = all_joined (counts_of events) in (
      λ all. table_of n text c.log s laws.words c.is_log (calm.1 (subst AreCalm c.events_are (counts.1 (joined.0 all)), c.state_is)),
      λ table. joined.1 (counts.0 (subst AreCalm (sym c.events_are) (calm.0 (outcome_of n text c.log s laws.words c.is_log table)).0)),
    )

pub judged : (n : Network) (text : List ℕ) (events : List EventAt) (s t : State) → Laws n → LogComesTo n text events s → IsTable n text t → s ≡ t
judged n text events s t laws h table =
    let c = come_of n text events s laws h in
    sym c.state_is ∙ ((laws.calm t text c.log c.all c.is_log c.is_all).0 (outcome_of n text c.log t laws.words c.is_log table)).1

-- what is printed of an accepted log is of its table, and nothing is left out
pub of_accepted : (IsText : Network → List EventAt → State → Written → Type 0) (bytes log : List ℕ) (n : Network) (s : State) (w : Written)
    → HasOnePlan bytes
    → ((e : PlanError) → IsFault bytes e → ⊥) ↔ IsWellFormed bytes
    → ((events : List EventAt) → IsLawful n → LogComesTo n log events s → (is_all_joined (counts_of events) ≡ true) ↔ IsTable n log s)
    → ((events : List EventAt) (t : State) → IsLawful n → LogComesTo n log events t → IsTable n log s → t ≡ s)
    → IsAccepted bytes log n s → EventsText IsText bytes log w → OfAccepted IsText n s w
of_accepted IsText bytes log n s _ one words whole same k (a_fault e fault) = absurd (words.1 k.well_formed e (fault.pass, fault.found))
of_accepted IsText bytes log n s _ one words whole same k (of_plan m w no_fault is (events, t, comes, text)) =
    let lawful = subst IsLawful k.network k.well_formed.lawful in
    let plans : m ≡ n = sym (same_plan bytes n m one (accepted_plan bytes log n s k) is) in
    let comes-n = subst (λ (o : Network). LogComesTo o log events t) plans comes in
    let tables = same events t lawful comes-n k.table in
    let comes-s = subst (λ (u : State). LogComesTo n log events u) tables comes-n in
    record {
      events = events;
      all = (whole events lawful comes-s).1 k.table;
      is_text = subst (λ (u : State). IsText n events u w) tables (subst (λ (o : Network). IsText o events t w) plans text);
    }

-- what went out was one of these texts, and so one of those
pub went_also : (IsText IsAlso : Written → Type 0) (a b : Taken) (outcome : Result Status RunError) → ((w : Written) → IsText w → IsAlso w) → IfOk outcome (WentOut IsText a b) →
    IfOk outcome (WentOut IsAlso a b)
went_also IsText IsAlso a b (Ok status) also h = (h.0, also (record { text = h.0; status = status }) h.1, h.2)
went_also IsText IsAlso a b (Err e) also h = tt

none_left : (c : Counts) → is_all_joined c ≡ true → left_out_line c ≡ []
unfolding left_out_line
none_left c all = ap (λ (b : Bool). if b then [] else line (codes "left out" ++ count_part (codes ": ") c.refused (codes " refused")
    ++ count_part (separator (c.refused == 0)) c.strangers (codes " of strangers")
    ++ count_part (separator (c.refused == 0 && c.strangers == 0)) c.bad (codes " bad"))) all

-- a text of which nothing is left out, where the one without that line is known
pub whole_text : (IsText : Written → Type 0) (first : List ℕ) (c : Counts) (w : Written) → is_all_joined c ≡ true → Anyway IsText first c w → IsText w
whole_text IsText first c w all h =
    let text : w.text ≡ first ++ h.rest = h.text ∙ ap (λ (l : List ℕ). (first ++ l) ++ h.rest) (none_left c all) ∙ ap (λ (l : List ℕ). l ++ h.rest) (append-nil first) in
    let status : w.status ≡ h.status = h.answers ∙ rw all refl in
    let whole : w ≡ record { text = first ++ h.rest; status = h.status } =
    ap (λ (t : List ℕ). record { text = t; status = w.status }) text ∙ ap (λ (s : Status). record { text = first ++ h.rest; status = s }) status in
    subst IsText (sym whole) h.is_text
