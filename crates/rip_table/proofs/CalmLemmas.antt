-- A log of which nothing is left out is one that is accepted.
use Rattle.std.proofs.Common.{◌≡◌, ◌↔◌, ℕ, Bool, true, false, List, [], ◌∷◌, ◌++◌, Option, Some, None, Result, Ok, Err, refl, sym, ap, ◌∙◌, subst, append-nil}
use Rattle.std.specs.List.{AllByRecursion}
use Rattle.rip_log.proofs.LogRelations.{some-log}
use Rattle.rip_wire.specs.Message.{Message, request as a_request, response}
use Rattle.rip_wire.specs.declared.entry.Entry.{Entry}
use Rattle.rip_plan.specs.Network.{Network}
use Rattle.rip_log.specs.Said.{AllSaid, HasNoFault, IsCaptured, Said, SaidAt, captured, bad as bad_line, captured_all, said_at}
use Rattle.rip_log.specs.Lines.{Capture}
use Rattle.rip_log.specs.Logs.{Log, Numbered, log_at}
use Rattle.rip_log.specs.declared.error.LogError.{LogError}
use Rattle.rip_table.specs.State.{State}
use Rattle.rip_table.specs.Joined.{and_then, as_cause, interface_of, joined_capture, joined_from, joined_message, joined_records, message_of_capture}
use Rattle.rip_table.specs.LogJoin.{IsJoined, IsOutcome}
use Rattle.rip_table.specs.Events.{AreCalm, EventAt, IsCalm, all_events, came, came_from, events_of, last_event, origin_of_capture, state_after, taken}
use Rattle.rip_table.specs.declared.error.CollectCause.{CollectCause}
use Rattle.rip_table.specs.declared.error.TableError.{TableError}

-- a record is joined
joined_calm : (n : Network) (s t : State) (c : Capture) → joined_capture n s c ≡ Ok t → IsCalm (came n s (captured c)).event × ((came n s (captured c)).state ≡ t)
joined_calm n s t c = by (message_of_capture c) (interface_of n c)
  where
    taken_calm : (i : ℕ) (es : List Entry) (r : Result State TableError) → as_cause r ≡ Ok t → IsCalm (taken n s i es r).event × ((taken n s i es r).state ≡ t)
    taken_calm i es (Ok u) h = (tt, cc h)
    taken_calm i es (Err e) h = absurd (cc h)

    by : (m : Message) (o : Option ℕ) → joined_from n s m o ≡ Ok t → IsCalm (came_from n s (origin_of_capture c) m o).event × ((came_from n s (origin_of_capture c) m o).state ≡ t)
    by a_request None h = (tt, cc h)
    by a_request (Some i) h = (tt, cc h)
    by (response es) None h = absurd (cc h)
    by (response es) (Some i) h = taken_calm i es (joined_message n i s (response es)) h

calm_joined : (n : Network) (s : State) (c : Capture) → IsCalm (came n s (captured c)).event → joined_capture n s c ≡ Ok (came n s (captured c)).state
calm_joined n s c = by (message_of_capture c) (interface_of n c)
  where
    calm_taken : (i : ℕ) (es : List Entry) (r : Result State TableError) → IsCalm (taken n s i es r).event → as_cause r ≡ Ok (taken n s i es r).state
    calm_taken i es (Ok u) h = refl
    calm_taken i es (Err e) h = absurd h

    by : (m : Message) (o : Option ℕ) → IsCalm (came_from n s (origin_of_capture c) m o).event → joined_from n s m o ≡ Ok (came_from n s (origin_of_capture c) m o).state
    by a_request None h = refl
    by a_request (Some i) h = refl
    by (response es) None h = absurd h
    by (response es) (Some i) h = calm_taken i es (joined_message n i s (response es)) h

-- records are joined
records_calm : (n : Network) (s t : State) (records : List Numbered) → joined_records n s records ≡ Ok t → AreCalm (events_of n s (captured_all records)) × (state_after n s (captured_all records) ≡ t)
records_calm n s t [] h = (tt, cc h)
records_calm n s t (r ∷ records) h = by (joined_capture n s r.capture) refl h (λ u k. records_calm n u t records k)
  where
    by : (x : Result State CollectCause) → joined_capture n s r.capture ≡ x → and_then x (λ u. joined_records n u records) ≡ Ok t
        → ((u : State) → joined_records n u records ≡ Ok t → AreCalm (events_of n u (captured_all records)) × (state_after n u (captured_all records) ≡ t))
        → AreCalm (events_of n s (captured_all (r ∷ records))) × (state_after n s (captured_all (r ∷ records)) ≡ t)
    by (Ok u) is k later =
        let here = joined_calm n s u r.capture is in
        let rest = later u k in
        ((here.0, subst (λ (v : State). AreCalm (events_of n v (captured_all records))) (sym here.1) rest.0), ap (λ (v : State). state_after n v (captured_all records)) here.1 ∙ rest.1)
    by (Err e) is k later = absurd (cc k)

calm_records : (n : Network) (s : State) (records : List Numbered) → AreCalm (events_of n s (captured_all records)) → joined_records n s records ≡ Ok (state_after n s (captured_all records))
calm_records n s [] calm = refl
calm_records n s (r ∷ records) calm =
    ap (λ (x : Result State CollectCause). and_then x (λ u. joined_records n u records)) (calm_joined n s r.capture calm.0) ∙ calm_records n (came n s (captured r.capture)).state records calm.1

calm_front : (xs ys : List EventAt) → AreCalm (xs ++ ys) → AreCalm xs
calm_front [] ys calm = tt
calm_front (x ∷ xs) ys calm = (calm.0, calm_front xs ys calm.1)

calm_back : (xs ys : List EventAt) → AreCalm (xs ++ ys) → AreCalm ys
calm_back [] ys calm = calm
calm_back (x ∷ xs) ys calm = calm_back xs ys calm.1

calm_end : (x : Bool) → AreCalm (last_event x) → x ≡ false
calm_end true calm = absurd calm.0
calm_end false calm = refl

calm_said : (n : Network) (s : State) (x : Said) → IsCalm (came n s x).event → IsCaptured x
calm_said n s (captured c) calm = tt
calm_said n s (bad_line code o) calm = absurd calm

calm_good : (n : Network) (s : State) (said : List SaidAt) → AreCalm (events_of n s said) → AllByRecursion (λ (x : SaidAt). IsCaptured x.said) said
calm_good n s [] calm = tt
calm_good n s (x ∷ said) calm = (calm_said n s x.said calm.0, calm_good n (came n s x.said).state said calm.1)

no_fault : (n : Network) (s : State) (all : AllSaid) → AreCalm (all_events n s all) → HasNoFault all
no_fault n s all calm = record {
  few = calm_end all.too_many (calm_back (events_of n s all.said) (last_event all.too_many) calm);
  good = calm_good n s all.said (calm_front (events_of n s all.said) (last_event all.too_many) calm);
}

same_all : (a b : AllSaid) → ◌≡◌ {A = Option AllSaid} (Some a) (Some b) → a ≡ b
same_all a b e = cc e

-- the laws of lower definitions: of a log without a fault, and of records that are joined
module _
    (good : (k : ℕ) (text : List ℕ) (records : List Numbered) → (log_at k (Some text) ≡ Some (record {
      records = records;
      fault = None;
    })) ↔ (said_at k (Some text) ≡ Some (record { said = captured_all records; too_many = false })))
    (records_of : (all : AllSaid) → HasNoFault all ↔ ((records : List Numbered) × (all ≡ record { said = captured_all records; too_many = false })))
    (n : Network) (old : State) (joins : (log : List Numbered) (new : State) → (joined_records n old log ≡ Ok new) ↔ IsJoined n old log new)
    (k : ℕ) (text : List ℕ) (log : Log) (all : AllSaid) (is_log : log_at k (Some text) ≡ Some log) (is_all : said_at k (Some text) ≡ Some all) where
  pub accepted-calm : (new : State) → IsOutcome n old log new None → AreCalm (all_events n old all) × (state_after n old all.said ≡ new)
  accepted-calm new is =
      let whole : log_at k (Some text) ≡ Some (record { records = log.records; fault = None }) = is_log ∙ ap (λ (f : Option LogError). Some (record { records = log.records; fault = f })) is.0 in
      let same : record { said = captured_all log.records; too_many = false } ≡ all = same_all _ _ (sym ((good k text log.records).0 whole) ∙ is_all) in
      let calm = records_calm n old new log.records ((joins log.records new).1 is.1) in (
        subst (λ (a : AllSaid). AreCalm (all_events n old a)) same (subst AreCalm (sym (append-nil (events_of n old (captured_all log.records)))) calm.0),
        ap (λ (a : AllSaid). state_after n old a.said) (sym same) ∙ calm.1,
      )

  pub calm-accepted : (new : State) → AreCalm (all_events n old all) × (state_after n old all.said ≡ new) → IsOutcome n old log new None
  calm-accepted new h =
      let found = (records_of all).0 (no_fault n old all h.0) in
      let records = found.0 in
      let same : log ≡ record { records = records; fault = None } = some-log _ _ (sym is_log ∙ (good k text records).1 (is_all ∙ ap Some found.1)) in
      let calm : AreCalm (events_of n old (captured_all records)) = calm_front (events_of n old (captured_all records)) [] (subst (λ (a : AllSaid). AreCalm (all_events n old a)) found.1 h.0) in
      let joined : joined_records n old records ≡ Ok new = calm_records n old records calm ∙ ap (λ (s : State). Ok s) (ap (λ (a : AllSaid). state_after n old a.said) (sym found.1) ∙ h.1) in
      (ap (λ (l : Log). l.fault) same, subst (λ (l : List Numbered). IsJoined n old l new) (ap (λ (l : Log). l.records) (sym same)) ((joins records new).0 joined))
