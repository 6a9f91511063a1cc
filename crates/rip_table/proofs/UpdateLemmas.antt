-- Single updates: a new prefix, and a metric that changes.
use Rattle.std.proofs.Common.{inl, inr, ◌≡◌, ◌≢◌, ℕ, zero, suc, ◌<◌, true, List, [], ◌∷◌, ◌++◌, Some, Ok, refl, sym, ap, ◌∙◌, arith, subst}
use Rattle.std.specs.List.{slice_get}
use Rattle.rip_wire.specs.Prefix.{Block}
use Rattle.rip_wire.specs.declared.entry.Entry.{Entry}
use Rattle.rip_plan.specs.Network.{Network}
use Rattle.rip_plan.specs.Relations.{IsLawful}
use Rattle.rip_log.specs.Logs.{Log, Numbered}
use Rattle.rip_table.specs.State.{Fits, IsState, State}
use Rattle.rip_table.specs.Joined.{joined_records, outcome, with_heard}
use Rattle.rip_table.specs.LogJoin.{IsJoin, IsListed, IsNamed, IsResponse, IsSaid, IsTold}
use Rattle.rip_table.specs.declared.error.CollectCause.TheVariants.{Table}
use Rattle.rip_table.specs.declared.error.TableError.TheVariants.{Changed}
use Rattle.rip_table.proofs.CheckLemmas.{heard_valid}
use Rattle.rip_table.proofs.MakesLemmas.{either_list}
use Rattle.rip_table.proofs.MetricLemmas.{LowerLaws, ResponseFields, same_entries}
use Rattle.rip_table.proofs.OneJoinLemmas.{differ_others, log_lists, new_named}
use Rattle.rip_table.proofs.RefusedLemmas.{entries_joined, is_joined, outcome_is}
use Rattle.rip_table.proofs.SaidLemmas.{fits_log, interface_below, join_made, makes_log}

only_item : (ps : List Block) (p : Block) → ((j k : ℕ) (q : Block) → slice_get ps j ≡ Some q → slice_get ps k ≡ Some q → j ≡ k) → ((k : ℕ) (q : Block) → slice_get ps k ≡ Some q → p ≡ q)
    → (k : ℕ) → slice_get ps k ≡ Some p → ps ≡ p ∷ []
only_item [] p differ all k h = absurd (cc h)
only_item (q ∷ []) p differ all k h = ap (λ (x : Block). x ∷ []) (sym (all 0 q refl))
only_item (q ∷ r ∷ ps) p differ all k h =
    let same = sym (all 0 q refl) ∙ all 1 r refl in
    let clash = differ 0 1 q refl (ap (λ (x : Block). Some x) (sym same)) in
    absurd (omega (arith, clash))

module _ (n : Network) (r : Numbered) (i : ℕ) (e : Entry) (response : IsResponse n r.capture i (e ∷ [])) (more : List Numbered) where
  first_said : IsSaid n (r ∷ more) 0 0 i e.prefix e.metric
  first_said = (e ∷ [], (r, refl, response), (e, refl, refl, refl))

  pub first_told : IsTold n (r ∷ more) i e.prefix e.metric
  first_told = (0, 0, first_said)

-- the one record says the one entry
said_one : (fields : ResponseFields) (n : Network) (r : Numbered) (i j k l m : ℕ) (q : Block) (e : Entry) → IsResponse n r.capture i (e ∷ []) → IsSaid n (r ∷ []) k l j q m → e.prefix ≡ q
said_one fields n r i j (suc k) l m q e response h = let has = h.1 in absurd (cc has.1)
said_one fields n r i j zero l m q e response h =
    let has = h.1 in
    let entry = h.2 in
    let is : has.0 ≡ r = cc has.1 in
    let one = same_entries fields r.capture.datagram h.0 (e ∷ []) (subst (λ (x : Numbered). IsResponse n x.capture j h.0) is has.2).says response.says in
    by l (ap (λ (es : List Entry). slice_get es l) (sym one) ∙ entry.1) ∙ entry.2
  where
    by : (l : ℕ) {d : Entry} → slice_get (e ∷ []) l ≡ Some d → e.prefix ≡ d.prefix
    by zero {d} at = let here : e ≡ d = cc at in ap (λ (x : Entry). x.prefix) here
    by (suc l) {d} at = absurd (cc at)

pub new_prefix : (fields : ResponseFields) (n : Network) (old new : State) (r : Numbered) (i : ℕ) (e : Entry) → IsState new → IsJoin n old (r ∷ []) new → IsResponse n r.capture i (e ∷ [])
    → (IsListed old e.prefix → ⊥) → (new.prefixes ≡ old.prefixes ++ e.prefix ∷ []) × (new.shows i e.prefix ≡ Some e.metric) × (new.heard i ≡ true)
new_prefix fields n old new r i e valid join response none = (
  join.prefixes ∙ ap (λ (ps : List Block). old.prefixes ++ ps) others,
  (join.shown i e.prefix e.metric).1 (inr told),
  (join.heard i).1 (inr (0, e ∷ [], (r, refl, response))),
)
  where
    told : IsTold n (r ∷ []) i e.prefix e.metric
    told = first_told n r i e response []

    all : (k : ℕ) (q : Block) → slice_get join.others k ≡ Some q → e.prefix ≡ q
    all k q at =
        let found = new_named (IsNamed n (r ∷ [])) old.prefixes new.prefixes (log_lists n old new (r ∷ []) valid.differ join) q (k, at) in
        let named = found.2 in
        said_one fields n r i named.0 found.0 found.1 named.1 q e response named.2

    others : join.others ≡ e.prefix ∷ []
    others =
        let listed = (join.listed e.prefix).1 (inr (i, e.metric, told)) in
        elim (either_list old.prefixes join.others listed.0 e.prefix (ap (λ (ps : List Block). slice_get ps listed.0) (sym join.prefixes) ∙ listed.1)) [
          | inl there ↦ absurd (none (listed.0, there))
          | inr at ↦ only_item join.others e.prefix (differ_others (IsNamed n (r ∷ [])) old.prefixes new.prefixes (log_lists n old new (r ∷ []) valid.differ join)) all at.0 at.2
        ]

pub changed_metric : (below : LowerLaws) (n : Network) (old s : State) (first second : Numbered) (log : Log) (rest : List Numbered) (i : ℕ) (e f : Entry) → IsLawful n → IsState old → Fits n old
    → log.records ≡ first ∷ second ∷ rest → joined_records n old (first ∷ []) ≡ Ok s → IsResponse n first.capture i (e ∷ []) → IsResponse n second.capture i (f ∷ [])
    → e.prefix ≡ f.prefix → e.metric ≢ f.metric
    → outcome n old log ≡ record { state = s; fault = Some (record { line = second.line; cause = Table (Changed f.prefix e.metric f.metric) }) }
changed_metric below n old s first second log rest i e f lawful valid fits records joined response again same differ =
    outcome_is below n old lawful valid fits log s (Some (record { line = second.line; cause = Table (Changed f.prefix e.metric f.metric) })) (inl (record {
      before = first ∷ [];
      capture = second.capture;
      after = rest;
      split = records;
      joined = is_joined below n old lawful valid fits (first ∷ []) s joined;
      refused = record {
        interface = i;
        front = [];
        entry = f;
        rest = [];
        response = again;
        state = with_heard s i;
        joined = entries_joined n i (with_heard s i) (with_heard s i) [] (λ k d at. cc at) (heard_valid s i (makes_log below n old s (first ∷ []) lawful valid fits joined).1) lt refl;
        bad = record { prefix = refl; stands = ap (s.shows i) (sym same) ∙ shown; metric = refl; differ = differ };
      };
    }))
  where
    join : IsJoin n old (first ∷ []) s
    join = join_made n old s (first ∷ []) (makes_log below n old s (first ∷ []) lawful valid fits joined).0

    lt : i < s.interfaces
    lt = interface_below n s first.capture.link first.capture.sender i (fits_log n old s (first ∷ []) fits joined) response.from

    shown : s.shows i e.prefix ≡ Some e.metric
    shown = (join.shown i e.prefix e.metric).1 (inr (first_told n first i e response []))
