-- The log of a text is what the words of the format say.
use Rattle.std.proofs.Common.{◌≡◌, ◌↔◌, ◌+◌, ◌≤◌, ◌<◌, ℕ, Bool, true, false, cond, List, [], ◌∷◌, ◌++◌, length, Option, Some, None, Result, Ok, Err, refl, sym, ap, ◌∙◌, arith, subst, inl, inr, append-nil, append_assoc, add-zero}
use Rattle.std.proofs.Math.Dec.{leb}
use Rattle.rip_log.specs.Codes.{is_read}
use Rattle.rip_log.specs.NextCall.{capture_of, line_of}
use Rattle.rip_log.specs.Lines.{Capture, lines_of, judge}
use Rattle.rip_log.specs.Logs.{Numbered, Log, log_of, log_in, with_line, faulty_log, onto_log, Gives, IfElse}
use Rattle.rip_log.specs.LogText.{AreLines, AreRecords, IsSkipped, IsFault, too_many, bad, IsLineJudged, LogText, LogFault}
use Rattle.rip_log.specs.Runs.{IsTaken, numbered}
use Rattle.rip_log.specs.declared.error.LogCode.{LogCode}
use Rattle.rip_log.specs.declared.error.LogCode.TheVariants.{TooManyLines}
use Rattle.rip_log.specs.declared.error.LogError.{LogError}
use Rattle.rip_log.specs.declared.reader.Record.{Record}
use Rattle.rip_log.proofs.LogLemmas.{first-line, too-many}
use Rattle.rip_log.proofs.LineRelations.{AreLines-lines_of, lines_of-AreLines}

-- these records in front of a log
abbrev pub onto_all : List Numbered → Log → Log
onto_all records log = record { records = records ++ log.records; fault = log.fault }

-- a fault after lines that are good
pub record FaultIn (n : ℕ) (lines : List (List ℕ)) (records : List Numbered) (e : LogError) : Type 0 where
  pub before : List (List ℕ)
  pub bad : List ℕ
  pub after : List (List ℕ)
  pub split : lines ≡ before ++ bad ∷ after
  pub are_records : AreRecords n before records
  pub number : e.line ≡ n + length before + 1
  pub fault : IsFault (n + length before) bad e.code

-- the records of lines after n others, with no fault or with this one
abbrev pub IsOutcome : ℕ → List (List ℕ) → List Numbered → Option LogError → Type 0
IsOutcome n lines records None = AreRecords n lines records × (n + length lines ≤ 1000000)
IsOutcome n lines records (Some e) = FaultIn n lines records e

skip : (n : ℕ) (line : List ℕ) (lines : List (List ℕ)) (records : List Numbered) → IsSkipped line → AreRecords (n + 1) lines records → AreRecords n (line ∷ lines) records
skip n line lines [] skipped are = (skipped, are)
skip n line lines (r ∷ records) skipped are = inl (skipped, are)

fault-moved : (n m : ℕ) (line : List ℕ) (code : LogCode) → n ≡ m → IsFault n line code → IsFault m line code
fault-moved n m line code e h = subst (λ (k : ℕ). IsFault k line code) e h

later-fault : (n : ℕ) (line : List ℕ) (lines : List (List ℕ)) (records all : List Numbered) (e : LogError)
    → ((before : List (List ℕ)) → AreRecords (n + 1) before records → AreRecords n (line ∷ before) all) → FaultIn (n + 1) lines records e → FaultIn n (line ∷ lines) all e
later-fault n line lines records all e onto b = record {
  before = line ∷ b.before;
  bad = b.bad;
  after = b.after;
  split = ap (λ (l : List (List ℕ)). line ∷ l) b.split;
  are_records = onto b.before b.are_records;
  number = b.number ∙ omega arith;
  fault = fault-moved _ _ b.bad e.code (omega arith) b.fault;
}

outcome-later : (n : ℕ) (line : List ℕ) (lines : List (List ℕ)) (records all : List Numbered) (f : Option LogError)
    → ((before : List (List ℕ)) → AreRecords (n + 1) before records → AreRecords n (line ∷ before) all) → IsOutcome (n + 1) lines records f → IsOutcome n (line ∷ lines) all f
outcome-later n line lines records all None onto t = (onto lines t.0, omega (arith, t.1))
outcome-later n line lines records all (Some e) onto t = later-fault n line lines records all e onto t

outcome-line : (n : ℕ) (line : List ℕ) (lines : List (List ℕ)) (later : Log) (x : Result (Option Capture) LogCode) → n < 1000000 → IsLineJudged line x →
    IsOutcome (n + 1) lines later.records later.fault
    → IsOutcome n (line ∷ lines) (with_line (n + 1) x later).records (with_line (n + 1) x later).fault
outcome-line n line lines later (Ok None) few says t = outcome-later n line lines later.records later.records later.fault (λ before are. skip n line before later.records says are) t
outcome-line n line lines later (Ok (Some capture)) few says t =
    outcome-later n line lines later.records (record { line = n + 1; capture = capture } ∷ later.records) later.fault (λ before are. inr (refl, says, are)) t
outcome-line n line lines later (Err code) few says t =
    record { before = []; bad = line; after = lines; split = refl; are_records = refl; number = omega arith; fault = bad (omega arith) says }

pub lt-of : (n : ℕ) → leb 1000000 n ≡ false → n < 1000000
lt-of n h = grind arith

pub le-of : (n : ℕ) → leb 1000000 n ≡ true → 1000000 ≤ n
le-of n h = grind arith

pub some-log : (a b : Log) → ◌≡◌ {A = Option Log} (Some a) (Some b) → a ≡ b
some-log a b e = cc e

fault-few : (n : ℕ) (line : List ℕ) (code : LogCode) → IsFault n line code → n ≤ 1000000
fault-few n line code (too_many here what) = omega (arith, here)
fault-few n line code (bad few is) = omega (arith, few)

-- the law `judged_lines`
abbrev pub Judges : Type 0
Judges = (line : List ℕ) (judged : Result (Option Capture) LogCode) → (judge line ≡ judged) ↔ IsLineJudged line judged

module _ (judges : Judges) where
  -- lines whose records these are, in front of others
  pub log-before : (n : ℕ) (before rest : List (List ℕ)) (records : List Numbered) → n + length before ≤ 1000000 → AreRecords n before records
      → log_of n (before ++ rest) ≡ onto_all records (log_of (n + length before) rest)
  log-before n [] rest records few are =
      ap (λ (k : ℕ). log_of k rest) (sym (add-zero n)) ∙ ap (λ (l : List Numbered). onto_all l (log_of (n + 0) rest)) (sym are)
  log-before n (line ∷ before) rest [] few are =
      first-line n line (before ++ rest) (Ok None) (omega arith) ((judges line (Ok None)).1 are.0)
      ∙ log-before (n + 1) before rest [] (omega arith) are.1
      ∙ ap (λ (k : ℕ). onto_all [] (log_of k rest)) (omega arith)
  log-before n (line ∷ before) rest (r ∷ records) few (inl are) =
      first-line n line (before ++ rest) (Ok None) (omega arith) ((judges line (Ok None)).1 are.0)
      ∙ log-before (n + 1) before rest (r ∷ records) (omega arith) are.1
      ∙ ap (λ (k : ℕ). onto_all (r ∷ records) (log_of k rest)) (omega arith)
  log-before n (line ∷ before) rest (r ∷ records) few (inr are) =
      first-line n line (before ++ rest) (Ok (Some r.capture)) (omega arith) ((judges line (Ok (Some r.capture))).1 are.1)
      ∙ ap (onto_log (record { line = n + 1; capture = r.capture })) (log-before (n + 1) before rest records (omega arith) are.2)
      ∙ ap (λ (k : ℕ). onto_log (record { line = n + 1; capture = r.capture }) (onto_all records (log_of k rest))) (omega arith)
      ∙ ap (λ (k : ℕ). onto_log (record { line = k; capture = r.capture }) (onto_all records (log_of (n + length (line ∷ before)) rest))) (sym are.0)

  outcome-first : (n : ℕ) (line : List ℕ) (lines : List (List ℕ)) (x : Bool) → n ≤ 1000000 → leb 1000000 n ≡ x →
      (n < 1000000 → IsOutcome (n + 1) lines (log_of (n + 1) lines).records (log_of (n + 1) lines).fault)
      → let log = cond x (faulty_log (record { line = n + 1; code = TooManyLines })) (with_line (n + 1) (judge line) (log_of (n + 1) lines)) in IsOutcome n (line ∷ lines) log.records log.fault
  outcome-first n line lines true few e t =
      let here : n + length {A = List ℕ} [] ≡ 1000000 = omega (arith, le-of n e) in
      record { before = []; bad = line; after = lines; split = refl; are_records = refl; number = omega arith; fault = too_many here refl }
  outcome-first n line lines false few e t = outcome-line n line lines (log_of (n + 1) lines) (judge line) (lt-of n e) ((judges line (judge line)).0 refl) (t (lt-of n e))

  pub outcome : (n : ℕ) (lines : List (List ℕ)) → n ≤ 1000000 → IsOutcome n lines (log_of n lines).records (log_of n lines).fault
  outcome n [] few = (refl, omega arith)
  outcome n (line ∷ lines) few = outcome-first n line lines (leb 1000000 n) few refl (λ h. outcome (n + 1) lines (omega arith))

  pub log_in-LogText : (text : List ℕ) (records : List Numbered) → LogText text records → log_in (Some text) ≡ Some (record { records = records; fault = None })
  log_in-LogText text records is =
      let lines = lines_of-AreLines text is.lines is.are_lines ∙ sym (append-nil is.lines) in
      ap Some
      (ap (log_of 0) lines
      ∙ log-before 0 is.lines [] records (omega (arith, is.few)) is.are_records
      ∙ ap (λ (l : List Numbered). record { records = l; fault = None }) (append-nil records))

  pub LogText-log_in : (text : List ℕ) (records : List Numbered) → log_in (Some text) ≡ Some (record { records = records; fault = None }) → LogText text records
  LogText-log_in text records e =
      let told = subst (λ (log : Log). IsOutcome 0 (lines_of text) log.records log.fault) (some-log _ _ e) (outcome 0 (lines_of text) (omega arith)) in
      record { lines = lines_of text; are_lines = AreLines-lines_of text; few = omega (arith, told.1); are_records = told.0 }

  fault-log : (n : ℕ) (line : List ℕ) (rest : List (List ℕ)) (code : LogCode) → IsFault n line code → log_of n (line ∷ rest) ≡ faulty_log (record { line = n + 1; code = code })
  fault-log n line rest code (too_many here what) = too-many n line rest (omega (arith, here)) ∙ ap (λ (c : LogCode). faulty_log (record { line = n + 1; code = c })) (sym what)
  fault-log n line rest code (bad few is) = first-line n line rest (Err code) few ((judges line (Err code)).1 is)

  -- a fault after lines that are good ends the log
  pub log-fault : (n : ℕ) (before : List (List ℕ)) (line : List ℕ) (after : List (List ℕ)) (records : List Numbered) (e : LogError) → AreRecords n before records → e.line ≡ n + length before + 1
      → IsFault (n + length before) line e.code → log_of n (before ++ line ∷ after) ≡ record { records = records; fault = Some e }
  log-fault n before line after records e are number fault =
      log-before n before (line ∷ after) records (fault-few (n + length before) line e.code fault) are
      ∙ ap (onto_all records) (fault-log (n + length before) line after e.code fault)
      ∙ ap (λ (l : List Numbered). record { records = l; fault = Some (record { line = n + length before + 1; code = e.code }) }) (append-nil records)
      ∙ ap (λ (k : ℕ). record { records = records; fault = Some (record { line = k; code = e.code }) }) (sym number)

  pub log_in-LogFault : (text : List ℕ) (records : List Numbered) (e : LogError) → LogFault text records e.line e.code → log_in (Some text) ≡ Some (record { records = records; fault = Some e })
  log_in-LogFault text records e is =
      let here : IsFault (0 + length is.before) is.bad e.code = fault-moved (length is.before) (0 + length is.before) is.bad e.code (omega arith) is.fault in
      ap Some
      (ap (log_of 0) (lines_of-AreLines text (is.before ++ is.bad ∷ is.after) is.are_lines)
      ∙ log-fault 0 is.before is.bad is.after records e is.are_records (is.number ∙ omega arith) here)

  pub LogFault-log_in : (text : List ℕ) (records : List Numbered) (e : LogError) → log_in (Some text) ≡ Some (record { records = records; fault = Some e }) → LogFault text records e.line e.code
  LogFault-log_in text records e is =
      let told = subst (λ (log : Log). IsOutcome 0 (lines_of text) log.records log.fault) (some-log _ _ is) (outcome 0 (lines_of text) (omega arith)) in
      record {
        before = told.before;
        bad = told.bad;
        after = told.after;
        are_lines = subst (AreLines text) told.split (AreLines-lines_of text);
        are_records = told.are_records;
        number = told.number ∙ omega arith;
        fault = fault-moved _ _ told.bad e.code (omega arith) told.fault;
      }

-- the records of a run
pub IsTaken-more : (taken : List Numbered) (log rest : Log) (new : Option Log) (r : Record) → IsTaken taken log rest → Gives capture_of line_of (Some rest) new (Ok (Some r))
    → (later : Log) × (new ≡ Some later) × IsTaken (taken ++ numbered r ∷ []) log later
IsTaken-more taken log rest new r is gives = (
  gives.0,
  gives.1,
  is
      ∙ ap (λ (l : Log). record { records = taken ++ l.records; fault = l.fault }) gives.2
      ∙ ap (λ (l : List Numbered). record { records = l; fault = gives.0.fault }) (sym (append_assoc taken (numbered r ∷ []) gives.0.records)),
)

pub IsTaken-end : (taken : List Numbered) (log rest : Log) (new : Option Log) → IsTaken taken log rest → Gives capture_of line_of (Some rest) new (Ok None) →
    log ≡ record { records = taken; fault = None }
IsTaken-end taken log rest new is gives =
    is
    ∙ ap (λ (l : Log). record { records = taken ++ l.records; fault = l.fault }) gives.0
    ∙ ap (λ (l : List Numbered). record { records = l; fault = None }) (append-nil taken)

no-read : (P Q : Type 0) (x : Bool) → x ≡ false → IfElse x P Q → Q
no-read P Q true e w = cc e
no-read P Q false e w = w

pub IsTaken-fault : (taken : List Numbered) (log rest : Log) (new : Option Log) (e : LogError) → IsTaken taken log rest → is_read e.code ≡ false → Gives capture_of line_of (Some rest) new (Err e)
    → log ≡ record { records = taken; fault = Some e }
IsTaken-fault taken log rest new e is fine gives =
    is
    ∙ ap (λ (l : Log). record { records = taken ++ l.records; fault = l.fault }) (no-read _ _ (is_read e.code) fine gives)
    ∙ ap (λ (l : List Numbered). record { records = l; fault = Some e }) (append-nil taken)
