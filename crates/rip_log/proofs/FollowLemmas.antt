-- A line's fault is the same whatever follows the line; where reading breaks off, whole lines were passed.
use Rattle.std.proofs.Common.{◌≡◌, ◌≢◌, ◌⊎◌, ◌+◌, ◌≤◌, ◌<◌, ℕ, Bool, true, false, cond, List, [], ◌∷◌, ◌++◌, length, Option, Some, None, Err, refl, sym, ap, ◌∙◌, arith, subst, inl, inr, append_assoc, ◌==◌}
use Rattle.std.proofs.lemmas.List.{append_cancel_right, length-append}
use Rattle.rip_log.specs.Codes.{is_read}
use Rattle.rip_log.specs.Cuts.{PassesLines}
use Rattle.rip_log.specs.Fields.{onto}
use Rattle.rip_log.specs.NextCall.{capture_of, line_of}
use Rattle.rip_log.specs.Lines.{lines_of}
use Rattle.rip_log.specs.Logs.{Numbered, Log, log_of, log_at, log_in, Gives, IfElse}
use Rattle.rip_log.specs.LogText.{AreLines, AreRecords, IsBad, IsFault, too_many, bad, LogFault, LogFailed}
use Rattle.rip_log.specs.LogText.IsBad.{long_line, of_three}
use Rattle.rip_log.specs.Runs.{IsTaken}
use Rattle.rip_log.specs.declared.error.LogCode.{LogCode}
use Rattle.rip_log.specs.declared.error.LogCode.TheVariants.{LongLine, TooManyLines}
use Rattle.rip_log.specs.declared.error.LogError.{LogError}
use Rattle.rip_log.proofs.LineRelations.{AreLines-lines_of, lines_of-AreLines}
use Rattle.rip_log.proofs.LogRelations.{Judges, onto_all, IsOutcome, FaultIn, outcome, log-before, log-fault, some-log, log_in-LogFault, LogFault-log_in}

fault-line : (n : ℕ) (lines : List (List ℕ)) (e : LogError) (b : FaultIn n lines (log_of n lines).records e) → (n < e.line) × (e.line ≤ n + length lines)
fault-line n lines e b =
    (omega (arith, b.number), omega (arith, b.number, ap length b.split, length-append b.before (b.bad ∷ b.after)))

-- the lines of a text that a line feed ends, and those that follow
onto-front : (b : ℕ) (front more : List (List ℕ)) → front ≢ [] → onto b (front ++ more) ≡ onto b front ++ more
onto-front b [] more some = absurd (some refl)
onto-front b (line ∷ front) more some = refl

some-onto : (b : ℕ) (lines : List (List ℕ)) → onto b lines ≢ []
some-onto b [] e = cc e
some-onto b (line ∷ lines) e = cc e

some-first : (b : ℕ) (x : Bool) (lines : List (List ℕ)) → cond x ([] ∷ lines) (onto b lines) ≢ []
some-first b true lines e = cc e
some-first b false lines e = some-onto b lines e

some-line : (text more : List ℕ) → lines_of (text ++ (10 ∷ more)) ≢ []
some-line [] more e = cc e
some-line (b ∷ text) more e = some-first b (b == 10) (lines_of (text ++ (10 ∷ more))) e

first-with : (b : ℕ) (x : Bool) (front more : List (List ℕ)) → front ≢ [] → cond x ([] ∷ (front ++ more)) (onto b (front ++ more)) ≡ cond x ([] ∷ front) (onto b front) ++ more
first-with b true front more some = refl
first-with b false front more some = onto-front b front more some

lines_of-after : (text more : List ℕ) → lines_of (text ++ (10 ∷ more)) ≡ lines_of (text ++ (10 ∷ [])) ++ lines_of more
lines_of-after [] more = refl
lines_of-after (b ∷ text) more =
    ap (λ (l : List (List ℕ)). cond (b == 10) ([] ∷ l) (onto b l)) (lines_of-after text more)
    ∙ first-with b (b == 10) (lines_of (text ++ (10 ∷ []))) (lines_of more) (some-line text [])

-- a line of a text that goes on: the same line or a longer one, after the same lines
record Longer (all : List (List ℕ)) (before : List (List ℕ)) (line : List ℕ) : Type 0 where
  whole : List ℕ
  after : List (List ℕ)
  split : all ≡ before ++ whole ∷ after
  long : length line ≤ length whole

longer-feed : (text more : List ℕ) (before : List (List ℕ)) (line : List ℕ) (after : List (List ℕ)) → [] ∷ lines_of text ≡ before ++ line ∷ after
    → ((front : List (List ℕ)) → lines_of text ≡ front ++ line ∷ after → Longer (lines_of (text ++ more)) front line) → Longer ([] ∷ lines_of (text ++ more)) before line
longer-feed text more [] line after e rest =
    let same : [] ≡ line = cc e in
    record { whole = []; after = lines_of (text ++ more); split = refl; long = omega (arith, ap length same) }
longer-feed text more (first ∷ before) line after e rest =
    let found = rest before (cc e) in
    let same : [] ≡ first = cc e in
    record { whole = found.whole; after = found.after; split = ap (λ (l : List (List ℕ)). [] ∷ l) found.split ∙ ap (λ (l : List ℕ). l ∷ (before ++ found.whole ∷ found.after)) same; long = found.long }

onto-long : (b : ℕ) (lines : List (List ℕ)) → Longer (onto b lines) [] (b ∷ [])
onto-long b [] = record { whole = b ∷ []; after = []; split = refl; long = omega arith }
onto-long b (line ∷ lines) = record { whole = b ∷ line; after = lines; split = refl; long = omega arith }

first-same : {line first : List ℕ} {lines rest : List (List ℕ)} → line ∷ lines ≡ first ∷ rest → line ≡ first
first-same e = cc e

rest-same : {line first : List ℕ} {lines rest : List (List ℕ)} → line ∷ lines ≡ first ∷ rest → lines ≡ rest
rest-same e = cc e

behind-first : (b : ℕ) (l first : List ℕ) (before all : List (List ℕ)) (line : List ℕ) → b ∷ l ≡ first → Longer all (l ∷ before) line → Longer (onto b all) (first ∷ before) line
behind-first b l first before all line same found = record {
  whole = found.whole;
  after = found.after;
  split = ap (onto b) found.split ∙ ap (λ (m : List ℕ). m ∷ (before ++ found.whole ∷ found.after)) same;
  long = found.long;
}

longer-other : (b : ℕ) (all lines before : List (List ℕ)) (line : List ℕ) (after : List (List ℕ)) → onto b lines ≡ before ++ line ∷ after
    → ((front : List (List ℕ)) (l : List ℕ) (rest : List (List ℕ)) → lines ≡ front ++ l ∷ rest → Longer all front l) → Longer (onto b all) before line
longer-other b all [] [] line after e rest =
    let same : b ∷ [] ≡ line = cc e in
    subst (Longer (onto b all) []) same (onto-long b all)
longer-other b all [] (first ∷ []) line after e rest = absurd (cc e)
longer-other b all [] (first ∷ second ∷ before) line after e rest = absurd (cc e)
longer-other b all (l ∷ lines) [] line after e rest =
    let found = rest [] l lines refl in
    let size : length line ≡ length l + 1 = ap length {y = b ∷ l} (sym (first-same e)) ∙ omega arith in
    record { whole = b ∷ found.whole; after = found.after; split = ap (onto b) found.split; long = omega (arith, found.long, size) }
longer-other b all (l ∷ lines) (first ∷ before) line after e rest =
    behind-first b l first before all line (first-same e) (rest (l ∷ before) line after (ap (λ (m : List (List ℕ)). l ∷ m) (rest-same e)))

longer-byte : (b : ℕ) (x : Bool) (text more : List ℕ) (before : List (List ℕ)) (line : List ℕ) (after : List (List ℕ)) → cond x ([] ∷ lines_of text) (onto b (lines_of text)) ≡ before ++ line ∷ after
    → ((front : List (List ℕ)) (l : List ℕ) (rest : List (List ℕ)) → lines_of text ≡ front ++ l ∷ rest → Longer (lines_of (text ++ more)) front l)
    → Longer (cond x ([] ∷ lines_of (text ++ more)) (onto b (lines_of (text ++ more)))) before line
longer-byte b true text more before line after e rest = longer-feed text more before line after e (λ front h. rest front line after h)
longer-byte b false text more before line after e rest = longer-other b (lines_of (text ++ more)) (lines_of text) before line after e rest

longer : (text more : List ℕ) (before : List (List ℕ)) (line : List ℕ) (after : List (List ℕ)) → lines_of text ≡ before ++ line ∷ after → Longer (lines_of (text ++ more)) before line
longer [] more [] line after e = absurd (cc e)
longer [] more (first ∷ before) line after e = absurd (cc e)
longer (b ∷ text) more before line after e = longer-byte b (b == 10) text more before line after e (λ front l rest h. longer text more front l rest h)

-- a line that is bad by LongLine is too long; by itself none is bad by TooManyLines
long-past : (line : List ℕ) → IsBad line LongLine → 2048 < length line
long-past line (long_line past) = past
long-past line (of_three _ is) = elim is [ ]

none-many : (line : List ℕ) → IsBad line TooManyLines → ⊥
none-many line (of_three _ is) = elim is [ ]

fault-longer : (n : ℕ) (line whole : List ℕ) (code : LogCode) → ((code ≡ LongLine) ⊎ (code ≡ TooManyLines)) → length line ≤ length whole → IsFault n line code → IsFault n whole code
fault-longer n line whole code which long (too_many here what) = too_many here what
fault-longer n line whole code (inl e) long (bad few is) =
    let past = long-past line (subst (IsBad line) e is) in
    bad few (subst (IsBad whole) (sym e) (long_line (omega (arith, long, past))))
fault-longer n line whole code (inr e) long (bad few is) = absurd (none-many line (subst (IsBad line) e is))

pub LogFault-at_once : (text more : List ℕ) (records : List Numbered) (line : ℕ) (code : LogCode) → ((code ≡ LongLine) ⊎ (code ≡ TooManyLines)) → LogFault text records line code →
    LogFault (text ++ more) records line code
LogFault-at_once text more records line code which is =
    let found = longer text more is.before is.bad is.after (lines_of-AreLines text _ is.are_lines) in
    record {
      before = is.before;
      bad = found.whole;
      after = found.after;
      are_lines = subst (AreLines (text ++ more)) found.split (AreLines-lines_of (text ++ more));
      are_records = is.are_records;
      number = is.number;
      fault = fault-longer (length is.before) is.bad found.whole code which found.long is.fault;
    }

read-same : (P Q : Type 0) (x : Bool) → x ≡ true → IfElse x P Q → P
read-same P Q true e w = w
read-same P Q false e w = cc e

module _ (judges : Judges) where
  fault-of : (n : ℕ) (lines : List (List ℕ)) (e : LogError) → n ≤ 1000000 → (log_of n lines).fault ≡ Some e → FaultIn n lines (log_of n lines).records e
  fault-of n lines e few h = subst (λ (f : Option LogError). IsOutcome n lines (log_of n lines).records f) h (outcome judges n lines few)

  none-of : (n : ℕ) (lines : List (List ℕ)) → n ≤ 1000000 → (log_of n lines).fault ≡ None → AreRecords n lines (log_of n lines).records × (n + length lines ≤ 1000000)
  none-of n lines few h = subst (λ (f : Option LogError). IsOutcome n lines (log_of n lines).records f) h (outcome judges n lines few)

  -- a fault of the first lines is that of all
  fault-first : (n : ℕ) (lines more : List (List ℕ)) (e : LogError) → n ≤ 1000000 → (log_of n lines).fault ≡ Some e → log_of n (lines ++ more) ≡ log_of n lines
  fault-first n lines more e few h =
      let b = fault-of n lines e few h in
      ap (λ l. log_of n (l ++ more)) b.split
      ∙ ap (log_of n) (append_assoc b.before (b.bad ∷ b.after) more)
      ∙ log-fault judges n b.before b.bad (b.after ++ more) _ e b.are_records b.number b.fault
      ∙ sym (log-fault judges n b.before b.bad b.after _ e b.are_records b.number b.fault)
      ∙ sym (ap (log_of n) b.split)

  -- a fault in the first lines is there whatever the others are
  whatever : (lines more others : List (List ℕ)) (e : LogError) (f : Option LogError) → (log_of 0 lines).fault ≡ f → (log_of 0 (lines ++ more)).fault ≡ Some e → e.line ≤ length lines
      → log_of 0 (lines ++ others) ≡ log_of 0 (lines ++ more)
  whatever lines more others e None h told near =
      let none = none-of 0 lines (omega arith) h in
      let later : (log_of (0 + length lines) more).fault ≡ Some e = sym (ap (λ (l : Log). l.fault) (log-before judges 0 lines more _ none.1 none.0)) ∙ told in
      absurd (omega (arith, near, (fault-line (0 + length lines) more e (fault-of (0 + length lines) more e none.1 later)).0))
  whatever lines more others e (Some f) h told near = fault-first 0 lines others f (omega arith) h ∙ sym (fault-first 0 lines more f (omega arith) h)

  pub LogFault-ended : (text more others : List ℕ) (lines : List (List ℕ)) (records : List Numbered) (line : ℕ) (code : LogCode) → AreLines (text ++ (10 ∷ [])) lines → line ≤ length lines
      → LogFault (text ++ (10 ∷ more)) records line code → LogFault (text ++ (10 ∷ others)) records line code
  LogFault-ended text more others lines records line code are near is =
      let e : LogError = record { line = line; code = code } in
      let front = lines_of (text ++ (10 ∷ [])) in
      let all : log_of 0 (front ++ lines_of more) ≡ record { records = records; fault = Some e } =
      sym (ap (log_of 0) (lines_of-after text more)) ∙ some-log _ _ (log_in-LogFault judges (text ++ (10 ∷ more)) records e is) in
      let within : line ≤ length front = omega (arith, near, ap length (lines_of-AreLines _ lines are)) in
      let same = whatever front (lines_of more) (lines_of others) e (log_of 0 front).fault refl (ap (λ (l : Log). l.fault) all) within in
      LogFault-log_in judges (text ++ (10 ∷ others)) records e (ap Some (ap (log_of 0) (lines_of-after text others) ∙ same ∙ all))

  -- the records that were taken are those of the lines that were passed
  records-passed : (passed rest : List (List ℕ)) (taken : List Numbered) (f : Option LogError) → 0 + length passed ≤ 1000000 → (log_of 0 passed).fault ≡ f →
      log_of 0 (passed ++ rest) ≡ onto_all taken (log_of (0 + length passed) rest)
      → AreRecords 0 passed taken
  records-passed passed rest taken None few h e =
      let none = none-of 0 passed (omega arith) h in
      let all = ap (λ (l : Log). l.records) (sym (log-before judges 0 passed rest _ none.1 none.0) ∙ e) in
      subst (AreRecords 0 passed) (append_cancel_right (log_of 0 passed).records taken (log_of (0 + length passed) rest).records all) none.0
  records-passed passed rest taken (Some f) few h e =
      let later : (log_of (0 + length passed) rest).fault ≡ Some f = sym (ap (λ (l : Log). l.fault) (sym (fault-first 0 passed rest f (omega arith) h) ∙ e)) ∙ h in
      absurd (omega (arith, (fault-line 0 passed f (fault-of 0 passed f (omega arith) h)).1, (fault-line (0 + length passed) rest f (fault-of (0 + length passed) rest f few later)).0))

  pub IsTaken-read : (text left : List ℕ) (taken : List Numbered) (log rest : Log) (n : ℕ) (e : LogError) → log_in (Some text) ≡ Some log → IsTaken taken log rest → is_read e.code ≡ true
      → Gives capture_of line_of (Some rest) (log_at n (Some left)) (Err e) → PassesLines (Some text) 0 (Some left) n → n ≤ 1000000 → LogFailed text left taken (n + 1)
  IsTaken-read text left taken log rest n e told is failed gives passes few =
      let same : log_of n (lines_of left) ≡ rest = some-log _ _ (read-same _ _ (is_read e.code) failed gives) in
      let count : n ≡ 0 + length passes.0 = omega (arith, passes.2) in
      let all : log_of 0 (passes.0 ++ lines_of left) ≡ onto_all taken (log_of (0 + length passes.0) (lines_of left)) =
      sym (ap (log_of 0) passes.1)
      ∙ some-log _ _ told
      ∙ is
      ∙ ap (onto_all taken) (sym same)
      ∙ ap (λ (k : ℕ). onto_all taken (log_of k (lines_of left))) count in
      record {
        before = passes.0;
        after = lines_of left;
        are_lines = subst (AreLines text) passes.1 (AreLines-lines_of text);
        to_come = AreLines-lines_of left;
        are_records = records-passed passes.0 (lines_of left) taken (log_of 0 passes.0).fault (omega (arith, few, count)) refl all;
        number = omega (arith, count);
      }
