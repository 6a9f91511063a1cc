-- What all lines of a text say is what the words of the format say.
use Rattle.std.proofs.Common.{◌≡◌, ◌≢◌, ◌↔◌, ◌+◌, ◌≤◌, ◌<◌, ◌^◌, ℕ, Bool, true, false, cond, List, [], ◌∷◌, ◌++◌, length, Option, Some, None, Result, Ok, Err, refl, sym, ap, ◌∙◌, arith, subst, inl, inr}
use Rattle.std.proofs.Math.Dec.{leb}
use Rattle.std.specs.List.{AllByRecursion}
use Rattle.std.specs.Option.{option_map}
use Rattle.std.specs.Io.BufRead.{strip_last}
use Rattle.rip_wire.specs.Address.{address_in, address_text}
use Rattle.rip_log.specs.Fields.{fields_of}
use Rattle.rip_log.specs.Said.{Origin, Said, captured, bad, SaidAt, AllSaid, AreAllSaid, AreSaid, ComesAfter, HasNoFault, IsCaptured, IsOrigin, Says, all_of, all_said, captured_all, is_of_datagram, many_lines, origin_in, origin_of, said_in, with_said}
use Rattle.rip_log.specs.Lines.{Capture, lines_of, judge}
use Rattle.rip_log.specs.Logs.{Log, Numbered, faulty_log, log_of, with_line}
use Rattle.rip_log.specs.LogText.{AreLines, HasSender, IsBad, IsLineJudged, IsSkipped}
use Rattle.rip_log.specs.LogText.BadBy.{no_datagram, long_datagram, no_hex, no_name, no_sender}
use Rattle.rip_log.specs.LogText.IsBad.{long_line, other_fields, of_three}
use Rattle.rip_log.specs.declared.error.LogCode.{LogCode}
use Rattle.rip_log.specs.declared.error.LogCode.TheVariants as codes
use Rattle.rip_log.proofs.SaidLemmas.{first-said, many-said}
use Rattle.rip_log.proofs.JudgeRelations.{fields-same}
use Rattle.rip_log.proofs.LineRelations.{AreLines-lines_of, lines_of-AreLines}
use Rattle.rip_log.proofs.LogRelations.{Judges, some-log, lt-of, le-of}

-- the law of the texts of addresses
abbrev pub Addresses : Type 0
Addresses = (text : List ℕ) (a : ℕ) → (address_in text ≡ Some a) ↔ ((a < 2 ^ 32) × (text ≡ address_text a))

-- the lines after n others, of which some are read, and what these say
record AllIn (n : ℕ) (lines : List (List ℕ)) (all : AllSaid) : Type 0 where
  front : List (List ℕ)
  after : List (List ℕ)
  split : lines ≡ front ++ after
  few : n + length front ≤ 1000000
  are : AreSaid n front all.said
  comes : ComesAfter all.too_many (n + length front) after

skip-said : (n : ℕ) (line : List ℕ) (lines : List (List ℕ)) (said : List SaidAt) → IsSkipped line → AreSaid (n + 1) lines said → AreSaid n (line ∷ lines) said
skip-said n line lines [] skipped are = (skipped, are)
skip-said n line lines (s ∷ said) skipped are = inl (skipped, are)

nothing-after : (n : ℕ) (after : List (List ℕ)) (x : Bool) → n ≤ 1000000 → ComesAfter x n after → all_of n after ≡ record { said = []; too_many = x }
nothing-after n [] false few comes = refl
nothing-after n (line ∷ after) false few comes = absurd (cc comes)
nothing-after n [] true few comes = absurd (comes.1 refl)
nothing-after n (line ∷ after) true few comes = many-said n line after (omega (arith, comes.0))

module _ (judges : Judges) (addresses : Addresses) where
  origin-sender : (line link digits : List ℕ) (a : ℕ) → HasSender line link digits a → origin_in (fields_of (strip_last 13 line)) ≡ Some (record { link = link; sender = a })
  origin-sender line link digits a front =
      ap origin_in (fields-same line (link ∷ front.sender ∷ digits ∷ []) front.three.has_fields)
      ∙ ap (option_map (origin link)) ((addresses front.sender a).1 (front.is_sender.fits, front.is_sender.spelled)) where
        origin : List ℕ → ℕ → Origin
        origin l s = record { link = l; sender = s }

  known-origin : (line link digits : List ℕ) (a : ℕ) (code : LogCode) → is_of_datagram code ≡ true → HasSender line link digits a → IsOrigin line code (origin_in (fields_of (strip_last 13 line)))
  known-origin line link digits a code of front = subst (IsOrigin line code) (sym (origin-sender line link digits a front)) (of, digits, front)

  is-origin : (line : List ℕ) (code : LogCode) → IsBad line code → IsOrigin line code (origin_of line code)
  is-origin line code (long_line long) = refl
  is-origin line code (other_fields other) = refl
  is-origin line code (of_three _ (no_name link sender digits three is)) = refl
  is-origin line code (of_three _ (no_sender link sender digits three name is)) = refl
  is-origin line code (of_three _ (no_hex link digits address front is)) = refl
  is-origin line code (of_three _ (long_datagram link digits bytes address front e many)) = known-origin line link digits address code refl front
  is-origin line code (of_three _ (no_datagram link digits bytes address f front e few fault)) = known-origin line link digits address code refl front

  origin-is : (line : List ℕ) (code : LogCode) (o : Option Origin) → IsOrigin line code o → origin_of line code ≡ o
  origin-is line code None of = ap (λ (x : Bool). cond x (origin_in (fields_of (strip_last 13 line))) None) of
  origin-is line code (Some o) is =
      ap (λ (x : Bool). cond x (origin_in (fields_of (strip_last 13 line))) None) is.0 ∙ origin-sender line o.link is.1 o.sender is.2

  said-first : (n : ℕ) (line : List ℕ) (lines : List (List ℕ)) (later : AllSaid) (j : Result (Option Capture) LogCode) → IsLineJudged line j → AreSaid (n + 1) lines later.said
      → AreSaid n (line ∷ lines) (with_said (n + 1) (said_in line j) later).said
  said-first n line lines later (Ok None) says are = skip-said n line lines later.said says are
  said-first n line lines later (Ok (Some capture)) says are = inr (refl, says, are)
  said-first n line lines later (Err code) says are = inr (refl, (says, is-origin line code says), are)

  same-end : (n : ℕ) (line : List ℕ) (j : Result (Option Capture) LogCode) (later : AllSaid) → (with_said n (said_in line j) later).too_many ≡ later.too_many
  same-end n line (Ok None) later = refl
  same-end n line (Ok (Some capture)) later = refl
  same-end n line (Err code) later = refl

  all-first : (n : ℕ) (line : List ℕ) (lines : List (List ℕ)) (x : Bool) → n ≤ 1000000 → leb 1000000 n ≡ x → (n < 1000000 → AllIn (n + 1) lines (all_of (n + 1) lines))
      → AllIn n (line ∷ lines) (cond x many_lines (with_said (n + 1) (said_in line (judge line)) (all_of (n + 1) lines)))
  all-first n line lines true few e t =
      let some : line ∷ lines ≢ [] = λ (same : line ∷ lines ≡ []). cc same in
      record { front = []; after = line ∷ lines; split = refl; few = omega (arith, few); are = refl; comes = (omega (arith, few, le-of n e), some) }
  all-first n line lines false few e t =
      let all = t (lt-of n e) in
      let count : n + 1 + length all.front ≡ n + length (line ∷ all.front) = omega arith in
      record {
        front = line ∷ all.front;
        after = all.after;
        split = ap (λ (l : List (List ℕ)). line ∷ l) all.split;
        few = omega (arith, all.few);
        are = said-first n line all.front (all_of (n + 1) lines) (judge line) ((judges line (judge line)).0 refl) all.are;
        comes = subst (λ (x : Bool). ComesAfter x (n + length (line ∷ all.front)) all.after) (sym (same-end (n + 1) line (judge line) (all_of (n + 1) lines)))
            (subst (λ (k : ℕ). ComesAfter (all_of (n + 1) lines).too_many k all.after) count all.comes);
      }

  all-in : (n : ℕ) (lines : List (List ℕ)) → n ≤ 1000000 → AllIn n lines (all_of n lines)
  all-in n [] few = record { front = []; after = []; split = refl; few = omega (arith, few); are = refl; comes = refl }
  all-in n (line ∷ lines) few = all-first n line lines (leb 1000000 n) few refl (λ h. all-in (n + 1) lines (omega (arith, h)))

  says-judged : (line : List ℕ) (s : Said) → Says line s → (j : Result (Option Capture) LogCode) × (judge line ≡ j) × (said_in line j ≡ Some s)
  says-judged line (captured capture) says = (Ok (Some capture), (judges line (Ok (Some capture))).1 says, refl)
  says-judged line (bad code origin) says = (Err code, (judges line (Err code)).1 says.0, ap (λ (o : Option Origin). Some (bad code o)) (origin-is line code origin says.1))

  -- what lines are said to say, and what follows them, is what is computed
  in-all : (n : ℕ) (front after : List (List ℕ)) (said : List SaidAt) (x : Bool) → n + length front ≤ 1000000 → AreSaid n front said → ComesAfter x (n + length front) after
      → all_of n (front ++ after) ≡ record { said = said; too_many = x }
  in-all n [] after said x few are comes =
      let here : ComesAfter x n after = subst (λ (k : ℕ). ComesAfter x k after) {x = n + 0} (omega arith) comes in
      nothing-after n after x (omega (arith, few)) here ∙ ap (λ (l : List SaidAt). record { said = l; too_many = x }) (sym are)
  in-all n (line ∷ front) after [] x few are comes = skipped n line front after [] x few are.0 are.1 comes (in-all (n + 1) front after []) where
    skipped : (n : ℕ) (line : List ℕ) (front after : List (List ℕ)) (said : List SaidAt) (x : Bool) → n + length (line ∷ front) ≤ 1000000 → IsSkipped line → AreSaid (n + 1) front said
        → ComesAfter x (n + length (line ∷ front)) after
        → ((x : Bool) → n + 1 + length front ≤ 1000000 → AreSaid (n + 1) front said → ComesAfter x (n + 1 + length front) after
        → all_of (n + 1) (front ++ after) ≡ record { said = said; too_many = x })
        → all_of n (line ∷ front ++ after) ≡ record { said = said; too_many = x }
    skipped n line front after said x few is are comes later =
        first-said n line (front ++ after) (Ok None) (omega (arith, few)) ((judges line (Ok None)).1 is)
        ∙ later x (omega (arith, few)) are (subst (λ (k : ℕ). ComesAfter x k after) {y = n + 1 + length front} (omega arith) comes)
  in-all n (line ∷ front) after (s ∷ said) x few (inl are) comes =
      first-said n line (front ++ after) (Ok None) (omega (arith, few)) ((judges line (Ok None)).1 are.0)
      ∙ in-all (n + 1) front after (s ∷ said) x (omega (arith, few)) are.1 (subst (λ (k : ℕ). ComesAfter x k after) {y = n + 1 + length front} (omega arith) comes)
  in-all n (line ∷ front) after (s ∷ said) x few (inr are) comes =
      let says = says-judged line s.said are.1 in
      first-said n line (front ++ after) says.0 (omega (arith, few)) says.1
      ∙ ap (λ (o : Option Said). with_said (n + 1) o (all_of (n + 1) (front ++ after))) says.2
      ∙ ap (λ (a : AllSaid). record { said = (record { line = n + 1; said = s.said }) ∷ a.said; too_many = a.too_many })
      (in-all (n + 1) front after said x (omega (arith, few)) are.2 (subst (λ (k : ℕ). ComesAfter x k after) {y = n + 1 + length front} (omega arith) comes))
      ∙ ap (λ (k : ℕ). record { said = (record { line = k; said = s.said }) ∷ said; too_many = x }) (sym are.0)

  pub AreAllSaid-all_said : (text : List ℕ) (all : AllSaid) → all_said text ≡ all → AreAllSaid text all
  AreAllSaid-all_said text all e = subst (AreAllSaid text) e (record {
    lines = told.front;
    after = told.after;
    are_lines = subst (AreLines text) told.split (AreLines-lines_of text);
    few = omega (arith, told.few);
    are_said = told.are;
    comes_after = subst (λ (k : ℕ). ComesAfter (all_said text).too_many k told.after) {y = length told.front} (omega arith) told.comes;
  }) where
    told : AllIn 0 (lines_of text) (all_of 0 (lines_of text))
    told = all-in 0 (lines_of text) (omega arith)

  pub all_said-AreAllSaid : (text : List ℕ) (all : AllSaid) → AreAllSaid text all → all_said text ≡ all
  all_said-AreAllSaid text all is =
      ap (all_of 0) (lines_of-AreLines text (is.lines ++ is.after) is.are_lines)
      ∙ in-all 0 is.lines is.after all.said all.too_many (omega (arith, is.few)) is.are_said
      (subst (λ (k : ℕ). ComesAfter all.too_many k is.after) {y = 0 + length is.lines} (omega arith) is.comes_after)

-- ---- a log without a fault

good-line : (n : ℕ) (line : List ℕ) (log : Log) (all : AllSaid) (x : Bool) (j : Result (Option Capture) LogCode) →
    (log.fault ≡ None → all ≡ record { said = captured_all log.records; too_many = false })
    → let whole = cond x (faulty_log (record { line = n; code = codes.TooManyLines })) (with_line n j log) in
    whole.fault ≡ None → cond x many_lines (with_said n (said_in line j) all) ≡ record { said = captured_all whole.records; too_many = false }
good-line n line log all true j later none = cc none
good-line n line log all false (Ok None) later none = later none
good-line n line log all false (Ok (Some capture)) later none =
    ap (λ (a : AllSaid). record { said = (record { line = n; said = captured capture }) ∷ a.said; too_many = a.too_many }) (later none)
good-line n line log all false (Err code) later none = cc none

-- where a log has no fault, its records are all that is said
good-all : (n : ℕ) (lines : List (List ℕ)) → (log_of n lines).fault ≡ None → all_of n lines ≡ record { said = captured_all (log_of n lines).records; too_many = false }
good-all n [] none = refl
good-all n (line ∷ lines) none = good-line (n + 1) line (log_of (n + 1) lines) (all_of (n + 1) lines) (leb 1000000 n) (judge line) (good-all (n + 1) lines) none

fault-line : (n : ℕ) (line : List ℕ) (log : Log) (all : AllSaid) (x : Bool) (j : Result (Option Capture) LogCode) → (HasNoFault all → log.fault ≡ None)
    → HasNoFault (cond x many_lines (with_said n (said_in line j) all)) → (cond x (faulty_log (record { line = n; code = codes.TooManyLines })) (with_line n j log)).fault ≡ None
fault-line n line log all true j later good = cc good.few
fault-line n line log all false (Ok None) later good = later good
fault-line n line log all false (Ok (Some capture)) later good = later (record { few = good.few; good = good.good.1 })
fault-line n line log all false (Err code) later good = absurd good.good.0

-- where no line is bad, and there are not too many, the log has no fault
good-none : (n : ℕ) (lines : List (List ℕ)) → HasNoFault (all_of n lines) → (log_of n lines).fault ≡ None
good-none n [] good = refl
good-none n (line ∷ lines) good = fault-line (n + 1) line (log_of (n + 1) lines) (all_of (n + 1) lines) (leb 1000000 n) (judge line) (good-none (n + 1) lines) good

captured-good : (records : List Numbered) → AllByRecursion (λ (s : SaidAt). IsCaptured s.said) (captured_all records)
captured-good [] = tt
captured-good (r ∷ records) = (tt, captured-good records)

abbrev said_at_line : Numbered → SaidAt
said_at_line r = record { line = r.line; said = captured r.capture }

captured-same : (a b : List Numbered) → captured_all a ≡ captured_all b → a ≡ b
captured-same [] [] e = refl
captured-same [] (r ∷ b) e = absurd (cc e)
captured-same (r ∷ a) [] e = absurd (cc e)
captured-same (r ∷ a) (s ∷ b) e =
    let head : said_at_line r ≡ said_at_line s = cc e in
    let line : r.line ≡ s.line = ap (λ (x : SaidAt). x.line) head in
    let said : captured r.capture ≡ captured s.capture = ap (λ (x : SaidAt). x.said) head in
    let capture : r.capture ≡ s.capture = cc said in
    let rest : captured_all a ≡ captured_all b = cc e in
    ap (λ (l : ℕ). (record { line = l; capture = r.capture }) ∷ a) line
    ∙ ap (λ (c : Capture). (record { line = s.line; capture = c }) ∷ a) capture
    ∙ ap (λ (l : List Numbered). s ∷ l) (captured-same a b rest)

some-all : (a b : AllSaid) → ◌≡◌ {A = Option AllSaid} (Some a) (Some b) → a ≡ b
some-all a b e = cc e

pub said-log : (n : ℕ) (text : List ℕ) (records : List Numbered) → ◌≡◌ {A = Option Log} (Some (log_of n (lines_of text))) (Some (record { records = records; fault = None }))
    → ◌≡◌ {A = Option AllSaid} (Some (all_of n (lines_of text))) (Some (record { said = captured_all records; too_many = false }))
said-log n text records e =
    let log = some-log _ _ e in
    ap Some (good-all n (lines_of text) (ap (λ (l : Log). l.fault) log) ∙ ap (λ (l : Log). record { said = captured_all l.records; too_many = false }) log)

pub log-said : (n : ℕ) (text : List ℕ) (records : List Numbered) → ◌≡◌ {A = Option AllSaid} (Some (all_of n (lines_of text))) (Some (record { said = captured_all records; too_many = false }))
    → ◌≡◌ {A = Option Log} (Some (log_of n (lines_of text))) (Some (record { records = records; fault = None }))
log-said n text records e =
    let all = some-all _ _ e in
    let good : HasNoFault (all_of n (lines_of text)) = subst HasNoFault (sym all) (record { few = refl; good = captured-good records }) in
    let none = good-none n (lines_of text) good in
    let same = captured-same (log_of n (lines_of text)).records records (ap (λ (a : AllSaid). a.said) (sym (good-all n (lines_of text) none) ∙ all)) in
    ap Some (ap (λ (f : Option _). record { records = (log_of n (lines_of text)).records; fault = f }) none ∙ ap (λ (l : List Numbered). record { records = l; fault = None }) same)

records-of : (said : List SaidAt) → AllByRecursion (λ (s : SaidAt). IsCaptured s.said) said → (records : List Numbered) × (said ≡ captured_all records)
records-of [] good = ([], refl)
records-of (s ∷ said) good = onto s said s.said refl good.0 (records-of said good.1) where
  onto : (s : SaidAt) (said : List SaidAt) (x : Said) → s.said ≡ x → IsCaptured s.said → (records : List Numbered) × (said ≡ captured_all records) →
      (records : List Numbered) × (s ∷ said ≡ captured_all records)
  onto s said (captured capture) e is rest = (
    (record { line = s.line; capture = capture }) ∷ rest.0,
    ap (λ (x : Said). (record { line = s.line; said = x }) ∷ said) e ∙ ap
        (λ (l : List SaidAt). (record { line = s.line; said = captured capture }) ∷ l) rest.1,
  )
  onto s said (bad code origin) e is rest = absurd (subst IsCaptured e is)

pub HasNoFault-records : (all : AllSaid) → HasNoFault all → (records : List Numbered) × (all ≡ record { said = captured_all records; too_many = false })
HasNoFault-records all good =
    let found = records-of all.said good.good in
    (found.0, ap (λ (x : Bool). record { said = all.said; too_many = x }) good.few ∙ ap (λ (l : List SaidAt). record { said = l; too_many = false }) found.1)

pub records-HasNoFault : (all : AllSaid) → (records : List Numbered) × (all ≡ record { said = captured_all records; too_many = false }) → HasNoFault all
records-HasNoFault all is = subst HasNoFault (sym is.1) (record { few = refl; good = captured-good is.0 })
