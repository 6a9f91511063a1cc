-- Any lines of a log with times say one thing; those of records say their captures.
use Rattle.std.proofs.Common.{◌≡◌, ◌⊎◌, ◌+◌, ◌-◌, ◌*◌, ◌<◌, ◌≤◌, ◌∙◌, ℕ, Bool, true, false, List, [], ◌∷◌, length, Option, Some, None, Result, Ok, Err, get_or, inl, inr, ap, arith, refl, subst, sym}
use Rattle.std.specs.Int.{IsInRange}
use Rattle.std.specs.Io.BufRead.{strip_last}
use Rattle.std.specs.Str.{bytes_eq}
use Rattle.std.proofs.lemmas.Bool.{cases_lt}
use Rattle.std.proofs.lemmas.Slice.Eq.{bytes_eq-Decides}
use Rattle.rip_log.specs.Calendar.{days_in_month}
use Rattle.rip_log.specs.Fields.{fields_of, is_comment}
use Rattle.rip_log.specs.Lines.{Capture, three_fields}
use Rattle.rip_log.specs.LogText.{AreRecords, AreThreeJudged, IsRecord, IsSkipped}
use Rattle.rip_log.specs.Logs.{Numbered}
use Rattle.rip_log.specs.TimedParts.{AreTimed}
use Rattle.rip_log.specs.TimedText.{AreCaptured, AreTimedOf, AreTimedSaid, HasTimed, IsCaptured, IsTimedLine, IsTimedOf, LineSaid, TimedSaid, captured, bad, untimed}
use Rattle.rip_log.specs.TimedText.IsUntimed.{long_line}
use Rattle.rip_log.specs.Times.{IsDateTime, IsTimeOfDay, IsTimeText, micros_of, time_text}
use Rattle.rip_log.specs.declared.error.LogCode.{LogCode}
use Rattle.rip_log.specs.declared.error.LogCode.TheVariants.{LongLine, Fields}
use Rattle.rip_log.specs.declared.time.date_time.DateTime.{DateTime}
use Rattle.rip_log.proofs.JudgeRelations.{WireLaws}
use Rattle.rip_log.proofs.TimedLemmas.{skipped-line, timed-line, untimed-line}

-- ---- what is known to be so, or not

abbrev Known : Type 0 → Type 0
Known P = P ⊎ (¬ P)

known_lt : (m n : ℕ) → Known (m < n)
known_lt m n = elim (cases_lt m n) [
  | inl h ↦ inl h
  | inr h ↦ inr (λ k. omega (arith, h, k))
]

known_le : (m n : ℕ) → Known (m ≤ n)
known_le m n = elim (cases_lt n m) [
  | inl h ↦ inr (λ k. omega (arith, h, k))
  | inr h ↦ inl h
]

known_text : (a b : List ℕ) → Known (a ≡ b)
known_text a b = by (bytes_eq a b) (bytes_eq-Decides a b)
  where
    by : (r : Bool) → (r ≡ true → a ≡ b) × (a ≡ b → r ≡ true) → Known (a ≡ b)
    by true h = inl (h.0 refl)
    by false h = inr (λ same. let clash : false ≡ true = h.1 same in cc clash)

known_both : {P Q : Type 0} → Known P → Known Q → Known (P × Q)
known_both (inl p) (inl q) = inl (p, q)
known_both (inl p) (inr lacks) = inr (λ h. lacks h.1)
known_both (inr lacks) q = inr (λ h. lacks h.0)

known_three : {P Q R : Type 0} → Known P → Known Q → Known R → Known (P × Q × R)
known_three p q r = elim (known_both p (known_both q r)) [
  | inl h ↦ inl (h.0, h.1.0, h.1.1)
  | inr lacks ↦ inr (λ h. lacks (h.0, (h.1, h.2)))
]

known_range : (low high n : ℕ) → Known (IsInRange low high n)
known_range low high n = known_both (known_le low n) (known_le n high)

known_clock : (t : DateTime) → Known (IsTimeOfDay t)
known_clock t = elim (known_both (known_lt t.hour 24) (known_three (known_lt t.minute 60) (known_lt t.second 60) (known_lt t.micro 1_000_000))) [
  | inl h ↦ inl (h.0, h.1.0, h.1.1, h.1.2)
  | inr lacks ↦ inr (λ h. lacks (h.0, (h.1, h.2, h.3)))
]

known_date_time : (t : DateTime) → Known (IsDateTime t)
known_date_time t =
    known_both (known_three (known_range 1970 9999 t.year) (known_range 1 12 t.month) (known_range 1 (days_in_month t.year t.month) t.day)) (known_clock t)

-- ---- the text of a time

-- the number that two digits of a text spell
abbrev number_at : List ℕ → ℕ → ℕ → ℕ
number_at text tens ones = (get_or text tens 0 - 48) * 10 + (get_or text ones 0 - 48)

-- the numbers at the places of a text where digits stand
abbrev numbers_in : List ℕ → DateTime
numbers_in text = record {
  year = number_at text 0 1 * 100 + number_at text 2 3;
  month = number_at text 5 6;
  day = number_at text 8 9;
  hour = number_at text 11 12;
  minute = number_at text 14 15;
  second = number_at text 17 18;
  micro = number_at text 20 21 * 10_000 + number_at text 22 23 * 100 + number_at text 24 25;
}

numbers-in : (t : DateTime) → numbers_in (time_text t) ≡ t
numbers-in t =
    let a : (numbers_in (time_text t)).year ≡ t.year = omega arith in
    let b : (numbers_in (time_text t)).month ≡ t.month = omega arith in
    let c : (numbers_in (time_text t)).day ≡ t.day = omega arith in
    let d : (numbers_in (time_text t)).hour ≡ t.hour = omega arith in
    let e : (numbers_in (time_text t)).minute ≡ t.minute = omega arith in
    let f : (numbers_in (time_text t)).second ≡ t.second = omega arith in
    let g : (numbers_in (time_text t)).micro ≡ t.micro = omega arith in
    λ i. record { year = a i; month = b i; day = c i; hour = d i; minute = e i; second = f i; micro = g i }

-- a text is that of a time, or of none
known_time : (text : List ℕ) → Known ((micros : ℕ) × IsTimeText micros text)
known_time text = by (known_both (known_date_time (numbers_in text)) (known_text (time_text (numbers_in text)) text))
  where
    by : Known (IsDateTime (numbers_in text) × (time_text (numbers_in text) ≡ text)) → Known ((micros : ℕ) × IsTimeText micros text)
    by (inl h) = inl (micros_of (numbers_in text), record { shown = numbers_in text; exists = h.0; counted = refl; spelled = h.1 })
    by (inr lacks) = inr (λ h.
        let same : h.1.shown ≡ numbers_in text = sym (numbers-in h.1.shown) ∙ ap numbers_in h.1.spelled in
        lacks (subst IsDateTime same h.1.exists, ap time_text (sym same) ∙ h.1.spelled))

-- ---- a line

-- fields are four, the first of which is the text of a time, or are others
data Sort (fields : List (List ℕ)) : Type 0 where
  four : (micros : ℕ) (link sender digits : List ℕ) → AreTimed fields micros link sender digits → Sort fields
  others : ((micros : ℕ) (link sender digits : List ℕ) → ¬ AreTimed fields micros link sender digits) → Sort fields

sort_of : (fields : List (List ℕ)) → Sort fields
sort_of [] = others (λ micros link sender digits h. cc h.1)
sort_of (a ∷ []) = others (λ micros link sender digits h. cc h.1)
sort_of (a ∷ b ∷ []) = others (λ micros link sender digits h. cc h.1)
sort_of (a ∷ b ∷ c ∷ []) = others (λ micros link sender digits h. cc h.1)
sort_of (a ∷ b ∷ c ∷ d ∷ []) = by (known_time a)
  where
    by : Known ((micros : ℕ) × IsTimeText micros a) → Sort (a ∷ b ∷ c ∷ d ∷ [])
    by (inl h) = four h.0 b c d (a, refl, h.1)
    by (inr lacks) = others (λ micros link sender digits h. let same : h.0 ≡ a = cc h.1 in lacks (micros, subst (IsTimeText micros) same h.2))
sort_of (a ∷ b ∷ c ∷ d ∷ e ∷ more) = others (λ micros link sender digits h. cc h.1)

judged_says : (line : List ℕ) (micros : ℕ) (r : Result (Option Capture) LogCode) → AreThreeJudged (HasTimed line micros) r → (said : Option TimedSaid) × IsTimedLine line said
judged_says line micros (Ok None) h = absurd h
judged_says line micros (Ok (Some capture)) h = (Some (captured micros capture), h)
judged_says line micros (Err code) h = (Some (bad micros code), h)

module _ (laws : WireLaws) where
  line-says : (line : List ℕ) → (said : Option TimedSaid) × IsTimedLine line said
  line-says line = elim (cases_lt 2048 (length line)) [
    | inl long ↦ (Some (untimed LongLine), long_line long)
    | inr short ↦ of_fields short (fields_of (strip_last 13 line)) refl
  ]
    where
      something : (short : length line ≤ 2048) → 0 < length (fields_of (strip_last 13 line)) → is_comment (fields_of (strip_last 13 line)) ≡ false → Sort (fields_of (strip_last 13 line))
          → (said : Option TimedSaid) × IsTimedLine line said
      something short some plain (four micros link sender digits timed) =
          judged_says line micros (three_fields link sender digits) (timed-line laws line micros link sender digits (three_fields link sender digits) short timed refl)
      something short some plain (others none) = (Some (untimed Fields), untimed-line line short some plain none)

      of_comment : (short : length line ≤ 2048) → 0 < length (fields_of (strip_last 13 line)) → (b : Bool) → is_comment (fields_of (strip_last 13 line)) ≡ b
          → (said : Option TimedSaid) × IsTimedLine line said
      of_comment short some true h = (None, skipped-line line short (inr h))
      of_comment short some false h = something short some h (sort_of (fields_of (strip_last 13 line)))

      of_fields : (short : length line ≤ 2048) → (fields : List (List ℕ)) → fields_of (strip_last 13 line) ≡ fields → (said : Option TimedSaid) × IsTimedLine line said
      of_fields short [] h = (None, skipped-line line short (inl h))
      of_fields short (first ∷ rest) h =
          let some : length (fields_of (strip_last 13 line)) ≡ length (first ∷ rest) = ap length h in
          of_comment short (omega (arith, some)) (is_comment (fields_of (strip_last 13 line))) refl

  -- ---- lines

  pub lines-say : (n : ℕ) (lines : List (List ℕ)) → (said : List LineSaid) × AreTimedSaid n lines said
  lines-say n [] = ([], refl)
  lines-say n (line ∷ lines) = by (line-says line) (lines-say (n + 1) lines)
    where
      by : (said : Option TimedSaid) × IsTimedLine line said → (said : List LineSaid) × AreTimedSaid (n + 1) lines said → (said : List LineSaid) × AreTimedSaid n (line ∷ lines) said
      by (None, skipped) ([], rest) = ([], (skipped, rest))
      by (None, skipped) (s ∷ said, rest) = (s ∷ said, inl (skipped, rest))
      by (Some x, says) (said, rest) = (record { line = n + 1; said = x } ∷ said, inr (refl, says, rest))

-- the law `timed_lines`
abbrev pub OneSaying : Type 0
OneSaying = (line : List ℕ) (a b : Option TimedSaid) → IsTimedLine line a → IsTimedLine line b → a ≡ b

module _ (one : OneSaying) where
  -- a line that is skipped says nothing
  pub skipped-silent : {A : Type 0} (line : List ℕ) (said : TimedSaid) → IsSkipped line → IsTimedLine line (Some said) → A
  skipped-silent line said skipped says = let same = one line None (Some said) skipped says in absurd (cc same)

  one_more : (n : ℕ) (line : List ℕ) (lines : List (List ℕ)) (a b : LineSaid) (x y : List LineSaid) → a.line ≡ n + 1 → b.line ≡ n + 1 → IsTimedLine line (Some a.said) → IsTimedLine line (Some b.said)
      → x ≡ y → ◌≡◌ {A = List LineSaid} (a ∷ x) (b ∷ y)
  one_more n line lines a b x y first second says also rest =
      let number : a.line ≡ b.line = first ∙ sym second in
      let same = one line (Some a.said) (Some b.said) says also in
      let said : a.said ≡ b.said = cc same in
      ap (λ (k : ℕ). record { line = k; said = a.said } ∷ x) number ∙ ap (λ (s : TimedSaid). record { line = b.line; said = s } ∷ x) said ∙ ap (λ (l : List LineSaid). b ∷ l) rest

  pub lines-say-one : (n : ℕ) (lines : List (List ℕ)) (a b : List LineSaid) → AreTimedSaid n lines a → AreTimedSaid n lines b → a ≡ b
  lines-say-one n [] a b first second = first ∙ sym second
  lines-say-one n (line ∷ lines) [] [] first second = refl
  lines-say-one n (line ∷ lines) [] (b ∷ more) first (inl second) = lines-say-one (n + 1) lines [] (b ∷ more) first.1 second.1
  lines-say-one n (line ∷ lines) [] (b ∷ more) first (inr second) = skipped-silent line b.said first.0 second.1
  lines-say-one n (line ∷ lines) (a ∷ said) [] (inl first) second = lines-say-one (n + 1) lines (a ∷ said) [] first.1 second.1
  lines-say-one n (line ∷ lines) (a ∷ said) [] (inr first) second = skipped-silent line a.said second.0 first.1
  lines-say-one n (line ∷ lines) (a ∷ said) (b ∷ more) (inl first) (inl second) = lines-say-one (n + 1) lines (a ∷ said) (b ∷ more) first.1 second.1
  lines-say-one n (line ∷ lines) (a ∷ said) (b ∷ more) (inl first) (inr second) = skipped-silent line b.said first.0 second.1
  lines-say-one n (line ∷ lines) (a ∷ said) (b ∷ more) (inr first) (inl second) = skipped-silent line a.said second.0 first.1
  lines-say-one n (line ∷ lines) (a ∷ said) (b ∷ more) (inr first) (inr second) =
      one_more n line lines a b said more first.0 second.0 first.1 second.1 (lines-say-one (n + 1) lines said more first.2 second.2)

  -- ---- without times

  -- a line with a time says what it says without it
  timed_record : (line bare : List ℕ) (capture : Capture) → IsTimedOf line bare → IsRecord bare capture → (micros : ℕ) × IsTimedLine line (Some (captured micros capture))
  timed_record line bare capture of record_is =
      let front = record_is.front in
      let timed = of.timed capture.link front.sender record_is.digits front.three in (
        timed.0,
        record {
          digits = record_is.digits;
          front = record { sender = front.sender; three = timed.1; name = front.name; is_sender = front.is_sender };
          bytes = record_is.bytes;
          few = record_is.few;
          no_fault = record_is.no_fault;
        },
      )

  said_record : (line bare : List ℕ) (capture : Capture) (said : TimedSaid) → IsTimedOf line bare → IsRecord bare capture → IsTimedLine line (Some said) → IsCaptured said capture
  said_record line bare capture said of is says =
      let timed = timed_record line bare capture of is in
      let same = one line (Some said) (Some (captured timed.0 capture)) says timed.1 in
      (timed.0, cc same)

  not-skipped : {A : Type 0} (line bare : List ℕ) (capture : Capture) → IsTimedOf line bare → IsRecord bare capture → IsSkipped line → A
  not-skipped line bare capture of is skipped = let timed = timed_record line bare capture of is in skipped-silent line (captured timed.0 capture) skipped timed.1

  pub records-said : (m n : ℕ) (lines bares : List (List ℕ)) (said : List LineSaid) (records : List Numbered) → AreTimedOf lines bares → AreRecords m bares records → AreTimedSaid n lines said
      → AreCaptured said records
  records-said m n [] bares said records of are says =
      let none : records ≡ [] = subst (λ (b : List (List ℕ)). AreRecords m b records) of are in
      subst (λ (s : List LineSaid). AreCaptured s records) (sym says) none
  records-said m n (line ∷ lines) [] said records of are says = absurd of
  records-said m n (line ∷ lines) (bare ∷ bares) [] [] of are says = refl
  records-said m n (line ∷ lines) (bare ∷ bares) (s ∷ said) [] of are (inl says) = records-said (m + 1) (n + 1) lines bares (s ∷ said) [] of.1 are.1 says.1
  records-said m n (line ∷ lines) (bare ∷ bares) (s ∷ said) [] of are (inr says) = skipped-silent line s.said (of.0.skipped are.0) says.1
  records-said m n (line ∷ lines) (bare ∷ bares) [] (r ∷ records) of (inl are) says = records-said (m + 1) (n + 1) lines bares [] (r ∷ records) of.1 are.1 says.1
  records-said m n (line ∷ lines) (bare ∷ bares) [] (r ∷ records) of (inr are) says = not-skipped line bare r.capture of.0 are.1 says.0
  records-said m n (line ∷ lines) (bare ∷ bares) (s ∷ said) (r ∷ records) of (inl are) (inl says) = records-said (m + 1) (n + 1) lines bares (s ∷ said) (r ∷ records) of.1 are.1 says.1
  records-said m n (line ∷ lines) (bare ∷ bares) (s ∷ said) (r ∷ records) of (inl are) (inr says) = skipped-silent line s.said (of.0.skipped are.0) says.1
  records-said m n (line ∷ lines) (bare ∷ bares) (s ∷ said) (r ∷ records) of (inr are) (inl says) = not-skipped line bare r.capture of.0 are.1 says.0
  records-said m n (line ∷ lines) (bare ∷ bares) (s ∷ said) (r ∷ records) of (inr are) (inr says) =
      (said_record line bare r.capture s.said of.0 are.1 says.1, records-said (m + 1) (n + 1) lines bares said records of.1 are.2 says.2)
