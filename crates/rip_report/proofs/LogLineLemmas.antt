-- What the reader of logs makes of the lines of a log of capture files.
use Rattle.std.proofs.Common.{◌≡◌, ◌+◌, ◌/◌, ◌%◌, ◌^◌, ◌<◌, ◌≤◌, ◌==◌, ◌&&◌, ◌∙◌, ℕ, zero, suc, Bool, true, false, nat_le, nat_lt, List, [], ◌∷◌, ◌++◌, Option, Some, None, Result, Ok, Err, length, slice_index, take, replicate, decimal, codes, ap, sym, refl, inl, inr, subst, arith}
use Rattle.std.specs.List.{AllByRecursion}
use Rattle.std.proofs.lemmas.List.Elements.{recursion_from_All}
use Rattle.std.specs.Fmt.{digit_glyph, digits, digits_onto}
use Rattle.std.specs.Io.BufRead.{strip_last}
use Rattle.std.specs.Prelude.{◌⊎◌, if◌then◌else◌}
use Rattle.std.proofs.lemmas.Bool.{and_parts, leb-true}
use Rattle.hex.specs.Hex.{IsBytes, encode_lower, encode_with, lower_digits}
use Rattle.rip_wire.specs.Address.{address_text}
use Rattle.rip_wire.specs.Name.{IsName, IsNameByte}
use Rattle.rip_log.specs.Fields.{ends_field, fields_of, is_blank, onto}
use Rattle.rip_log.specs.Lines.{Capture, judge, judge_short, lines_of, unless_skipped}
use Rattle.rip_log.specs.LogText.IsBare.{whole}
use Rattle.rip_log.specs.Logs.{Log, Numbered, faulty_log, log_of, with_line}
use Rattle.rip_log.specs.declared.error.LogCode.{LogCode}
use Rattle.rip_log.specs.declared.error.LogCode.TheVariants.{LongLine, TooManyLines}
use Rattle.rip_log.specs.declared.error.LogError.{LogError}
use Rattle.rip_log.proofs.FieldRelations.{strip_last-IsBare}
use Rattle.rip_log.proofs.LineLemmas.{lines_of-other}
use Rattle.rip_capture.proofs.ByteLemmas.{all-right}

-- ---- lists of bytes

module _ {X : Type 0} (P : X → Type 0) where
  pub all-both : (xs ys : List X) → AllByRecursion P xs → AllByRecursion P ys → AllByRecursion P (xs ++ ys)
  all-both [] ys h k = k
  all-both (x ∷ xs) ys h k = (h.0, all-both xs ys h.1 k)

  pub all-take : (n : ℕ) (xs : List X) → AllByRecursion P xs → AllByRecursion P (take n xs)
  all-take zero xs h = tt
  all-take (suc n) [] h = tt
  all-take (suc n) (x ∷ xs) h = (h.0, all-take n xs h.1)

  all-last : (xs : List X) (x : X) → AllByRecursion P (xs ++ x ∷ []) → P x
  all-last xs x h = (all-right P xs (x ∷ []) h).0

  pub all-same : (n : ℕ) (x : X) → P x → AllByRecursion P (replicate n x)
  all-same zero x p = tt
  all-same (suc n) x p = (p, all-same n x p)

  all-weaker : (Q : X → Type 0) (xs : List X) → ((x : X) → P x → Q x) → AllByRecursion P xs → AllByRecursion Q xs
  all-weaker Q [] f h = tt
  all-weaker Q (x ∷ xs) f h = (f x h.0, all-weaker Q xs f h.1)

-- no blank, and no end of a line
abbrev pub High : List ℕ → Type 0
High xs = AllByRecursion (λ b. 33 ≤ b) xs

-- no end of a line
abbrev pub Spaced : List ℕ → Type 0
Spaced xs = AllByRecursion (λ b. 32 ≤ b) xs

abbrev pub Bytes : List ℕ → Type 0
Bytes xs = AllByRecursion (λ b. b < 256) xs

pub spaced : (xs : List ℕ) → High xs → Spaced xs
spaced xs h = all-weaker (λ b. 33 ≤ b) (λ b. 32 ≤ b) xs (λ b k. omega (arith, k)) h

abbrev pub all_from : ℕ → List ℕ → Bool
all_from n [] = true
all_from n (b ∷ bytes) = nat_le n b && all_from n bytes

pub tested : (n : ℕ) (xs : List ℕ) → all_from n xs ≡ true → AllByRecursion (λ b. n ≤ b) xs
tested n [] h = tt
tested n (b ∷ bytes) h =
    let both = and_parts (nat_le n b) (all_from n bytes) h in
    (leb-true n b both.0, tested n bytes both.1)

pub bytes-at : (xs : List ℕ) → Bytes xs → IsBytes xs
bytes-at [] h i = omega arith
bytes-at (x ∷ xs) h zero = h.0
bytes-at (x ∷ xs) h (suc i) = bytes-at xs h.1 i

-- ---- numbers, addresses, names, digits

glyph-high : (d : ℕ) → 33 ≤ digit_glyph false d
glyph-high d = elim (nat_lt d 10) as (λ b. 33 ≤ (if b then 48 + d else 87 + d)) [ true ↦ omega arith | false ↦ omega arith ]

onto-high : (k n : ℕ) (acc : List ℕ) → High acc → High (digits_onto k 10 false n acc)
onto-high zero n acc h = h
onto-high (suc k) n acc h = elim (n / 10 == 0) as (λ b. High (if b then digit_glyph false (n % 10) ∷ acc else digits_onto k 10 false (n / 10) (digit_glyph false (n % 10) ∷ acc))) [
  | true ↦ (glyph-high (n % 10), h)
  | false ↦ onto-high k (n / 10) (digit_glyph false (n % 10) ∷ acc) (glyph-high (n % 10), h)
]

onto-some : (k n : ℕ) (acc : List ℕ) → 0 < length acc → 0 < length (digits_onto k 10 false n acc)
onto-some zero n acc h = h
onto-some (suc k) n acc h = elim (n / 10 == 0) as (λ b. 0 < length (if b then digit_glyph false (n % 10) ∷ acc else digits_onto k 10 false (n / 10) (digit_glyph false (n % 10) ∷ acc))) [
  | true ↦ omega arith
  | false ↦ onto-some k (n / 10) (digit_glyph false (n % 10) ∷ acc) (omega arith)
]

onto-first : (k n : ℕ) → 0 < length (digits_onto (suc k) 10 false n [])
onto-first k n = elim (n / 10 == 0) as (λ b. 0 < length (if b then digit_glyph false (n % 10) ∷ [] else digits_onto k 10 false (n / 10) (digit_glyph false (n % 10) ∷ []))) [
  | true ↦ omega arith
  | false ↦ onto-some k (n / 10) (digit_glyph false (n % 10) ∷ []) (omega arith)
]

pub decimal-high : (n : ℕ) → High (decimal n)
unfolding digits
decimal-high n = onto-high 64 n [] tt

pub decimal-some : (n : ℕ) → 0 < length (decimal n)
unfolding digits
decimal-some n = onto-first 63 n

some-left : (xs ys : List ℕ) → 0 < length xs → 0 < length (xs ++ ys)
some-left [] ys h = absurd (omega (arith, h))
some-left (x ∷ xs) ys h = omega arith

dotted-high : (n : ℕ) (rest : List ℕ) → High rest → High (decimal n ++ (codes "." ++ rest))
dotted-high n rest h = all-both (λ b. 33 ≤ b) (decimal n) (codes "." ++ rest) (decimal-high n) (omega arith, h)

pub address-high : (a : ℕ) → High (address_text a)
address-high a =
    dotted-high (a / 2 ^ 24) _ (dotted-high (a / 2 ^ 16 % 256) _ (dotted-high (a / 2 ^ 8 % 256) _ (decimal-high (a % 256))))

pub address-some : (a : ℕ) → 0 < length (address_text a)
address-some a = some-left (decimal (a / 2 ^ 24)) _ (decimal-some (a / 2 ^ 24))

name-byte-high : (c : ℕ) → IsNameByte c → 33 ≤ c
name-byte-high c h = grind arith

name-bytes-high : (xs : List ℕ) → AllByRecursion IsNameByte xs → High xs
name-bytes-high xs h = all-weaker IsNameByte (λ b. 33 ≤ b) xs name-byte-high h

pub name-high : (link : List ℕ) → IsName link → High link
name-high link h = name-bytes-high link (recursion_from_All IsNameByte link h.bytes)

nibble-high : (n : ℕ) → n < 16 → 33 ≤ slice_index lower_digits n
nibble-high n h = at-high lower_digits n (tested 33 lower_digits refl) h where
  at-high : (xs : List ℕ) (n : ℕ) → High xs → n < length xs → 33 ≤ slice_index xs n
  at-high [] n h k = absurd (omega (arith, k))
  at-high (x ∷ xs) zero h k = h.0
  at-high (x ∷ xs) (suc n) h k = at-high xs n h.1 (omega (arith, k))

pub digits-high : (xs : List ℕ) → Bytes xs → High (encode_lower xs)
unfolding encode_with
digits-high [] h = tt
digits-high (b ∷ xs) h =
    let small = h.0 in
    (nibble-high (b / 16) (omega (arith, small)), (nibble-high (b % 16) (omega (arith, small)), digits-high xs h.1))

-- ---- fields

module _ {A : Type 0} where
  pub if-no : (b : Bool) (x y : A) → b ≡ false → (if b then x else y) ≡ y
  if-no b x y e = ap (λ t. if t then x else y) e

  pub if-yes : (b : Bool) (x y : A) → b ≡ true → (if b then x else y) ≡ x
  if-yes b x y e = ap (λ t. if t then x else y) e

not-blank : (b : ℕ) → 33 ≤ b → is_blank b ≡ false
not-blank b h = grind arith

field-alone : (b : ℕ) (rest : List ℕ) → 33 ≤ b → ends_field rest ≡ true → fields_of (b ∷ rest) ≡ (b ∷ []) ∷ fields_of rest
field-alone b rest h e = if-no (is_blank b) _ _ (not-blank b h) ∙ if-yes (ends_field rest) _ _ e

field-more : (b c : ℕ) (rest : List ℕ) → 33 ≤ b → 33 ≤ c → fields_of (b ∷ (c ∷ rest)) ≡ onto b (fields_of (c ∷ rest))
field-more b c rest h k = if-no (is_blank b) _ _ (not-blank b h) ∙ if-no (is_blank c) _ _ (not-blank c k)

-- a field, and then a blank
pub field-first : (xs ys : List ℕ) → 0 < length xs → High xs → fields_of (xs ++ 32 ∷ ys) ≡ xs ∷ fields_of ys
field-first [] ys some h = absurd (omega (arith, some))
field-first (b ∷ []) ys some h = field-alone b (32 ∷ ys) h.0 refl
field-first (b ∷ (c ∷ xs)) ys some h = field-more b c (xs ++ 32 ∷ ys) h.0 h.1.0 ∙ ap (onto b) (field-first (c ∷ xs) ys (omega arith) h.1)

-- a field at the end
pub field-last : (xs : List ℕ) → 0 < length xs → High xs → fields_of xs ≡ xs ∷ []
field-last [] some h = absurd (omega (arith, some))
field-last (b ∷ []) some h = field-alone b [] h.0 refl
field-last (b ∷ (c ∷ xs)) some h = field-more b c xs h.0 h.1.0 ∙ ap (onto b) (field-last (c ∷ xs) (omega arith) h.1)

-- ---- lines

pub lines-first : (xs ys : List ℕ) → Spaced xs → lines_of (xs ++ 10 ∷ ys) ≡ xs ∷ lines_of ys
lines-first [] ys h = refl
lines-first (b ∷ xs) ys h =
    let high = h.0 in
    lines_of-other b (xs ++ 10 ∷ ys) (λ e. omega (arith, high, e)) ∙ ap (onto b) (lines-first xs ys h.1)

bare : (line : List ℕ) → Spaced line → strip_last 13 line ≡ line
bare line h = strip_last-IsBare line line (whole refl (λ front e.
    let low : 32 ≤ 13 = all-last (λ b. 32 ≤ b) front 13 (subst Spaced e h) in
    omega (arith, low)))

-- what a line comes to, if it is not too long
abbrev pub ComesTo : List ℕ → Result (Option Capture) LogCode → Type 0
ComesTo line judged = (judge line ≡ Err LongLine) ⊎ (judge line ≡ judged)

pub comes-to : (line : List ℕ) (fields : List (List ℕ)) → Spaced line → fields_of line ≡ fields → ComesTo line (unless_skipped fields)
comes-to line fields h e =
    elim (nat_lt 2048 (length line)) as (λ b. ((if b then Err LongLine else judge_short line) ≡ Err LongLine) ⊎ ((if b then Err LongLine else judge_short line) ≡ unless_skipped fields)) [
      | true ↦ inl refl
      | false ↦ inr (ap unless_skipped (ap fields_of (bare line h) ∙ e))
    ]

-- these records are all that a text has, behind n lines
abbrev pub Reads : ℕ → List ℕ → List Numbered → Type 0
Reads n text records = log_of n (lines_of text) ≡ record { records = records; fault = None }

-- what the first line of a text comes to, and the rest of it
step : (n : ℕ) (line rest : List ℕ) (records : List Numbered) → Spaced line → Reads n (line ++ 10 ∷ rest) records
    → with_line (n + 1) (judge line) (log_of (n + 1) (lines_of rest)) ≡ record { records = records; fault = None }
step n line rest records h reads =
    room (nat_le 1000000 n) (ap (log_of n) (sym (lines-first line rest h)) ∙ reads) where
      room : (b : Bool) → (if b then faulty_log (record {
        line = n + 1;
        code = TooManyLines;
      }) else with_line (n + 1) (judge line) (log_of (n + 1) (lines_of rest))) ≡ record { records = records; fault = None }
          → with_line (n + 1) (judge line) (log_of (n + 1) (lines_of rest)) ≡ record { records = records; fault = None }
      room true e = absurd (cc (ap (λ (l : Log). l.fault) e))
      room false e = e

-- a bad line
no-fault : (k : ℕ) (code : LogCode) (later : Log) (records : List Numbered) → with_line k (Err code) later ≡ record { records = records; fault = None } → ⊥
no-fault k code later records e = cc (ap (λ (l : Log). l.fault) e)

pub bad-line : (n : ℕ) (line rest : List ℕ) (records : List Numbered) (code : LogCode) → Spaced line → ComesTo line (Err code) → Reads n (line ++ 10 ∷ rest) records → ⊥
bad-line n line rest records code h (inl e) reads =
    no-fault (n + 1) LongLine (log_of (n + 1) (lines_of rest)) records (ap (λ j. with_line (n + 1) j (log_of (n + 1) (lines_of rest))) (sym e) ∙ step n line rest records h reads)
bad-line n line rest records code h (inr e) reads =
    no-fault (n + 1) code (log_of (n + 1) (lines_of rest)) records (ap (λ j. with_line (n + 1) j (log_of (n + 1) (lines_of rest))) (sym e) ∙ step n line rest records h reads)

-- a line that is skipped
pub skipped-line : (n : ℕ) (line rest : List ℕ) (records : List Numbered) → Spaced line → ComesTo line (Ok None) → Reads n (line ++ 10 ∷ rest) records → Reads (n + 1) rest records
skipped-line n line rest records h (inl e) reads = absurd (bad-line n line rest records LongLine h (inl e) reads)
skipped-line n line rest records h (inr e) reads = ap (λ j. with_line (n + 1) j (log_of (n + 1) (lines_of rest))) (sym e) ∙ step n line rest records h reads

-- a line that is a record
pub record HasFirst (n : ℕ) (rest : List ℕ) (records : List Numbered) (capture : Capture) : Type 0 where
  pub later : List Numbered
  pub reads : Reads (n + 1) rest later
  pub first : records ≡ (record { line = n + 1; capture = capture }) ∷ later

pub record-line : (n : ℕ) (line rest : List ℕ) (records : List Numbered) (capture : Capture) → Spaced line → ComesTo line (Ok (Some capture)) → Reads n (line ++ 10 ∷ rest) records →
    HasFirst n rest records capture
record-line n line rest records capture h (inl e) reads = absurd (bad-line n line rest records LongLine h (inl e) reads)
record-line n line rest records capture h (inr e) reads =
    let at = ap (λ j. with_line (n + 1) j (log_of (n + 1) (lines_of rest))) (sym e) ∙ step n line rest records h reads in
    let log = log_of (n + 1) (lines_of rest) in
    let fault : log.fault ≡ None = ap (λ (l : Log). l.fault) at in
    record {
      later = log.records;
      reads = ap (λ (f : Option LogError). record { records = log.records; fault = f }) fault;
      first = sym (ap (λ (l : Log). l.records) at);
    }
