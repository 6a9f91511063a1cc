-- A log of two texts, of which the first ends a line, has the records of both.
use Rattle.std.proofs.Common.{◌≡◌, ◌+◌, ◌≤◌, ◌<◌, ◌==◌, ◌∙◌, ℕ, Bool, true, false, cond, List, [], ◌∷◌, ◌++◌, Option, Some, None, Result, Ok, Err, map, ap, sym, refl, inl, inr, arith, append_assoc}
use Rattle.std.proofs.lemmas.Bool.{cases_lt}
use Rattle.rip_log.specs.Fields.{onto}
use Rattle.rip_log.specs.Lines.{Capture, judge, lines_of}
use Rattle.rip_log.specs.Logs.{Log, Numbered, log_of, with_line}
use Rattle.rip_log.specs.LogText.{EndsLine}
use Rattle.rip_log.specs.declared.error.LogCode.{LogCode}
use Rattle.rip_log.proofs.LogLemmas.{first-line, too-many}

-- ---- lines

onto-both : (b : ℕ) (lines more all : List (List ℕ)) → all ≡ lines ++ more → (first : List ℕ) (rest : List (List ℕ)) → lines ≡ first ∷ rest → onto b all ≡ onto b lines ++ more
onto-both b lines more all e first rest f = ap (onto b) (e ∙ ap (λ l. l ++ more) f) ∙ ap (λ l. onto b l ++ more) (sym f)

onto-some : (b : ℕ) (lines : List (List ℕ)) → (first : List ℕ) × (rest : List (List ℕ)) × (onto b lines ≡ first ∷ rest)
onto-some b [] = (b ∷ [], [], refl)
onto-some b (line ∷ lines) = (b ∷ line, lines, refl)

lines-some : (front : List ℕ) → (first : List ℕ) × (rest : List (List ℕ)) × (lines_of (front ++ 10 ∷ []) ≡ first ∷ rest)
lines-some [] = ([], [], refl)
lines-some (b ∷ front) = by (b == 10)
  where
    by : (x : Bool) → (first : List ℕ) × (rest : List (List ℕ)) × (cond x ([] ∷ lines_of (front ++ 10 ∷ [])) (onto b (lines_of (front ++ 10 ∷ []))) ≡ first ∷ rest)
    by true = ([], lines_of (front ++ 10 ∷ []), refl)
    by false = onto-some b (lines_of (front ++ 10 ∷ []))

lines-both : (front more : List ℕ) → lines_of (front ++ 10 ∷ more) ≡ lines_of (front ++ 10 ∷ []) ++ lines_of more
lines-both [] more = refl
lines-both (b ∷ front) more = by (lines-both front more) (b == 10)
  where
    all : List (List ℕ)
    all = lines_of (front ++ 10 ∷ more)

    first : List (List ℕ)
    first = lines_of (front ++ 10 ∷ [])

    by : all ≡ first ++ lines_of more → (x : Bool) → cond x ([] ∷ all) (onto b all) ≡ cond x ([] ∷ first) (onto b first) ++ lines_of more
    by behind true = ap (λ l. [] ∷ l) behind
    by behind false = let some = lines-some front in onto-both b first (lines_of more) all behind some.0 some.1 some.2

pub lines-parted : (text more : List ℕ) → EndsLine text → lines_of (text ++ more) ≡ lines_of text ++ lines_of more
lines-parted text more (inl e) = ap (λ t. lines_of (t ++ more)) e ∙ ap (λ t. lines_of t ++ lines_of more) (sym e)
lines-parted text more (inr (front, e)) =
    ap (λ t. lines_of (t ++ more)) e ∙ ap lines_of (append_assoc front (10 ∷ []) more) ∙ lines-both front more ∙ ap (λ t. lines_of t ++ lines_of more) (sym e)

-- ---- records

-- lines behind n others have these records, and no fault
abbrev pub IsGood : ℕ → List (List ℕ) → List Numbered → Type 0
IsGood n lines records = log_of n lines ≡ record { records = records; fault = None }

fault-free : (n : ℕ) (code : LogCode) (later : Log) (records : List Numbered) → with_line n (Err code) later ≡ record { records = records; fault = None } → {A : Type 0} → A
fault-free n code later records e = absurd (cc (ap (λ (l : Log). l.fault) e))

-- what a good line says: nothing, or the first record
data Says (n : ℕ) (line : List ℕ) (lines : List (List ℕ)) (records : List Numbered) : Type 0 where
  nothing : n < 1000000 → judge line ≡ Ok None → IsGood (n + 1) lines records → Says n line lines records
  first : (capture : Capture) (later : List Numbered) → n < 1000000 → judge line ≡ Ok (Some capture) → IsGood (n + 1) lines later
      → records ≡ (record { line = n + 1; capture = capture }) ∷ later → Says n line lines records

says : (n : ℕ) (line : List ℕ) (lines : List (List ℕ)) (records : List Numbered) → IsGood n (line ∷ lines) records → Says n line lines records
says n line lines records good =
    elim (cases_lt n 1000000) [
      | inl few ↦ by few (judge line) refl (sym (first-line n line lines (judge line) few refl) ∙ good)
      | inr many ↦ absurd (cc (ap (λ (l : Log). l.fault) (sym (too-many n line lines many) ∙ good)))
    ]
  where
    by : n < 1000000 → (said : Result (Option Capture) LogCode) → judge line ≡ said → with_line (n + 1) said (log_of (n + 1) lines) ≡ record { records = records; fault = None } → Says n line lines records
    by few (Ok None) e is = nothing few e is
    by few (Ok (Some capture)) e is =
        let log = log_of (n + 1) lines in
        let no_fault : log.fault ≡ None = ap (λ (l : Log). l.fault) is in
        first capture log.records few e (ap (λ f. record { records = log.records; fault = f }) no_fault) (sym (ap (λ (l : Log). l.records) is))
    by few (Err code) e is = fault-free (n + 1) code (log_of (n + 1) lines) records is

good-nothing : (n : ℕ) (line : List ℕ) (lines : List (List ℕ)) (records : List Numbered) → n < 1000000 → judge line ≡ Ok None → IsGood (n + 1) lines records → IsGood n (line ∷ lines) records
good-nothing n line lines records few e good = first-line n line lines (Ok None) few e ∙ good

good-first : (n : ℕ) (line : List ℕ) (lines : List (List ℕ)) (capture : Capture) (later : List Numbered) → n < 1000000 → judge line ≡ Ok (Some capture) → IsGood (n + 1) lines later →
    IsGood n (line ∷ lines) ((record { line = n + 1; capture = capture }) ∷ later)
good-first n line lines capture later few e good =
    first-line n line lines (Ok (Some capture)) few e ∙ ap (λ (l : Log). record { records = (record { line = n + 1; capture = capture }) ∷ l.records; fault = l.fault }) good

-- records with the same captures
abbrev pub IsFewer : ℕ → List (List ℕ) → List Numbered → Type 0
IsFewer k lines records =
    (others : List Numbered) × IsGood k lines others × (map (λ (r : Numbered). r.capture) records ≡ map (λ (r : Numbered). r.capture) others)

-- the same lines behind fewer others
pub fewer : (k n : ℕ) (lines : List (List ℕ)) (records : List Numbered) → k ≤ n → IsGood n lines records → IsFewer k lines records
fewer k n [] records le good = ([], refl, ap (λ (l : Log). map (λ (r : Numbered). r.capture) l.records) (sym good))
fewer k n (line ∷ lines) records le good = by (λ later rest. fewer (k + 1) (n + 1) lines later (omega (arith, le)) rest) (says n line lines records good)
  where
    by : ((later : List Numbered) → IsGood (n + 1) lines later → IsFewer (k + 1) lines later) → Says n line lines records → IsFewer k (line ∷ lines) records
    by behind (nothing few e rest) =
        let (others, good', same) = behind records rest in
        (others, good-nothing k line lines others (omega (arith, le, few)) e good', same)
    by behind (first capture later few e rest is) =
        let (others, good', same) = behind later rest in (
          (record { line = k + 1; capture = capture }) ∷ others,
          good-first k line lines capture others (omega (arith, le, few)) e good',
          ap (map (λ (r : Numbered). r.capture)) is ∙ ap (λ l. capture ∷ l) same,
        )

-- the records of lines that stand in two lists
abbrev pub ArePartedAt : ℕ → List (List ℕ) → List (List ℕ) → List Numbered → Type 0
ArePartedAt n xs ys records = (front later : List Numbered) × (m : ℕ) × (records ≡ front ++ later) × IsGood n xs front × IsGood m ys later

pub parted : (n : ℕ) (xs ys : List (List ℕ)) (records : List Numbered) → IsGood n (xs ++ ys) records → ArePartedAt n xs ys records
parted n [] ys records good = ([], records, n, refl, refl, good)
parted n (x ∷ xs) ys records good = by (parted (n + 1) xs ys) (says n x (xs ++ ys) records good)
  where
    by : ((tail : List Numbered) → IsGood (n + 1) (xs ++ ys) tail → ArePartedAt (n + 1) xs ys tail) → Says n x (xs ++ ys) records → ArePartedAt n (x ∷ xs) ys records
    by behind (nothing few e rest) =
        let (front, later, m, is, good', others) = behind records rest in
        (front, later, m, is, good-nothing n x xs front few e good', others)
    by behind (first capture tail few e rest whole) =
        let (front, later, m, is, good', others) = behind tail rest in (
          (record { line = n + 1; capture = capture }) ∷ front,
          later,
          m,
          whole ∙ ap (λ l. (record { line = n + 1; capture = capture }) ∷ l) is,
          good-first n x xs capture front few e good',
          others,
        )
