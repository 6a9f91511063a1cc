-- The number at the front of a text is the one that is printed so.
use Rattle.std.proofs.Common.{◌≡◌, ◌≢◌, ℕ, ◌+◌, ◌-◌, ◌*◌, ◌/◌, ◌%◌, ◌^◌, ◌<◌, ◌≤◌, Bool, true, false, not, ◌&&◌, ◌||◌, cond, eqb, ltb, leb, List, [], ◌∷◌, ◌++◌, Option, Some, None, decimal, get_or, length, refl, sym, ap, ◌∙◌, arith, append-nil}
use Rattle.std.specs.Str.{all_ascii_digits}
use Rattle.std.specs.Str.Parse.{digits_value}
use Rattle.std.proofs.lemmas.Bool.{eqb-true, ltb-true}
use Rattle.std.proofs.lemmas.Bool.Decides.{nat_tests}
use Rattle.std.proofs.lemmas.Fmt.{decimal-digits_value}
use Rattle.std.proofs.lemmas.Option.{same_Some}
use Rattle.rip_wire.specs.Decimal.{digit_of, number_of, with_first, with_second, with_third}
use Rattle.rip_wire.proofs.MaskLemmas.{holds_at}
use Rattle.rip_wire.proofs.ParsingLemmas.{digits}

-- two and three digits
abbrev two_digits : ℕ → ℕ → List ℕ
two_digits a b = (48 + a) ∷ (48 + b) ∷ []

abbrev three_digits : ℕ → ℕ → ℕ → List ℕ
three_digits a b c = (48 + a) ∷ (48 + b) ∷ (48 + c) ∷ []

-- the digits of a number below 256
abbrev spelled : ℕ → List ℕ
spelled n = cond (ltb n 10) ((48 + n) ∷ []) (cond (ltb n 100) (two_digits (n / 10) (n % 10)) (three_digits (n / 100) (n / 10 % 10) (n % 10)))

-- no zero stands before other digits
abbrev leads : List ℕ → Bool
leads ds = not (eqb (get_or ds 0 0) 48) || eqb (length ds) 1

alone : (ds : List ℕ) → leads ds ≡ true → get_or ds 0 0 ≡ 48 → length ds ≡ 1
alone ds h zero_first = grind (arith, nat_tests)

decimal-is : (n : ℕ) → n < 256 → decimal n ≡ spelled n
decimal-is n small =
    let value : digits_value 10 (spelled n) ≡ n = eqb-true _ _ (holds_at (λ k. eqb (digits_value 10 (spelled k)) k) 256 n refl small) in
    let all = holds_at (λ k. all_ascii_digits (spelled k)) 256 n refl small in
    let some : 0 < length (spelled n) = ltb-true _ _ (holds_at (λ k. ltb 0 (length (spelled k))) 256 n refl small) in
    let first = alone (spelled n) (holds_at (λ k. leads (spelled k)) 256 n refl small) in
    let fits : digits_value 10 (spelled n) < 2 ^ 64 = omega (arith, value) in
    ap decimal (sym value) ∙ decimal-digits_value digits (spelled n) all some first fits

-- a digit is read
digit_here : (d : ℕ) (rest : List ℕ) → d < 10 → digit_of ((48 + d) ∷ rest) ≡ Some (d, rest)
digit_here d rest small =
    let is : (leb 48 (48 + d) && leb (48 + d) 57) ≡ true = grind (arith, nat_tests) in
    let value : 48 + d - 48 ≡ d = omega arith in
    rw (is, value) refl

-- two equal answers
same : (m n : ℕ) (more rest : List ℕ) → ◌≡◌ {A = Option (ℕ × List ℕ)} (Some (m, more)) (Some (n, rest)) → (m ≡ n) × (more ≡ rest)
same m n more rest h =
    let pair = same_Some (m, more) (n, rest) h in
    (ap (λ (x : ℕ × List ℕ). x.0) pair, ap (λ (x : ℕ × List ℕ). x.1) pair)

-- what a digit that was read is
digit_said : (text rest : List ℕ) (d : ℕ) → digit_of text ≡ Some (d, rest) → (d < 10) × (text ≡ (48 + d) ∷ rest)
digit_said [] rest d h = absurd (cc)
digit_said (b ∷ bytes) rest d h = at_test (leb 48 b && leb b 57) refl h
  where
    at_test : (t : Bool) → (leb 48 b && leb b 57) ≡ t → cond {A = Option (ℕ × List ℕ)} t (Some (b - 48, bytes)) None ≡ Some (d, rest) → (d < 10) × (b ∷ bytes ≡ (48 + d) ∷ rest)
    at_test true e g =
        let low : 48 ≤ b = grind (arith, nat_tests) in
        let high : b ≤ 57 = grind (arith, nat_tests) in
        let parts = same (b - 48) d bytes rest g in
        let value = parts.0 in
        let first : b ≡ 48 + d = omega arith in
        (omega arith, rw (first, parts.1) refl)
    at_test false e g = absurd (cc)

zero_or : (n : ℕ) (rest : List ℕ) (t : Bool) → eqb n 0 ≡ t → cond {A = Option (ℕ × List ℕ)} t (Some (0, rest)) (Some (n, rest)) ≡ Some (n, rest)
zero_or n rest true e = let none : n ≡ 0 = eqb-true n 0 e in rw none refl
zero_or n rest false e = refl

-- a number that no digit follows is read
pub number_of-decimal : (n : ℕ) (rest : List ℕ) → n < 256 → digit_of rest ≡ None → number_of (decimal n ++ rest) ≡ Some (n, rest)
number_of-decimal n rest small none = rw (decimal-is n small) (by (ltb n 10) refl (ltb n 100) refl)
  where
    by : (s : Bool) → ltb n 10 ≡ s → (t : Bool) → ltb n 100 ≡ t
        → number_of (cond s ((48 + n) ∷ []) (cond t (two_digits (n / 10) (n % 10)) (three_digits (n / 100) (n / 10 % 10) (n % 10))) ++ rest) ≡ Some (n, rest)
    by true one t two =
        let digit : n < 10 = grind (arith, nat_tests) in
        rw (digit_here n rest digit, none) (zero_or n rest (eqb n 0) refl)
    by false one true two =
        let high : 10 ≤ n = grind (arith, nat_tests) in
        let low : n < 100 = grind (arith, nat_tests) in
        let first : n / 10 < 10 = omega arith in
        let second : n % 10 < 10 = omega arith in
        let some : eqb (n / 10) 0 ≡ false = grind (arith, nat_tests) in
        let sum : 10 * (n / 10) + n % 10 ≡ n = omega arith in
        rw (digit_here (n / 10) ((48 + n % 10) ∷ rest) first, some, digit_here (n % 10) rest second, none, sum) refl
    by false one false two =
        let high : 100 ≤ n = grind (arith, nat_tests) in
        let first : n / 100 < 10 = omega arith in
        let second : n / 10 % 10 < 10 = omega arith in
        let third : n % 10 < 10 = omega arith in
        let some : eqb (n / 100) 0 ≡ false = grind (arith, nat_tests) in
        let sum : 10 * (10 * (n / 100) + n / 10 % 10) + n % 10 ≡ n = omega arith in
        let fits : ltb 255 n ≡ false = grind (arith, nat_tests) in
        rw (digit_here (n / 100) ((48 + n / 10 % 10) ∷ (48 + n % 10) ∷ rest) first, some, digit_here (n / 10 % 10) ((48 + n % 10) ∷ rest) second, digit_here (n % 10) rest third, sum, fits) refl

-- one, two and three digits are what is printed of their number
one_is : (d : ℕ) → d < 10 → decimal d ≡ (48 + d) ∷ []
one_is d small =
    let one : ltb d 10 ≡ true = grind (arith, nat_tests) in
    decimal-is d (omega arith) ∙ rw one refl

two_is : (a b : ℕ) → a < 10 → b < 10 → a ≢ 0 → decimal (10 * a + b) ≡ two_digits a b
two_is a b a_small b_small some =
    let one : ltb (10 * a + b) 10 ≡ false = grind (arith, nat_tests) in
    let two : ltb (10 * a + b) 100 ≡ true = grind (arith, nat_tests) in
    let first : (10 * a + b) / 10 ≡ a = omega arith in
    let second : (10 * a + b) % 10 ≡ b = omega arith in
    decimal-is (10 * a + b) (omega arith) ∙ rw (one, two, first, second) refl

three_is : (a b c : ℕ) → a < 10 → b < 10 → c < 10 → a ≢ 0 → 10 * (10 * a + b) + c < 256 → decimal (10 * (10 * a + b) + c) ≡ three_digits a b c
three_is a b c a_small b_small c_small some small =
    let n = 10 * (10 * a + b) + c in
    let one : ltb (10 * (10 * a + b) + c) 10 ≡ false = grind (arith, nat_tests) in
    let two : ltb (10 * (10 * a + b) + c) 100 ≡ false = grind (arith, nat_tests) in
    let first : (10 * (10 * a + b) + c) / 100 ≡ a = omega arith in
    let second : (10 * (10 * a + b) + c) / 10 % 10 ≡ b = omega arith in
    let third : (10 * (10 * a + b) + c) % 10 ≡ c = omega arith in
    decimal-is n small ∙ rw (one, two, first, second, third) refl

abbrev Said : List ℕ → ℕ → List ℕ → Type 0
Said text n rest = (n < 256) × (text ≡ decimal n ++ rest)

-- what a number that was read is
pub number_of-said : (text rest : List ℕ) (n : ℕ) → number_of text ≡ Some (n, rest) → Said text n rest
number_of-said text rest n h = first (digit_of text) refl h
  where
    third : (a b : ℕ) (more : List ℕ) → a < 10 → b < 10 → a ≢ 0 → text ≡ (48 + a) ∷ (48 + b) ∷ more → (o : Option (ℕ × List ℕ)) → digit_of more ≡ o → with_third (10 * a + b) more o ≡ Some (n, rest) →
        Said text n rest
    third a b more a_small b_small some is None e g =
        let parts = same (10 * a + b) n more rest g in
        let small : n < 256 = omega (arith, parts.0) in
        (small, is ∙ ap (λ (l : List ℕ). (48 + a) ∷ (48 + b) ∷ l) parts.1 ∙ ap (λ (l : List ℕ). l ++ rest) (sym (two_is a b a_small b_small some) ∙ ap decimal parts.0))
    third a b more a_small b_small some is (Some x) e g = at_test (ltb 255 (10 * (10 * a + b) + x.0)) refl g
      where
        at_test : (t : Bool) → ltb 255 (10 * (10 * a + b) + x.0) ≡ t → cond {A = Option (ℕ × List ℕ)} t None (Some (10 * (10 * a + b) + x.0, x.1)) ≡ Some (n, rest) → Said text n rest
        at_test true f g = absurd (cc)
        at_test false f g =
            let digit = digit_said more x.1 x.0 e in
            let fits : 10 * (10 * a + b) + x.0 < 256 = grind (arith, nat_tests) in
            let parts = same (10 * (10 * a + b) + x.0) n x.1 rest g in (
              omega (arith, parts.0, fits),
              is ∙ ap (λ (l : List ℕ). (48 + a) ∷ (48 + b) ∷ l) (digit.1 ∙ ap (λ (l : List ℕ). (48 + x.0) ∷ l) parts.1)
                  ∙ ap (λ (l : List ℕ). l ++ rest) (sym (three_is a b x.0 a_small b_small digit.0 some fits) ∙ ap decimal parts.0),
            )

    second : (a : ℕ) (more : List ℕ) → a < 10 → a ≢ 0 → text ≡ (48 + a) ∷ more → (o : Option (ℕ × List ℕ)) → digit_of more ≡ o → with_second a more o ≡ Some (n, rest) → Said text n rest
    second a more a_small some is None e g =
        let parts = same a n more rest g in
        (omega (arith, parts.0), is ∙ ap (λ (l : List ℕ). (48 + a) ∷ l) parts.1 ∙ ap (λ (l : List ℕ). l ++ rest) (sym (one_is a a_small) ∙ ap decimal parts.0))
    second a more a_small some is (Some x) e g =
        let digit = digit_said more x.1 x.0 e in
        third a x.0 x.1 a_small digit.0 some (is ∙ ap (λ (l : List ℕ). (48 + a) ∷ l) digit.1) (digit_of x.1) refl g

    first : (o : Option (ℕ × List ℕ)) → digit_of text ≡ o → with_first o ≡ Some (n, rest) → Said text n rest
    first None e g = absurd (cc)
    first (Some x) e g = at_test (eqb x.0 0) refl g
      where
        digit : (x.0 < 10) × (text ≡ (48 + x.0) ∷ x.1)
        digit = digit_said text x.1 x.0 e

        at_test : (t : Bool) → eqb x.0 0 ≡ t → cond {A = Option (ℕ × List ℕ)} t (Some (0, x.1)) (with_second x.0 x.1 (digit_of x.1)) ≡ Some (n, rest) → Said text n rest
        at_test true z g =
            let zero : x.0 ≡ 0 = eqb-true x.0 0 z in
            let parts = same 0 n x.1 rest g in (
              omega (arith, parts.0),
              digit.1 ∙ ap (λ (d : ℕ). (48 + d) ∷ x.1) zero ∙ ap (λ (l : List ℕ). 48 ∷ l) parts.1 ∙ ap (λ (l : List ℕ). l ++ rest)
                  (sym (one_is 0 (omega arith)) ∙ ap decimal parts.0),
            )
        at_test false z g =
            let some : x.0 ≢ 0 = grind (arith, nat_tests) in
            second x.0 x.1 digit.0 some digit.1 (digit_of x.1) refl g

-- a number that a dot follows is read
pub number_of-dotted : (text rest : List ℕ) (n : ℕ) → n < 256 → text ≡ decimal n ++ 46 ∷ rest → number_of text ≡ Some (n, 46 ∷ rest)
number_of-dotted text rest n small e = ap number_of e ∙ number_of-decimal n (46 ∷ rest) small refl

-- a number that ends the text is read
pub number_of-whole : (text : List ℕ) (n : ℕ) → n < 256 → text ≡ decimal n → number_of text ≡ Some (n, [])
number_of-whole text n small e = ap number_of (e ∙ sym (append-nil (decimal n))) ∙ number_of-decimal n [] small refl

-- two readings of one text are equal
pub same-reading : (text more rest : List ℕ) (m n : ℕ) → number_of text ≡ Some (m, more) → number_of text ≡ Some (n, rest) → (m ≡ n) × (more ≡ rest)
same-reading text more rest m n h k = same m n more rest (sym h ∙ k)

-- a text is read or not
pub no-reading : (text rest : List ℕ) (n : ℕ) → number_of text ≡ None → number_of text ≡ Some (n, rest) → ⊥
no-reading text rest n h k = let clash : ◌≡◌ {A = Option (ℕ × List ℕ)} None (Some (n, rest)) = sym h ∙ k in cc clash

-- a text that is empty by the test is
pub empty-is : (text : List ℕ) → true ≡ eqb (length text) 0 → text ≡ []
empty-is [] h = refl
empty-is (b ∷ bytes) h = let none = eqb-true (length (b ∷ bytes)) 0 (sym h) in absurd (omega (arith, none))
