-- The first bytes of a word in hexadecimal digits.
use Rattle.std.proofs.Common.{◌≡◌, ℕ, zero, suc, ◌+◌, ◌*◌, ◌/◌, ◌%◌, ◌<◌, ◌≤◌, min, List, [], ◌∷◌, Result, Ok, Err, length, take, refl, sym, ap, ◌∙◌, arith, ◌⊎◌, inl, inr}
use Rattle.std.proofs.lemmas.List.{length-take, take_all}
use Rattle.hex.specs.Hex.{decode_of, decode_pairs, pair_value}
use Rattle.hex.specs.declared.error.FromHexError.{FromHexError}
use Rattle.hex.proofs.HexLemmas.{decode_of-ok, decode_of-even}

infixl 10 ◌>>=◌
abbrev ◌>>=◌ : {A B : Type 0} → Result A FromHexError → (A → Result B FromHexError) → Result B FromHexError
Ok x >>= f = f x
Err e >>= f = Err e

-- the value of a step that did not fail
bind_ok : {A B : Type 0} (r : Result A FromHexError) (f : A → Result B FromHexError) (y : B) → (r >>= f) ≡ Ok y → (x : A) × (r ≡ Ok x) × (f x ≡ Ok y)
bind_ok (Ok x) f y h = (x, refl, h)
bind_ok (Err e) f y h = absurd (cc)

same_Ok : (x y : List ℕ) → ◌≡◌ {A = Result (List ℕ) FromHexError} (Ok x) (Ok y) → x ≡ y
same_Ok x y h = cc

abbrev nothing : List ℕ
nothing = []

-- the first digits spell the first bytes
decode_pairs-take : (n i : ℕ) (s b : List ℕ) → decode_pairs i s ≡ Ok b → decode_pairs i (take (2 * n) s) ≡ Ok (take n b)
unfolding decode_pairs
decode_pairs-take zero i s b h = refl
decode_pairs-take (suc n) i [] b h =
    let none : take (2 * suc n) (nothing) ≡ nothing = take_all (2 * suc n) nothing (omega arith) in
    let none_too : take (suc n) b ≡ [] = ap (take (suc n)) (sym (same_Ok [] b h)) in
    rw (none, none_too) refl
decode_pairs-take (suc n) i (x ∷ []) b h = absurd (cc)
decode_pairs-take (suc n) i (x ∷ y ∷ s) b h =
    let one = bind_ok (pair_value x y i) (λ byte. decode_pairs (i + 2) s >>= λ bytes. Ok (byte ∷ bytes)) b h in
    let rest = bind_ok (decode_pairs (i + 2) s) (λ bytes. Ok (one.0 ∷ bytes)) b one.2 in
    let size : 2 * suc n ≡ suc (suc (2 * n)) = omega arith in
    let same = same_Ok (one.0 ∷ rest.0) b rest.2 in
    rw (size, one.1, decode_pairs-take n (i + 2) s rest.0 rest.1) (ap (λ (l : List ℕ). Ok (take (suc n) l)) same)

-- the bytes that are looked at, of a word that spells b
pub record IsFront (s b : List ℕ) (n : ℕ) : Type 0 where
  pub digits : length (take (2 * n) s) / 2 ≡ n
  pub spells : decode_of (take (2 * n) s) ≡ Ok (take 505 b)

pub front : (s b : List ℕ) → decode_of s ≡ Ok b → IsFront s b (min (length s / 2) 505)
front s b h =
    let ok = decode_of-ok s b h in
    let even = ok.0 in
    let size = ok.2 in
    let pairs : decode_pairs 0 s ≡ Ok b = sym (decode_of-even s even) ∙ h in
    let n = min (length s / 2) 505 in
    let some = decode_pairs-take (min (length s / 2) 505) 0 s b pairs in
    let long : length (take (2 * min (length s / 2) 505) s) ≡ 2 * min (length s / 2) 505 = omega (arith, length-take (2 * min (length s / 2) 505) s) in
    let even_front : length (take (2 * min (length s / 2) 505) s) % 2 ≡ 0 = omega arith in
    let same : take (min (length s / 2) 505) b ≡ take 505 b = take-min b (min (length s / 2) 505) (omega arith) in
    record {
      digits = omega (arith, long);
      spells = decode_of-even (take (2 * n) s) even_front ∙ some ∙ ap Ok same;
    }
  where
    take-min : (b : List ℕ) (n : ℕ) → n ≡ min (length b) 505 → take n b ≡ take 505 b
    take-min b n h = by_size (split (length b))
      where
        split : (m : ℕ) → (m ≤ 505) ⊎ (505 < m)
        split m = grind arith

        by_size : (length b ≤ 505) ⊎ (505 < length b) → take n b ≡ take 505 b
        by_size (inl le) = take_all n b (omega arith) ∙ sym (take_all 505 b le)
        by_size (inr lt) = let all : n ≡ 505 = omega arith in ap (λ (k : ℕ). take k b) all

-- two spellings of the first digits are equal
pub front-is : (s b room : List ℕ) (n : ℕ) → IsFront s b n → decode_of (take (2 * n) s) ≡ Ok (take (length (take (2 * n) s) / 2) room) → take n room ≡ take 505 b
front-is s b room n f h = ap (λ (k : ℕ). take k room) (sym f.digits) ∙ same_Ok _ _ (sym h ∙ f.spells)
