-- From pairs of digits to what decoding answers.
use Rattle.std.proofs.Common.{◌≡◌, ℕ, zero, suc, ◌+◌, ◌-◌, ◌*◌, ◌<◌, ◌≤◌, inl, inr, List, [], ◌∷◌, length, take, get_or, Ok, refl, ap, ◌∙◌, arith}
use Rattle.std.proofs.lemmas.Bool.{cases_lt}
use Rattle.hex.specs.Hex.{decode_pairs, pair_value}
use Rattle.hex.proofs.Pairs.{cons_byte, decode_pairs-ok_pair}
use Rattle.rip_log.specs.Pairs.{AreBytes, IsByte}

-- sixteen bytes more
pub more_bytes : (digits old new : List ℕ) (at to n : ℕ) → at ≡ 2 * to → n ≤ to + 16 → AreBytes digits old to
    → ((k : ℕ) → k < to → get_or new k 0 ≡ get_or old k 0)
    → ((k : ℕ) → k < 16 → IsByte (get_or digits (at + 2 * k) 0) (get_or digits (at + 2 * k + 1) 0) (get_or new (to + k) 0))
    → AreBytes digits new n
more_bytes digits old new at to n twice within front same more = λ j h.
    elim (cases_lt j to) [
      | inl below ↦ rw (same j below) (front j below)
      | inr above ↦
          let m : ℕ = j - to in
          let offset : to + m ≡ j = omega arith in
          let first : at + 2 * m ≡ 2 * j = omega arith in
          let byte = more m (omega arith) in
          rw (first, offset) at byte
    ]

-- the byte of two digits is what decoding them answers
pair_read : (high low byte i : ℕ) → IsByte high low byte → pair_value high low i ≡ Ok byte
pair_read high low byte i b = rw (b.first, b.second, b.sum) refl

-- pairs of digits decode to their bytes
pub decoded : (i n : ℕ) (digits room : List ℕ) → length digits ≡ 2 * n → n ≤ length room → AreBytes digits room n → decode_pairs i digits ≡ Ok (take n room)
unfolding decode_pairs
decoded i zero [] room long fits are = refl
decoded i zero (x ∷ xs) room long fits are = absurd (omega (arith, long))
decoded i (suc n) [] room long fits are = absurd (omega (arith, long))
decoded i (suc n) (x ∷ []) room long fits are = absurd (omega (arith, long))
decoded i (suc n) (x ∷ y ∷ rest) [] long fits are = absurd (omega (arith, fits))
decoded i (suc n) (x ∷ y ∷ rest) (b ∷ room) long fits are =
    let pair = pair_read x y b i (are 0 (omega arith)) in
    let later : AreBytes rest room n = (λ k h.
    let two : 2 * suc k ≡ suc (suc (2 * k)) = omega arith in
    let one : 2 * suc k + 1 ≡ suc (suc (2 * k + 1)) = omega arith in
    rw (one, two) at (are (suc k) (omega arith))) in
    let ih = decoded (i + 2) n rest room (omega (arith, long)) (omega (arith, fits)) later in
    decode_pairs-ok_pair i x y b rest pair ∙ ap (cons_byte b) ih
