-- The numbers of a datagram, and their bytes.
use Rattle.std.proofs.Common.{◌≡◌, ℕ, ◌+◌, ◌^◌, ◌<◌, ◌≤◌, List, ◌++◌, length, get_or, take, drop, sym, ap, ◌∙◌, arith}
use Rattle.std.specs.Int.{w16, w32, from_be_bytes}
use Rattle.std.proofs.lemmas.Nat.{be_bytes_2, be_bytes_4}
use Rattle.std.proofs.lemmas.List.{drop-drop, drop_at, length-drop, length-take, get_or-drop, get_or-take, get_or_past}
use Rattle.std.proofs.lemmas.Bool.{cases_lt}
use Rattle.std.proofs.Math.Seq.{take-add}
use Rattle.byteorder.specs.Endian.{big_from}
use Rattle.byteorder.specs.Numbers.{big_from-take, big_from-lt, big_number-reads_back, length-bytes_high_first}
use Rattle.rip_wire.specs.Fields.{number_at, bytes_of_number}
use Rattle.std.proofs.Common.{inl, inr}

abbrev pub IsBytes : List ℕ → Type 0
IsBytes b = (i : ℕ) → get_or b i 0 < 256

IsBytes-drop : (k : ℕ) (b : List ℕ) → IsBytes b → IsBytes (drop k b)
IsBytes-drop k b h i = rw get_or-drop (h (k + i))

IsBytes-take : (k : ℕ) (b : List ℕ) → IsBytes b → IsBytes (take k b)
IsBytes-take k b h i =
    elim (cases_lt i k) [
      | inl lt ↦ rw (get_or-take k b i 0 lt) (h i)
      | inr le ↦ rw (get_or_past (take k b) i 0 (omega (arith, length-take k b))) (omega arith)
    ]

-- a number of two bytes has the bytes that it was read from
pub bytes_of_number-2 : (k : ℕ) (b : List ℕ) → IsBytes b → k + 2 ≤ length b → bytes_of_number 2 (number_at 2 k b) ≡ take 2 (drop k b)
unfolding bytes_of_number number_at
bytes_of_number-2 k b bytes room =
    let same : big_from 0 2 (take 2 (drop k b)) ≡ big_from 0 2 (drop k b) = big_from-take 0 2 2 (drop k b) (omega arith) in
    let worth : big_from 0 2 (take 2 (drop k b)) ≡ from_be_bytes w16 (take 2 (drop k b)) = omega arith in
    be_bytes_2 (take 2 (drop k b)) (big_from 0 2 (drop k b)) (omega (arith, length-take 2 (drop k b), length-drop k b)) (IsBytes-take 2 (drop k b) (IsBytes-drop k b bytes)) (sym same ∙ worth)

-- a number of four bytes has the bytes that it was read from
pub bytes_of_number-4 : (k : ℕ) (b : List ℕ) → IsBytes b → k + 4 ≤ length b → bytes_of_number 4 (number_at 4 k b) ≡ take 4 (drop k b)
unfolding bytes_of_number number_at
bytes_of_number-4 k b bytes room =
    let same : big_from 0 4 (take 4 (drop k b)) ≡ big_from 0 4 (drop k b) = big_from-take 0 4 4 (drop k b) (omega arith) in
    let worth : big_from 0 4 (take 4 (drop k b)) ≡ from_be_bytes w32 (take 4 (drop k b)) = omega arith in
    be_bytes_4 (take 4 (drop k b)) (big_from 0 4 (drop k b)) (omega (arith, length-take 4 (drop k b), length-drop k b)) (IsBytes-take 4 (drop k b) (IsBytes-drop k b bytes)) (sym same ∙ worth)

-- a number is below what its bytes can hold
pub number_at-lt : (n k : ℕ) (b : List ℕ) → IsBytes b → number_at n k b < 256 ^ n
unfolding number_at
number_at-lt n k b bytes = big_from-lt 0 n (drop k b) (IsBytes-drop k b bytes)

pub length-bytes_of_number : (n x : ℕ) → length (bytes_of_number n x) ≡ n
unfolding bytes_of_number
length-bytes_of_number n x = length-bytes_high_first n x

-- a number reads back from its bytes
pub number_at-bytes : (n k x : ℕ) (b rest : List ℕ) → x < 256 ^ n → drop k b ≡ bytes_of_number n x ++ rest → number_at n k b ≡ x
unfolding number_at bytes_of_number
number_at-bytes n k x b rest small here = rw here (big_number-reads_back n x rest small)

-- what is after the bytes of a number
pub drop-number : (n k x : ℕ) (b rest : List ℕ) → drop k b ≡ bytes_of_number n x ++ rest → drop (k + n) b ≡ rest
drop-number n k x b rest here =
    sym (drop-drop n k b) ∙ ap (drop n) here ∙ drop_at (bytes_of_number n x) rest n (length-bytes_of_number n x)

-- the bytes of a number and those after it, as a part of the whole
pub take-two : (n m j k : ℕ) (b xs ys : List ℕ) → j + n ≡ k → xs ≡ take n (drop j b) → ys ≡ take m (drop k b) → xs ++ ys ≡ take (n + m) (drop j b)
take-two n m j k b xs ys e h g = rw (h, g, ← e, ← drop-drop n j b) (sym (take-add n m (drop j b)))
