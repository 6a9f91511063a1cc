-- The 33 masks.
use Rattle.std.proofs.Common.{◌≡◌, ℕ, zero, suc, ◌-◌, ◌*◌, ◌/◌, ◌^◌, ◌<◌, ◌≤◌, Bool, true, false, ◌&&◌, eqb, Option, Some, None, is_some, List, [], ◌∷◌, refl, sym, ap, ◌∙◌, arith, ◌⊎◌, inl, inr, cond}
use Rattle.std.proofs.lemmas.Bool.{and_parts, eqb-true}
use lib.Count.{count_leading_zeros}
use Rattle.std.specs.Int.{w32, leading_ones}
use Rattle.std.specs.List.{find}
use Rattle.std.proofs.lemmas.Nat.{shl-shr, shr_split}
use Rattle.std.proofs.lemmas.Nat.Bits.{and_high_mask}
use Rattle.std.specs.Prelude.{bit_and}
use Rattle.rip_wire.specs.Prefix.{Block, mask_of, IsBlock, IsMask, ContainsAddress}
use Rattle.rip_wire.specs.Message.{prefix_lens, bits_of_mask}

-- p is true of each number below n
abbrev pub holds_below : (ℕ → Bool) → ℕ → Bool
holds_below p zero = true
holds_below p (suc n) = p n && holds_below p n

pub holds_at : (p : ℕ → Bool) (n k : ℕ) → holds_below p n ≡ true → k < n → p k ≡ true
holds_at p zero k h lt = absurd (omega arith)
holds_at p (suc n) k h lt =
    let parts = and_parts (p n) (holds_below p n) h in
    let two : (k ≡ n) ⊎ (k < n) = grind arith in
    elim two [ inl e ↦ rw e parts.0 | inr less ↦ holds_at p n k parts.1 less ]

abbrev is_some_of : ℕ → Option ℕ → Bool
is_some_of n None = false
is_some_of n (Some x) = eqb x n

from_is_some_of : (n : ℕ) (o : Option ℕ) → is_some_of n o ≡ true → o ≡ Some n
from_is_some_of n None h = absurd (cc)
from_is_some_of n (Some x) h = ap Some (eqb-true x n h)

-- the length of each mask is found
pub bits_of_mask-mask_of : (bits : ℕ) → bits ≤ 32 → bits_of_mask (mask_of bits) ≡ Some bits
unfolding bits_of_mask prefix_lens
bits_of_mask-mask_of bits h =
    from_is_some_of bits (bits_of_mask (mask_of bits)) (holds_at (λ n. is_some_of n (bits_of_mask (mask_of n))) 33 bits refl (omega arith))

-- a mask begins with as many ones as it has
pub leading_ones-mask_of : (bits : ℕ) → bits ≤ 32 → leading_ones w32 (mask_of bits) ≡ bits
unfolding count_leading_zeros
leading_ones-mask_of bits h =
    eqb-true (leading_ones w32 (mask_of bits)) bits (holds_at (λ n. eqb (leading_ones w32 (mask_of n)) n) 33 bits refl (omega arith))

abbrev all_at_most : ℕ → List ℕ → Type 0
all_at_most n [] = Unit {0}
all_at_most n (x ∷ xs) = (x ≤ n) × all_at_most n xs

found : (mask bits : ℕ) (lens : List ℕ) → all_at_most 32 lens → find (λ l. eqb mask (mask_of l)) lens ≡ Some bits → (bits ≤ 32) × (mask ≡ mask_of bits)
found mask bits [] all h = absurd (cc)
found mask bits (x ∷ xs) all h = at_test (eqb mask (mask_of x)) refl (found mask bits xs all.1) h
  where
    at_test : (t : Bool) → eqb mask (mask_of x) ≡ t → (find (λ l. eqb mask (mask_of l)) xs ≡ Some bits → (bits ≤ 32) × (mask ≡ mask_of bits)) →
        cond t (Some x) (find (λ l. eqb mask (mask_of l)) xs) ≡ Some bits → (bits ≤ 32) × (mask ≡ mask_of bits)
    at_test true e later g = let same : x ≡ bits = cc in rw (← same) (all.0, eqb-true mask (mask_of x) e)
    at_test false e later g = later g

lens_are_small : all_at_most 32 prefix_lens
unfolding prefix_lens
lens_are_small = search arith

-- what has a length is a mask
pub bits_of_mask-Some : (mask bits : ℕ) → bits_of_mask mask ≡ Some bits → (bits ≤ 32) × (mask ≡ mask_of bits)
unfolding bits_of_mask
bits_of_mask-Some mask bits h = found mask bits prefix_lens lens_are_small h

ones-of : (mask : ℕ) (o : Option ℕ) → bits_of_mask mask ≡ o → is_some o ≡ true → (o ≡ Some (leading_ones w32 mask)) × (leading_ones w32 mask ≤ 32)
ones-of mask None is some = absurd (cc some)
ones-of mask (Some bits) is some =
    let found = bits_of_mask-Some mask bits is in
    let same : leading_ones w32 mask ≡ bits = ap (leading_ones w32) found.1 ∙ leading_ones-mask_of bits found.0 in
    (ap Some (sym same), omega (arith, same, found.0))

-- a mask has the length of the ones that it begins with
pub bits_of_mask-ones : (mask : ℕ) → is_some (bits_of_mask mask) ≡ true → (bits_of_mask mask ≡ Some (leading_ones w32 mask)) × (leading_ones w32 mask ≤ 32)
bits_of_mask-ones mask some = ones-of mask (bits_of_mask mask) refl some

-- what does not begin with all its ones is no mask
pub bits_of_mask-None : (mask : ℕ) → (mask ≡ mask_of (leading_ones w32 mask) → ⊥) → None ≡ bits_of_mask mask
bits_of_mask-None mask h = cases (bits_of_mask mask) refl
  where
    cases : (o : Option ℕ) → bits_of_mask mask ≡ o → None ≡ o
    cases None e = refl
    cases (Some bits) e =
        let mask-is = bits_of_mask-Some mask bits e in
        let same : leading_ones w32 mask ≡ bits = ap (leading_ones w32) mask-is.1 ∙ leading_ones-mask_of bits mask-is.0 in
        absurd (h (mask-is.1 ∙ ap mask_of (sym same)))

-- what has no length is no mask
pub no_mask : (mask : ℕ) → bits_of_mask mask ≡ None → IsMask mask → ⊥
no_mask mask h is =
    let found = ap bits_of_mask is.2 ∙ bits_of_mask-mask_of is.0 is.1 in
    let clash : None ≡ Some is.0 = sym h ∙ found in cc

-- an address is in a prefix where the mask leaves the network of it
pub contains_by_mask : (p : Block) (a : ℕ) → IsBlock p → a < 2 ^ 32 →
    (bit_and a (mask_of p.prefix_len) ≡ p.network → ContainsAddress p a) × (ContainsAddress p a → bit_and a (mask_of p.prefix_len) ≡ p.network)
contains_by_mask p a is small =
    let k = 32 - p.prefix_len in
    let masked : bit_and a (mask_of p.prefix_len) ≡ a / 2 ^ k * 2 ^ k = and_high_mask 32 k (omega arith) a small in
    let hosts = is.2 in
    let whole : p.network / 2 ^ k * 2 ^ k ≡ p.network = omega (arith, shr_split p.network k) in (
      λ h. sym (shl-shr (a / 2 ^ k) k) ∙ ap (λ (x : ℕ). x / 2 ^ k) (sym masked ∙ h),
      λ h. masked ∙ ap (λ (x : ℕ). x * 2 ^ k) h ∙ whole,
    )
