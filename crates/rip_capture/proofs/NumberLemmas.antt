-- Numbers in bytes of which more follow.
use Rattle.std.proofs.Common.{◌≡◌, ◌+◌, ◌≤◌, ◌∙◌, ℕ, List, length, drop, ap, arith, sym, subst}
use Rattle.std.proofs.lemmas.List.{drop-append-le, length-drop}
use Rattle.byteorder.specs.Endian.{big_number}
use Rattle.byteorder.specs.Numbers.{big_from-append, little_from-append}
use Rattle.rip_wire.specs.Fields.{number_at}
use Rattle.rip_capture.specs.Feeds.{Extends}
use Rattle.rip_capture.specs.Numbers.{number_in, short_in}
use Rattle.rip_capture.specs.Pcap.{IsMagic, IsMagicNumber, IsVersion}
use Rattle.rip_capture.specs.declared.numbers.Order.{Order}
use Rattle.rip_capture.specs.declared.numbers.Order.TheVariants.{Big, Little}

-- a number of four bytes stays the same
pub number-stays : (order : Order) (k : ℕ) (xs ys : List ℕ) → k + 4 ≤ length xs → Extends xs ys → number_in order k ys ≡ number_in order k xs
number-stays Big k xs ys h e =
    ap (number_in Big k) e.whole ∙ ap (number_in Big 0) (drop-append-le k xs e.more (omega arith))
    ∙ big_from-append 4 (drop k xs) e.more (omega (arith, length-drop k xs))
number-stays Little k xs ys h e =
    ap (number_in Little k) e.whole ∙ ap (number_in Little 0) (drop-append-le k xs e.more (omega arith))
    ∙ little_from-append 4 (drop k xs) e.more (omega (arith, length-drop k xs))

-- and one of two
pub short-stays : (order : Order) (k : ℕ) (xs ys : List ℕ) → k + 2 ≤ length xs → Extends xs ys → short_in order k ys ≡ short_in order k xs
short-stays Big k xs ys h e =
    ap (short_in Big k) e.whole ∙ ap (short_in Big 0) (drop-append-le k xs e.more (omega arith))
    ∙ big_from-append 2 (drop k xs) e.more (omega (arith, length-drop k xs))
short-stays Little k xs ys h e =
    ap (short_in Little k) e.whole ∙ ap (short_in Little 0) (drop-append-le k xs e.more (omega arith))
    ∙ little_from-append 2 (drop k xs) e.more (omega (arith, length-drop k xs))

-- the first four bytes stay the same
first-stays : (xs ys : List ℕ) → 4 ≤ length xs → Extends xs ys → number_at 4 0 ys ≡ number_at 4 0 xs
unfolding number_at
first-stays xs ys h e = ap (λ (l : List ℕ). big_number 4 (drop 0 l)) e.whole ∙ big_from-append 4 xs e.more h

-- so what a file begins with stays, to its front and back
pub magic-stays : (order : Order) (xs ys : List ℕ) → 4 ≤ length xs → Extends xs ys → IsMagic order xs → IsMagic order ys
magic-stays order xs ys h e = subst (IsMagicNumber order) (sym (first-stays xs ys h e))

pub magic-front : (order : Order) (xs ys : List ℕ) → 4 ≤ length xs → Extends xs ys → IsMagic order ys → IsMagic order xs
magic-front order xs ys h e = subst (IsMagicNumber order) (first-stays xs ys h e)

-- and so does the version
pub version-stays : (order : Order) (xs ys : List ℕ) → 8 ≤ length xs → Extends xs ys → IsVersion order xs → IsVersion order ys
version-stays order xs ys h e v = record {
  major = short-stays order 4 xs ys (omega arith) e ∙ v.major;
  minor = short-stays order 6 xs ys (omega arith) e ∙ v.minor;
}

pub version-front : (order : Order) (xs ys : List ℕ) → 8 ≤ length xs → Extends xs ys → IsVersion order ys → IsVersion order xs
version-front order xs ys h e v = record {
  major = sym (short-stays order 4 xs ys (omega arith) e) ∙ v.major;
  minor = sym (short-stays order 6 xs ys (omega arith) e) ∙ v.minor;
}
