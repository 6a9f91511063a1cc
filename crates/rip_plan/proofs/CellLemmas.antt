-- Rows of w cells, one after another in one list, as they are written and read.
use Rattle.std.proofs.Common.{◌≡◌, ℕ, inl, inr, ◌+◌, ◌*◌, ◌<◌, List, [], ◌∷◌, ◌++◌, length, take, drop, get_or, append_assoc, length-append, Bool, cond, ◌&&◌, Some, refl, arith, eqb}
use Rattle.std.proofs.Math.ListN.{set}
use Rattle.std.specs.Prelude.{slice_get}
use Rattle.std.specs.List.{All}
use Rattle.std.proofs.lemmas.Bool.{cases_Bool}
use Rattle.std.proofs.lemmas.Bool.Decides.{nat_tests}
use Rattle.std.proofs.lemmas.List.{get_or-set_same, get_or-set_other, take_at}
use Rattle.std.proofs.lemmas.Nat.{same_from_place}
use Rattle.std.proofs.lemmas.Option.{slice_get_within, slice_get-get_or}
use Rattle.rip_plan.specs.declared.parts.Interface.{Interface}
use Rattle.rip_plan.specs.Network.{numbers_where, is_on, cost_on}
use Rattle.rip_plan.specs.Rows.{cost_among}
use Rattle.rip_plan.proofs.ItemLemmas.{get_last, get_left}
use Rattle.rip_plan.proofs.BelowLemmas.{number_passes}

pub cell_set : {A : Type 0} (xs : List A) (w a b r k : ℕ) (v d : A) → a * w + b < length xs → b < w → k < w
    → get_or (set xs (a * w + b) v) (r * w + k) d ≡ cond (eqb a r && eqb b k) v (get_or xs (r * w + k) d)
cell_set {A} xs w a b r k v d h p q =
    elim (cases_Bool (eqb a r && eqb b k)) [
      | inl e ↦ grind (arith, get_or-set_same xs (a * w + b) v d h, nat_tests)
      | inr e ↦ grind (arith, get_or-set_other xs (a * w + b) (r * w + k) v d, same_from_place r k a b w q p, nat_tests)
    ]

pub written_back : {A : Type 0} (ys xs : List A) (n : ℕ) → n ≡ length xs → length ys ≡ length xs → take n (ys ++ drop (length ys) xs) ≡ ys
written_back ys xs n e f = take_at ys (drop (length ys) xs) n (omega arith)

-- ---- the interfaces on a link by their numbers

here_is : {A : Type 0} (front xs : List A) (x : A) (n : ℕ) → n ≡ length front → slice_get (front ++ x ∷ xs) n ≡ Some x
here_is {A} front xs x n e = grind (arith, append_assoc front (x ∷ []) xs, get_left (front ++ x ∷ []) xs (length front) x (get_last front x))

among_from : (r l : ℕ) (front xs : List Interface) (n : ℕ) → n ≡ length front → cost_among r (front ++ xs) (numbers_where (is_on l) n xs) ≡ cost_on r l xs
among_from r l front [] n e = refl
among_from r l front (x ∷ xs) n e =
    let at : (front ++ x ∷ []) ++ xs ≡ front ++ x ∷ xs = append_assoc front (x ∷ []) xs in
    let count : n + 1 ≡ length (front ++ x ∷ []) = omega (arith, length-append front (x ∷ [])) in
    grind (arith, among_from r l (front ++ x ∷ []) xs (n + 1) count, here_is front xs x n e)

pub among_is_on : (r l : ℕ) (is : List Interface) → cost_among r is (numbers_where (is_on l) 0 is) ≡ cost_on r l is
among_is_on r l is = among_from r l [] is 0 refl

pub numbers_below : {A : Type 0} (test : A → Bool) (xs : List A) → All (λ n. n < length xs) (numbers_where test 0 xs)
numbers_below test xs k d h = grind (arith, number_passes, slice_get-get_or, slice_get_within)
