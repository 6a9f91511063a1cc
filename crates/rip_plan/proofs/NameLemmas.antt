-- A name among the texts of a list.
use Rattle.std.proofs.Common.{◌≡◌, ℕ, ◌+◌, List, [], ◌∷◌, ◌++◌, Bool, false, cond, ◌||◌, length, map, refl, ap, arith, Some, None}
use Rattle.std.proofs.lemmas.Bool.{or_parts}
use Rattle.std.specs.Str.{bytes_eq}
use Rattle.std.specs.List.{list_any, position_from}
use Rattle.std.proofs.lemmas.Slice.Eq.{bytes_eq-Decides}
use Rattle.rip_plan.specs.Names.{is_one_of}
use Rattle.rip_plan.proofs.NumberingLemmas.{position_push}

pub is_one_of-map : {A : Type 0} (see : A → List ℕ) (name : List ℕ) (names : List A) → is_one_of name (map see names) ≡ list_any (λ other. bytes_eq (see other) name) names
is_one_of-map see name [] = refl
is_one_of-map see name (n ∷ ns) = ap (λ b. bytes_eq (see n) name || b) (is_one_of-map see name ns)

pub number_of_name-map : {A : Type 0} (see : A → List ℕ) (name : List ℕ) (n : ℕ) (names : List A) → position_from (λ m. bytes_eq m name) n (map see names) ≡ position_from (λ other. bytes_eq (see other) name) n names
number_of_name-map see name n [] = refl
number_of_name-map see name n (m ∷ ms) = ap (λ o. cond (bytes_eq (see m) name) (Some n) o) (number_of_name-map see name (n + 1) ms)

-- ---- the numbers of names, as names come in

absent : {A : Type 0} (test : A → Bool) (n : ℕ) (xs : List A) → list_any test xs ≡ false → position_from test n xs ≡ None
absent test n [] h = refl
absent test n (x ∷ xs) h = let (here, later) = or_parts (test x) (list_any test xs) h in rw here (absent test (n + 1) xs later)

-- a name that is new gets the next number
pub new_name : (names : List (List ℕ)) (name bytes : List ℕ) → is_one_of name names ≡ false
    → cond (bytes_eq name bytes) (Some (length names)) (position_from (λ m. bytes_eq m bytes) 0 names) ≡ position_from (λ m. bytes_eq m bytes) 0 (names ++ name ∷ [])
new_name names name bytes new = grind (arith, bytes_eq-Decides, position_push, absent)
