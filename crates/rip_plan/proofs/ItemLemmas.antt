-- The items of a list, by their numbers.
use Rattle.std.proofs.Common.{◌≡◌, ℕ, zero, suc, ◌+◌, ◌<◌, ◌⊎◌, inl, inr, List, [], ◌∷◌, ◌++◌, length, map, Bool, true, false, Option, Some, None, refl, sym, ◌∙◌, ap, subst, arith, ◌≤◌}
use Rattle.std.proofs.lemmas.Bool.{both_ways, cases_Bool, false_from_ne_true}
use Rattle.std.proofs.lemmas.List.Folds.{Any-from_list_any, list_any-from_Any}
use Rattle.std.specs.Option.{is_some}
use Rattle.std.specs.Prelude.{option_map, slice_get}
use Rattle.std.specs.List.{AllByRecursion, IsDistinct, list_any, position_from}
use Rattle.std.proofs.lemmas.Option.{get_or_from_slice_get, none-some, same_Some, slice_get-get_or, slice_get-map, slice_get_within}

pub cases_option : {A : Type 0} (o : Option A) → (o ≡ None) ⊎ ((x : A) × (o ≡ Some x))
cases_option None = inl refl
cases_option (Some x) = inr (x, refl)

-- ---- at a number

pub all_at : {A : Type 0} (P : A → Type 0) (xs : List A) (i : ℕ) (x : A) → AllByRecursion P xs → slice_get xs i ≡ Some x → P x
all_at P [] i x a h = absurd (none-some x h)
all_at P (y ∷ ys) zero x a h = subst P (same_Some y x h) a.0
all_at P (y ∷ ys) (suc i) x a h = all_at P ys i x a.1 h

pub any_at : {A : Type 0} (p : A → Bool) (xs : List A) (i : ℕ) (x : A) → slice_get xs i ≡ Some x → p x ≡ true → list_any p xs ≡ true
any_at p xs i x h e = list_any-from_Any p xs (i, x, slice_get_within xs i x h, get_or_from_slice_get xs i x x h, e)

pub none_at : {A : Type 0} (p : A → Bool) (xs : List A) (i : ℕ) (x : A) → list_any p xs ≡ false → slice_get xs i ≡ Some x → p x ≡ false
none_at p xs i x n h = false_from_ne_true (p x) (λ e. both_ways (list_any p xs) n (any_at p xs i x h e))

pub any_finds : {A : Type 0} (p : A → Bool) (xs : List A) → list_any p xs ≡ true → (i : ℕ) × (x : A) × (slice_get xs i ≡ Some x) × (p x ≡ true)
any_finds {A} p xs h = let (i, x, less, same, passes) = Any-from_list_any p xs h in (i, x, slice_get-get_or xs i x less ∙ ap (λ (y : A). Some y) same, passes)

pub distinct_at : {A : Type 0} (clash : A → A → Bool) (xs : List A) (i j : ℕ) (x y : A) → IsDistinct clash xs → slice_get xs i ≡ Some x → slice_get xs j ≡ Some y → clash x y ≡ true
    → clash y x ≡ true → i ≡ j
unfolding IsDistinct
distinct_at clash [] i j x y d h k e f = absurd (none-some x h)
distinct_at clash (z ∷ zs) zero zero x y d h k e f = refl
distinct_at clash (z ∷ zs) zero (suc j) x y d h k e f = grind (arith, all_at)
distinct_at clash (z ∷ zs) (suc i) zero x y d h k e f = grind (arith, all_at)
distinct_at clash (z ∷ zs) (suc i) (suc j) x y d h k e f = let same : i ≡ j = distinct_at clash zs i j x y d.1 h k e f in omega arith

-- ---- one more item

pub all_here : {A : Type 0} (P : A → Type 0) (xs : List A) → ((k : ℕ) (x : A) → slice_get xs k ≡ Some x → P x) → AllByRecursion P xs
all_here P [] f = tt
all_here P (x ∷ xs) f = (f 0 x refl, all_here P xs (λ k y h. f (suc k) y h))

pub get_left : {A : Type 0} (xs ys : List A) (i : ℕ) (x : A) → slice_get xs i ≡ Some x → slice_get (xs ++ ys) i ≡ Some x
get_left [] ys i x h = absurd (none-some x h)
get_left (z ∷ zs) ys zero x h = h
get_left (z ∷ zs) ys (suc i) x h = get_left zs ys i x h

pub get_past : {A : Type 0} (xs ys : List A) (i k : ℕ) → k ≡ length xs + i → slice_get (xs ++ ys) k ≡ slice_get ys i
get_past {A} [] ys i k e = ap (λ (n : ℕ). slice_get ys n) (omega arith)
get_past (z ∷ zs) ys i zero e = absurd (omega arith)
get_past (z ∷ zs) ys i (suc k) e = get_past zs ys i k (omega arith)

-- an item of two lists is in the first or in the second
pub get_split : {A : Type 0} (xs ys : List A) (k : ℕ) (a : A) → slice_get (xs ++ ys) k ≡ Some a
    → ((slice_get xs k ≡ Some a) × (k < length xs)) ⊎ ((m : ℕ) × (k ≡ length xs + m) × (slice_get ys m ≡ Some a))
get_split [] ys k a h = inr (k, omega arith, h)
get_split (x ∷ xs) ys zero a h = inl (h, omega arith)
get_split (x ∷ xs) ys (suc k) a h = grind (arith, get_split xs ys k a h)

pub get_last : {A : Type 0} (xs : List A) (x : A) → slice_get (xs ++ x ∷ []) (length xs) ≡ Some x
get_last xs x = get_past xs (x ∷ []) 0 (length xs) (omega arith)

pub get_some : {A : Type 0} (xs : List A) (i : ℕ) → i < length xs → (x : A) × (slice_get xs i ≡ Some x)
get_some [] i h = absurd (omega arith)
get_some (y ∷ ys) zero h = (y, refl)
get_some (y ∷ ys) (suc i) h = get_some ys i (omega arith)

-- an item of a list that is seen through a function
pub get_seen : {A B : Type 0} (see : A → B) (xs : List A) (i : ℕ) (y : B) → slice_get (map see xs) i ≡ Some y → (x : A) × (slice_get xs i ≡ Some x) × (see x ≡ y)
get_seen see [] i y h = absurd (none-some y h)
get_seen see (x ∷ xs) zero y h = (x, refl, same_Some (see x) y h)
get_seen see (x ∷ xs) (suc i) y h = get_seen see xs i y h

pub see_got : {A B : Type 0} (see : A → B) (xs : List A) (i : ℕ) (x : A) → slice_get xs i ≡ Some x → slice_get (map see xs) i ≡ Some (see x)
see_got see xs i x h = slice_get-map see xs i ∙ ap (option_map see) h

-- ---- the first item that passes

-- the number is that of an item that passes
pub position_finds : {A : Type 0} (test : A → Bool) (n : ℕ) (xs : List A) (k : ℕ) → position_from test n xs ≡ Some k → (i : ℕ) × (x : A) × (k ≡ n + i) × (slice_get xs i ≡ Some x) × (test x ≡ true)
position_finds test n [] k h = absurd (none-some k h)
position_finds test n (x ∷ xs) k h =
    elim (cases_Bool (test x)) [
      | inl e ↦ let same : n ≡ k = same_Some n k (rw e at h) in (zero, x, omega arith, refl, e)
      | inr e ↦ let (i, y, at, is, passes) = position_finds test (n + 1) xs k (rw e at h) in (suc i, y, omega (arith, at), is, passes)
    ]

-- and no item before it passes
pub position_first : {A : Type 0} (test : A → Bool) (n : ℕ) (xs : List A) (k : ℕ) → position_from test n xs ≡ Some k → (i : ℕ) (x : A) → slice_get xs i ≡ Some x → test x ≡ true → k ≤ n + i
position_first test n [] k h i x at passes = absurd (none-some k h)
position_first test n (x ∷ xs) k h zero y at passes = let here : test x ≡ true = ap test (same_Some x y at) ∙ passes in let same : n ≡ k = same_Some n k (rw here at h) in omega arith
position_first test n (x ∷ xs) k h (suc i) y at passes = grind (arith, position_first test (n + 1) xs k)

pub position_none : {A : Type 0} (test : A → Bool) (n : ℕ) (xs : List A) → position_from test n xs ≡ None → list_any test xs ≡ false
position_none test n [] h = refl
position_none test n (x ∷ xs) h = elim (cases_Bool (test x)) [ inl e ↦ absurd (none-some n (sym (rw e at h))) | inr e ↦ rw e (position_none test (n + 1) xs (rw e at h)) ]

-- something is found exactly where something passes
pub any_found : {A : Type 0} (test : A → Bool) (n : ℕ) (xs : List A) → is_some (position_from test n xs) ≡ list_any test xs
any_found test n [] = refl
any_found test n (x ∷ xs) = elim (cases_Bool (test x)) [ inl e ↦ rw e refl | inr e ↦ rw e (any_found test (n + 1) xs) ]
