-- Lists that are matched item by item.
use Rattle.std.proofs.Common.{◌≡◌, ℕ, zero, suc, List, [], ◌∷◌, ◌++◌, length, map, filter, Bool, true, ◌&&◌, Some, refl, ap, subst, arith}
use Rattle.std.specs.Prelude.{slice_get}
use Rattle.std.proofs.lemmas.Option.{none-some, same_Some}
use Rattle.rip_plan.specs.PlanOf.{Matched}

pub matched_append : {A B : Type 0} (R : A → B → Type 0) (xs us : List A) (ys vs : List B) → Matched R xs ys → Matched R us vs → Matched R (xs ++ us) (ys ++ vs)
matched_append R [] us [] vs m k = k
matched_append R (x ∷ xs) us (y ∷ ys) vs m k = (m.0, matched_append R xs us ys vs m.1 k)
matched_append R xs us ys vs m k = absurd m

-- two lists that are matched with one list are equal, where each item has one partner
pub matched_same : {A B : Type 0} (R S : A → B → Type 0) → ((x y : A) (z : B) → R x z → S y z → x ≡ y) → (xs ys : List A) (zs : List B) → Matched R xs zs → Matched S ys zs → xs ≡ ys
matched_same R S f [] [] [] m k = refl
matched_same R S f [] (y ∷ ys) [] m k = absurd k
matched_same R S f (x ∷ xs) ys [] m k = absurd m
matched_same R S f [] ys (z ∷ zs) m k = absurd m
matched_same R S f (x ∷ xs) [] (z ∷ zs) m k = absurd k
matched_same {A} R S f (x ∷ xs) (y ∷ ys) (z ∷ zs) m k = grind (arith, matched_same R S f xs ys zs m.1 k.1)

pub matched_weaker : {A B : Type 0} (R S : A → B → Type 0) → ((x : A) (y : B) → R x y → S x y) → (xs : List A) (ys : List B) → Matched R xs ys → Matched S xs ys
matched_weaker R S f [] [] m = tt
matched_weaker R S f (x ∷ xs) (y ∷ ys) m = (f x y m.0, matched_weaker R S f xs ys m.1)
matched_weaker R S f xs ys m = absurd m

-- the same of items that are seen through a function
pub matched_seen : {A B C : Type 0} (R : A → B → Type 0) (S : A → C → Type 0) (see : B → C) → ((x : A) (y : B) → R x y → S x (see y)) → (xs : List A) (ys : List B) → Matched R xs ys
    → Matched S xs (map see ys)
matched_seen R S see f [] [] m = tt
matched_seen R S see f (x ∷ xs) (y ∷ ys) m = (f x y m.0, matched_seen R S see f xs ys m.1)
matched_seen R S see f xs ys m = absurd m

-- ---- partners

pub matched_left : {A B : Type 0} (R : A → B → Type 0) (xs : List A) (ys : List B) (k : ℕ) (x : A) → Matched R xs ys → slice_get xs k ≡ Some x → (y : B) × (slice_get ys k ≡ Some y) × R x y
matched_left R [] ys k x m h = absurd (none-some x h)
matched_left R (z ∷ zs) [] k x m h = absurd m
matched_left R (z ∷ zs) (y ∷ ys) zero x m h = (y, refl, subst (λ w. R w y) (same_Some z x h) m.0)
matched_left R (z ∷ zs) (y ∷ ys) (suc k) x m h = matched_left R zs ys k x m.1 h

pub matched_right : {A B : Type 0} (R : A → B → Type 0) (xs : List A) (ys : List B) (k : ℕ) (y : B) → Matched R xs ys → slice_get ys k ≡ Some y → (x : A) × (slice_get xs k ≡ Some x) × R x y
matched_right R xs [] k y m h = absurd (none-some y h)
matched_right R [] (z ∷ zs) k y m h = absurd m
matched_right R (x ∷ xs) (z ∷ zs) zero y m h = (x, refl, subst (λ w. R x w) (same_Some z y h) m.0)
matched_right R (x ∷ xs) (z ∷ zs) (suc k) y m h = matched_right R xs zs k y m.1 h

pub matched_length : {A B : Type 0} (R : A → B → Type 0) (xs : List A) (ys : List B) → Matched R xs ys → length xs ≡ length ys
matched_length R [] [] m = refl
matched_length R (x ∷ xs) (y ∷ ys) m = let more : length xs ≡ length ys = matched_length R xs ys m.1 in omega arith
matched_length R xs ys m = absurd m

-- ---- filters

pub filter_both : {A : Type 0} (p q r : A → Bool) → ((x : A) → r x ≡ (q x && p x)) → (xs : List A) → filter p (filter q xs) ≡ filter r xs
filter_both p q r f [] = refl
filter_both {A} p q r f (x ∷ xs) = grind (arith, filter_both p q r f xs)

pub filter_all : {A : Type 0} (p : A → Bool) → ((x : A) → p x ≡ true) → (xs : List A) → filter p xs ≡ xs
filter_all p f [] = refl
filter_all {A} p f (x ∷ xs) = rw (f x) (ap (λ (l : List A). x ∷ l) (filter_all p f xs))
