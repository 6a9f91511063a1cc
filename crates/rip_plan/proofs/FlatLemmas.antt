-- Lists that are made of the lists of numbered items, one after another.
use Rattle.std.proofs.Common.{◌≡◌, ℕ, zero, suc, ◌+◌, ◌<◌, ◌≤◌, ◌⊎◌, inl, inr, List, [], ◌∷◌, ◌++◌, length, length-append, Some, refl, sym, ap, ◌∙◌, arith}
use Rattle.std.specs.Prelude.{slice_get}
use Rattle.std.proofs.lemmas.Bool.{cases_order}
use Rattle.std.proofs.lemmas.Option.{none-some, slice_get_within}
use Rattle.rip_plan.proofs.ItemLemmas.{get_left, get_past, get_split}

-- the lists of the items, which are counted from n
abbrev pub flat : {A B : Type 0} → (ℕ → A → List B) → ℕ → List A → List B
flat f n [] = []
flat f n (x ∷ xs) = f n x ++ flat f (n + 1) xs

-- how many stand before those of item i
abbrev pub count_ahead : {A B : Type 0} → (ℕ → A → List B) → ℕ → List A → ℕ → ℕ
count_ahead f n [] i = 0
count_ahead f n (x ∷ xs) zero = 0
count_ahead f n (x ∷ xs) (suc i) = length (f n x) + count_ahead f (n + 1) xs i

-- what stands at k is item j of the list of item i
pub record IsIn {A B : Type 0} (f : ℕ → A → List B) (n : ℕ) (xs : List A) (k : ℕ) (b : B) : Type 0 where
  pub i : ℕ
  pub x : A
  pub at : slice_get xs i ≡ Some x
  pub j : ℕ
  pub of : slice_get (f (n + i) x) j ≡ Some b
  pub number : k ≡ count_ahead f n xs i + j

from_flat : {A B : Type 0} (f : ℕ → A → List B) (n : ℕ) (xs : List A) (k : ℕ) (b : B) → slice_get (flat f n xs) k ≡ Some b → IsIn f n xs k b
from_flat f n [] k b h = absurd (none-some b h)
from_flat f n (x ∷ xs) k b h =
    elim (get_split (f n x) (flat f (n + 1) xs) k b h) [
      | inl e ↦ record { i = zero; x = x; at = refl; j = k; of = grind arith; number = omega arith }
      | inr e ↦
          let u = from_flat f (n + 1) xs e.0 b e.2 in
          record { i = suc u.i; x = u.x; at = u.at; j = u.j; of = grind arith; number = omega (arith, e.1, u.number) }
    ]

to_flat : {A B : Type 0} (f : ℕ → A → List B) (n : ℕ) (xs : List A) (i j : ℕ) (x : A) (b : B) → slice_get xs i ≡ Some x → slice_get (f (n + i) x) j ≡ Some b
    → (k : ℕ) → k ≡ count_ahead f n xs i + j → slice_get (flat f n xs) k ≡ Some b
to_flat f n [] i j x b h of k e = absurd (none-some x h)
to_flat f n (y ∷ xs) zero j x b h of k e = grind (arith, get_left)
to_flat f n (y ∷ xs) (suc i) j x b h of k e = grind (arith, get_past (f n y) (flat f (n + 1) xs) (count_ahead f (n + 1) xs i + j) k, to_flat f (n + 1) xs i j x b h)

-- the same of a list that is equal to it
pub is_in : {A B : Type 0} (f : ℕ → A → List B) (n : ℕ) (xs : List A) (l : List B) → l ≡ flat f n xs → (k : ℕ) (b : B) → slice_get l k ≡ Some b → IsIn f n xs k b
is_in {A} {B} f n xs l e k b h = from_flat f n xs k b (ap (λ (m : List B). slice_get m k) (sym e) ∙ h)

pub in_flat : {A B : Type 0} (f : ℕ → A → List B) (n : ℕ) (xs : List A) (l : List B) → l ≡ flat f n xs → (i j : ℕ) (x : A) (b : B) → slice_get xs i ≡ Some x → slice_get (f (n + i) x) j ≡ Some b
    → (k : ℕ) → k ≡ count_ahead f n xs i + j → slice_get l k ≡ Some b
in_flat {A} {B} f n xs l e i j x b h of k number = ap (λ (m : List B). slice_get m k) e ∙ to_flat f n xs i j x b h of k number

-- ---- in which order they stand

ahead_next : {A B : Type 0} (f : ℕ → A → List B) (n : ℕ) (xs : List A) (i m : ℕ) (x : A) → slice_get xs i ≡ Some x → i < m → count_ahead f n xs i + length (f (n + i) x) ≤ count_ahead f n xs m
ahead_next f n [] i m x h less = absurd (none-some x h)
ahead_next f n (y ∷ xs) i zero x h less = absurd (omega arith)
ahead_next f n (y ∷ xs) zero (suc m) x h less = grind arith
ahead_next f n (y ∷ xs) (suc i) (suc m) x h less = grind (arith, ahead_next f (n + 1) xs i m x h (omega arith))

pub in_order : {A B : Type 0} (f : ℕ → A → List B) (n : ℕ) (xs : List A) (k m : ℕ) (a b : B) (u : IsIn f n xs k a) (v : IsIn f n xs m b) → k < m → (u.i < v.i) ⊎ ((u.i ≡ v.i) × (u.j < v.j))
in_order f n xs k m a b u v less =
    elim (cases_order u.i v.i) [
      | inl same ↦ inr (same, omega (arith, u.number, v.number, ap (count_ahead f n xs) same))
      | inr (inl before) ↦ inl before
      | inr (inr after) ↦ absurd (omega (arith, u.number, v.number, ahead_next f n xs v.i u.i v.x v.at after, slice_get_within (f (n + v.i) v.x) v.j b v.of))
    ]

-- ---- how many there are

pub same_ahead : {A B C : Type 0} (f : ℕ → A → List B) (g : ℕ → A → List C) → ((i j : ℕ) (x : A) → length (f i x) ≡ length (g j x)) → (n m : ℕ) (xs : List A) (i : ℕ)
    → count_ahead f n xs i ≡ count_ahead g m xs i
same_ahead f g same n m [] i = refl
same_ahead f g same n m (x ∷ xs) zero = refl
same_ahead f g same n m (x ∷ xs) (suc i) = omega (arith, same n m x, same_ahead f g same (n + 1) (m + 1) xs i)

pub same_length : {A B C : Type 0} (f : ℕ → A → List B) (g : ℕ → A → List C) → ((i j : ℕ) (x : A) → length (f i x) ≡ length (g j x)) → (n m : ℕ) (xs : List A)
    → length (flat f n xs) ≡ length (flat g m xs)
same_length f g same n m [] = refl
same_length f g same n m (x ∷ xs) = grind (arith, length-append, same_length f g same (n + 1) (m + 1) xs)

pub ahead_front : {A B : Type 0} (f : ℕ → A → List B) (n : ℕ) (done : List A) (d : A) (rest : List A) → count_ahead f n (done ++ d ∷ rest) (length done) ≡ length (flat f n done)
ahead_front f n [] d rest = refl
ahead_front f n (y ∷ done) d rest = omega (arith, ahead_front f (n + 1) done d rest, length-append (f n y) (flat f (n + 1) done))
