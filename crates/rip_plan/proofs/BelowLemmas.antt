-- f of each number below n, and the numbers of the items that pass a test.
use Rattle.std.proofs.Common.{◌≡◌, ◌≢◌, ℕ, zero, suc, ◌+◌, ◌<◌, List, [], ◌∷◌, ◌++◌, length, map, take, Bool, true, false, cond, get_or, refl, sym, ◌∙◌, ap, arith, length-append, inl, inr, ◌≤◌, Some}
use Rattle.std.proofs.lemmas.List.{get_or_append_left, get_or_push, get_or-map, length-map, get_or-set_same, get_or-set_other, same_lists, map-set, take_more, length-take-le}
use Rattle.std.proofs.Math.ListN.{set, length-set}
use Rattle.std.specs.Prelude.{◌==◌, slice_get}
use Rattle.std.proofs.lemmas.Bool.{cases_Bool, eq-eqb}
use Rattle.std.proofs.lemmas.Bool.Decides.{nat_tests}
use Rattle.std.specs.List.{Contains}
use Rattle.std.specs.List.Sorted.{IsStrictlyIncreasing}
use Rattle.std.proofs.lemmas.Option.{none-some, same_Some, slice_get_within, get_or_from_slice_get, slice_get-get_or}
use Rattle.rip_plan.specs.Network.{each_below, numbers_where}

pub length-each_below : {A : Type 0} (n : ℕ) (f : ℕ → A) → length (each_below n f) ≡ n
length-each_below zero f = refl
length-each_below (suc n) f = omega (arith, length-append (each_below n f) (f n ∷ []), length-each_below n f)

pub each_below-at : {A : Type 0} (n : ℕ) (f : ℕ → A) (l : ℕ) (d : A) → l < n → get_or (each_below n f) l d ≡ f l
each_below-at zero f l d h = absurd (omega arith)
each_below-at (suc n) f l d h = grind (arith, get_or_append_left (each_below n f) (f n ∷ []) d l, get_or_push (each_below n f) (f n) d n, length-each_below n f, each_below-at n f l d)

-- a list that is kept for each number below n, seen by view
pub kept_at : {V A : Type 0} (view : V → A) (vs : List V) (n : ℕ) (f : ℕ → A) (l : ℕ) (v : V) → map view vs ≡ each_below n f → l < n → v ≡ get_or vs l v → view v ≡ f l
kept_at view vs n f l v kept below is =
    let same : length vs ≡ n = sym (length-map vs view) ∙ ap length kept ∙ length-each_below n f in
    ap view is ∙ sym (get_or-map view vs l v (view v) (omega arith)) ∙ ap (λ xs. get_or xs l (view v)) kept ∙ each_below-at n f l (view v) below

pub kept_within : {V A : Type 0} (view : V → A) (vs : List V) (n : ℕ) (f : ℕ → A) (l : ℕ) → map view vs ≡ each_below n f → l < n → l < length vs
kept_within view vs n f l kept below = grind (arith, length-map, length-each_below)

-- another value at one number
pub each_below_set : {A : Type 0} (n : ℕ) (f g : ℕ → A) (l : ℕ) → l < n → ((k : ℕ) → k ≢ l → g k ≡ f k) → set (each_below n f) l (g l) ≡ each_below n g
each_below_set {A} n f g l within others = same_lists (set (each_below n f) l (g l)) (each_below n g) count at
  where
    count : length (set (each_below n f) l (g l)) ≡ length (each_below n g)
    count = length-set (each_below n f) l (g l) ∙ length-each_below n f ∙ sym (length-each_below n g)

    at : (k : ℕ) (d : A) → k < length (set (each_below n f) l (g l)) → get_or (set (each_below n f) l (g l)) k d ≡ get_or (each_below n g) k d
    at k d h =
        let below : k < n = omega (arith, length-set (each_below n f) l (g l), length-each_below n f) in
        grind (arith, get_or-set_same (each_below n f) l (g l) d, get_or-set_other (each_below n f) l k (g l) d, length-each_below n f, each_below-at n f k d, each_below-at n g k d, others k)

-- one more item
pub numbers_where_push : {A : Type 0} (test : A → Bool) (n : ℕ) (xs : List A) (x : A) →
    numbers_where test n (xs ++ x ∷ []) ≡ cond (test x) (numbers_where test n xs ++ (n + length xs) ∷ []) (numbers_where test n xs)
numbers_where_push test n [] x = grind arith
numbers_where_push test n (y ∷ ys) x = grind (arith, numbers_where_push test (n + 1) ys x)

-- the same at each number
each_below_same : {A : Type 0} (n : ℕ) (f g : ℕ → A) → ((k : ℕ) → g k ≡ f k) → each_below n f ≡ each_below n g
each_below_same zero f g same = refl
each_below_same (suc n) f g same = grind (arith, each_below_same n f g same, same n)

-- the numbers of the items that pass the test of each number, with one more item
module _ {A V : Type 0} (view : V → List ℕ) (vs : List V) (n : ℕ) (test : ℕ → A → Bool) (xs : List A) (i : ℕ) (x : A)
    (kept : map view vs ≡ each_below n (λ k. numbers_where (test k) 0 (take i xs))) (within : i < length xs) (is : x ≡ get_or xs i x) where
  abbrev old : ℕ → List ℕ
  old = λ k. numbers_where (test k) 0 (take i xs)

  abbrev new : ℕ → List ℕ
  new = λ k. numbers_where (test k) 0 (take (i + 1) xs)

  more : (k : ℕ) → new k ≡ cond (test k x) (old k ++ i ∷ []) (old k)
  more k =
      let front : take (i + 1) xs ≡ take i xs ++ x ∷ [] = take_more xs i x within ∙ ap (λ y. take i xs ++ y ∷ []) (sym is) in
      grind (arith, length-take-le i xs, numbers_where_push (test k) 0 (take i xs) x)

  -- which passes that of one number alone
  pub grouped_with : (l : ℕ) (v w : V) → l < n → test l x ≡ true → ((k : ℕ) → k ≢ l → test k x ≡ false) → v ≡ get_or vs l v → view w ≡ view v ++ i ∷ []
      → map view (set vs l w) ≡ each_below n (λ k. numbers_where (test k) 0 (take (i + 1) xs))
  grouped_with l v w below passes alone at pushed =
      let here : view w ≡ new l = grind (arith, kept_at view vs n old l v kept below at, more l) in
      map-set view vs l w ∙ ap (λ ls. set ls l (view w)) kept ∙ ap (λ ns. set (each_below n old) l ns) here ∙ each_below_set n old new l below (λ k apart. grind (arith, alone k apart, more k))

  -- which passes none
  pub grouped_less : ((k : ℕ) → test k x ≡ false) → map view vs ≡ each_below n (λ k. numbers_where (test k) 0 (take (i + 1) xs))
  grouped_less none = kept ∙ each_below_same n old new (λ k. grind (arith, none k, more k))

-- the numbers of the items of each key, with one more item
pub grouped_more : {A V : Type 0} (view : V → List ℕ) (vs : List V) (n : ℕ) (key : A → ℕ) (xs : List A) (i : ℕ) (x : A) (v w : V)
    → map view vs ≡ each_below n (λ k. numbers_where (λ y. key y == k) 0 (take i xs)) → i < length xs → x ≡ get_or xs i x
    → key x < n → v ≡ get_or vs (key x) v → view w ≡ view v ++ i ∷ []
    → map view (set vs (key x) w) ≡ each_below n (λ k. numbers_where (λ y. key y == k) 0 (take (i + 1) xs))
grouped_more view vs n key xs i x v w kept within is below at pushed =
    grouped_with view vs n (λ k y. key y == k) xs i x kept within is (key x) v w below (eq-eqb (key x) (key x) refl) (λ k apart. grind (arith, nat_tests)) at pushed

pub contains_at : {A : Type 0} (xs : List A) (k : ℕ) (x : A) → slice_get xs k ≡ Some x → Contains xs x
contains_at xs k x h = (k, slice_get_within xs k x h, get_or_from_slice_get xs k x x h)

pub at_contains : {A : Type 0} (xs : List A) (x : A) → Contains xs x → (k : ℕ) × (slice_get xs k ≡ Some x)
at_contains {A} xs x c = (c.0, slice_get-get_or xs c.0 x c.1 ∙ ap (λ (y : A). Some y) c.2)

-- each number is that of an item that passes
pub number_passes : {A : Type 0} (test : A → Bool) (n : ℕ) (xs : List A) (k m : ℕ) → slice_get (numbers_where test n xs) k ≡ Some m →
    (i : ℕ) × (x : A) × (m ≡ n + i) × (slice_get xs i ≡ Some x) × (test x ≡ true)
number_passes test n [] k m h = absurd (none-some m h)
number_passes {A} test n (x ∷ xs) k m h = by_head (test x) refl k h (λ j e. number_passes test (n + 1) xs j m e)
  where
    later : (i : ℕ) (y : A) → m ≡ n + 1 + i → slice_get xs i ≡ Some y → test y ≡ true → (j : ℕ) × (z : A) × (m ≡ n + j) × (slice_get (x ∷ xs) j ≡ Some z) × (test z ≡ true)
    later i y e at t = (suc i, y, omega arith, at, t)

    by_head : (b : Bool) → test x ≡ b → (j : ℕ) → slice_get (cond b (n ∷ numbers_where test (n + 1) xs) (numbers_where test (n + 1) xs)) j ≡ Some m
        → ((p : ℕ) → slice_get (numbers_where test (n + 1) xs) p ≡ Some m → (i : ℕ) × (y : A) × (m ≡ n + 1 + i) × (slice_get xs i ≡ Some y) × (test y ≡ true))
        → (i : ℕ) × (y : A) × (m ≡ n + i) × (slice_get (x ∷ xs) i ≡ Some y) × (test y ≡ true)
    by_head true e zero at others = let same : n ≡ m = same_Some n m at in (zero, x, omega arith, refl, e)
    by_head true e (suc j) at others = let (i, y, p, q, t) = others j at in later i y p q t
    by_head false e j at others = let (i, y, p, q, t) = others j at in later i y p q t

-- the number of each item that passes is there
pub passing_number : {A : Type 0} (test : A → Bool) (n : ℕ) (xs : List A) (i : ℕ) (x : A) → slice_get xs i ≡ Some x → test x ≡ true → (k : ℕ) × (slice_get (numbers_where test n xs) k ≡ Some (n + i))
passing_number test n [] i x h t = absurd (none-some x h)
passing_number test n (y ∷ ys) zero x h t = (zero, grind arith)
passing_number {A} test n (y ∷ ys) (suc i) x h t =
    let (k, is) = passing_number test (n + 1) ys i x h t in
    elim (cases_Bool (test y)) [ inl e ↦ (suc k, grind arith) | inr e ↦ (k, grind arith) ]

low : {A : Type 0} (test : A → Bool) (n : ℕ) (xs : List A) (k : ℕ) → k < length (numbers_where test n xs) → n ≤ get_or (numbers_where test n xs) k 0
low test n xs k h = grind (arith, number_passes, slice_get-get_or)

rising_cons : (n : ℕ) (ws : List ℕ) → ((k : ℕ) → k < length ws → n + 1 ≤ get_or ws k 0) → IsStrictlyIncreasing ws → IsStrictlyIncreasing (n ∷ ws)
rising_cons n ws h g = grind arith

pub rising : {A : Type 0} (test : A → Bool) (n : ℕ) (xs : List A) → IsStrictlyIncreasing (numbers_where test n xs)
rising test n [] = λ k h. absurd (omega arith)
rising test n (x ∷ xs) = grind (arith, rising_cons n, low test (n + 1) xs, rising test (n + 1) xs)
