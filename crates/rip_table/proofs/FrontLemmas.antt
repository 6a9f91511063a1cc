-- A list whose items were mapped, or sifted, one after the other.
use Rattle.std.proofs.Common.{◌≡◌, ℕ, zero, suc, ◌+◌, ◌<◌, ◌≤◌, Bool, true, false, cond, List, [], ◌∷◌, ◌++◌, length, map, filter, set, take, drop, Some, refl, sym, ap, ◌∙◌, arith}
use Rattle.std.specs.List.{remove, slice_get, slice_index_or}
use Rattle.std.proofs.lemmas.Option.{slice_get_read}

-- the list with its first k items mapped
abbrev pub front : {A : Type 0} → ℕ → (A → A) → List A → List A
front zero f xs = xs
front (suc k) f [] = []
front (suc k) f (x ∷ xs) = f x ∷ front k f xs

pub front-length : {A : Type 0} (k : ℕ) (f : A → A) (xs : List A) → length (front k f xs) ≡ length xs
front-length zero f xs = refl
front-length (suc k) f [] = refl
front-length (suc k) f (x ∷ xs) = ap suc (front-length k f xs)

-- an item behind them is as it was
pub front-at : {A : Type 0} (k : ℕ) (f : A → A) (xs : List A) (x : A) → slice_get (front k f xs) k ≡ Some x → slice_get xs k ≡ Some x
front-at zero f xs x h = h
front-at (suc k) f [] x h = h
front-at (suc k) f (y ∷ xs) x h = front-at k f xs x h

front_next : {A : Type 0} (k : ℕ) (f : A → A) (xs : List A) (x : A) → slice_get xs k ≡ Some x → set (front k f xs) k (f x) ≡ front (suc k) f xs
front_next zero f [] x h = absurd (cc h)
front_next zero f (y ∷ xs) x h = let same : y ≡ x = cc h in ap (λ z. f z ∷ xs) (sym same)
front_next (suc k) f [] x h = absurd (cc h)
front_next (suc k) f (y ∷ xs) x h = ap (λ (zs : List _). f y ∷ zs) (front_next k f xs x h)

-- one more
pub front-more : {A : Type 0} (k : ℕ) (f : A → A) (xs : List A) (x : A) → slice_get (front k f xs) k ≡ Some x → set (front k f xs) k (f x) ≡ front (k + 1) f xs
front-more k f xs x h = let next : suc k ≡ k + 1 = omega arith in front_next k f xs x (front-at k f xs x h) ∙ ap (λ (n : ℕ). front n f xs) next

-- the list in which one more was written
pub front-step : {A : Type 0} (k : ℕ) (f : A → A) (xs now : List A) (x y : A) → now ≡ front k f xs → k < length xs → x ≡ slice_index_or now k x → y ≡ f x → set now k y ≡ front (k + 1) f xs
front-step k f xs now x y is lt here made =
    let long : length now ≡ length xs = ap length is ∙ front-length k f xs in
    let at : slice_get now k ≡ Some x = slice_get_read now (length now) k x refl (omega (arith, lt, long)) here in
    ap (set now k) made ∙ ap (λ zs. set zs k (f x)) is ∙ front-more k f xs x (ap (λ zs. slice_get zs k) (sym is) ∙ at)

-- all of them
pub front-all : {A : Type 0} (k : ℕ) (f : A → A) (xs : List A) → length xs ≤ k → front k f xs ≡ map f xs
front-all zero f [] h = refl
front-all zero f (x ∷ xs) h = absurd (omega (arith, h))
front-all (suc k) f [] h = refl
front-all (suc k) f (x ∷ xs) h = ap (λ (zs : List _). f x ∷ zs) (front-all k f xs (omega (arith, h)))

-- ---- from the end

-- the list of whose items from number k on those are left that are to be kept
abbrev pub back : {A : Type 0} → ℕ → (A → Bool) → List A → List A
back k keep xs = take k xs ++ filter keep (drop k xs)

pub back-end : {A : Type 0} (k : ℕ) (keep : A → Bool) (xs : List A) → length xs ≤ k → back k keep xs ≡ xs
back-end zero keep [] h = refl
back-end zero keep (x ∷ xs) h = absurd (omega (arith, h))
back-end (suc k) keep [] h = refl
back-end (suc k) keep (x ∷ xs) h = ap (λ (zs : List _). x ∷ zs) (back-end k keep xs (omega (arith, h)))

-- an item before them is as it was
pub back-at : {A : Type 0} (k : ℕ) (keep : A → Bool) (xs : List A) (x : A) → slice_get (back (suc k) keep xs) k ≡ Some x → slice_get xs k ≡ Some x
back-at zero keep [] x h = h
back-at zero keep (y ∷ xs) x h = h
back-at (suc k) keep [] x h = h
back-at (suc k) keep (y ∷ xs) x h = back-at k keep xs x h

-- one more that is kept
pub back-kept : {A : Type 0} (k : ℕ) (keep : A → Bool) (xs : List A) (x : A) → slice_get xs k ≡ Some x → keep x ≡ true → back (suc k) keep xs ≡ back k keep xs
back-kept k keep [] x h t = absurd (cc h)
back-kept zero keep (y ∷ xs) x h t =
    let same : y ≡ x = cc h in
    sym (ap (λ (b : Bool). cond b (y ∷ filter keep xs) (filter keep xs)) (ap keep same ∙ t))
back-kept (suc k) keep (y ∷ xs) x h t = ap (λ (zs : List _). y ∷ zs) (back-kept k keep xs x h t)

-- one more that is not
pub back-gone : {A : Type 0} (k : ℕ) (keep : A → Bool) (xs : List A) (x : A) → slice_get xs k ≡ Some x → keep x ≡ false → remove (back (suc k) keep xs) k ≡ back k keep xs
back-gone k keep [] x h t = absurd (cc h)
back-gone zero keep (y ∷ xs) x h t =
    let same : y ≡ x = cc h in
    sym (ap (λ (b : Bool). cond b (y ∷ filter keep xs) (filter keep xs)) (ap keep same ∙ t))
back-gone (suc k) keep (y ∷ xs) x h t = ap (λ (zs : List _). y ∷ zs) (back-gone k keep xs x h t)
