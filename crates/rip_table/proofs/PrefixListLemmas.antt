-- Prefixes in a list.
use Rattle.std.proofs.Common.{◌≡◌, ℕ, zero, suc, ◌+◌, ◌≤◌, take, drop, length, arith, Bool, true, ◌||◌, List, [], ◌∷◌, ◌++◌, Some, refl, ap, ◌∙◌}
use Rattle.std.specs.List.{slice_get}
use Rattle.std.proofs.lemmas.List.Folds.{list_any-append}
use Rattle.rip_plan.proofs.NumberingLemmas.{same_self}
use Rattle.rip_wire.specs.Prefix.{Block}
use Rattle.rip_plan.specs.Passes.{same_prefix}
use Rattle.rip_table.proofs.TruthLemmas.{or-true}
use Rattle.rip_table.specs.State.{is_among}

-- an item of a list is among it
pub is_among-item : (ps : List Block) (k : ℕ) (p : Block) → slice_get ps k ≡ Some p → is_among p ps ≡ true
is_among-item [] zero p h = absurd (cc)
is_among-item [] (suc k) p h = absurd (cc)
is_among-item (q ∷ ps) zero p h = let same : q ≡ p = cc in ap (λ (b : Bool). b || is_among p ps) (ap (same_prefix p) same ∙ same_self p)
is_among-item (q ∷ ps) (suc k) p h = ap (λ (b : Bool). same_prefix p q || b) (is_among-item ps k p h) ∙ or-true (same_prefix p q)

pub is_among-append : (p : Block) (ps qs : List Block) → is_among p (ps ++ qs) ≡ (is_among p ps || is_among p qs)
is_among-append p ps qs = list_any-append (same_prefix p) ps qs

-- the items before the next one, and this one
pub take-more : {A : Type 0} (xs : List A) (j : ℕ) (x : A) → slice_get xs j ≡ Some x → take (j + 1) xs ≡ take j xs ++ x ∷ []
take-more [] j x h = absurd (cc h)
take-more {A} (y ∷ xs) zero x h = let same : y ≡ x = cc h in ap (λ (z : A). z ∷ []) same
take-more {A} (y ∷ xs) (suc j) x h =
    let next : suc j + 1 ≡ suc (j + 1) = omega arith in
    ap (λ (k : ℕ). take k (y ∷ xs)) next ∙ ap (λ (l : List A). y ∷ l) (take-more xs j x h)

-- the rest from one on is it and the rest after it
pub drop-more : {A : Type 0} (xs : List A) (j : ℕ) (x : A) → slice_get xs j ≡ Some x → drop j xs ≡ x ∷ drop (j + 1) xs
drop-more [] j x h = absurd (cc h)
drop-more {A} (y ∷ xs) zero x h = let same : y ≡ x = cc h in ap (λ (z : A). z ∷ xs) same
drop-more {A} (y ∷ xs) (suc j) x h =
    let next : suc (j + 1) ≡ suc j + 1 = omega arith in
    drop-more xs j x h ∙ ap (λ (k : ℕ). x ∷ drop k (y ∷ xs)) next

-- all items
pub take-end : {A : Type 0} (xs : List A) (n : ℕ) → length xs ≤ n → take n xs ≡ xs
take-end [] zero h = refl
take-end [] (suc n) h = refl
take-end (x ∷ xs) zero h = absurd (omega (arith, h))
take-end {A} (x ∷ xs) (suc n) h = ap (λ (l : List A). x ∷ l) (take-end xs n (omega (arith, h)))

-- no more items
pub drop-end : {A : Type 0} (xs : List A) (n : ℕ) → length xs ≤ n → drop n xs ≡ []
drop-end [] zero h = refl
drop-end [] (suc n) h = refl
drop-end (x ∷ xs) zero h = absurd (omega (arith, h))
drop-end (x ∷ xs) (suc n) h = drop-end xs n (omega (arith, h))
