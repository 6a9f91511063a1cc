-- What is found first in a list, an item that passes or one that clashes with an earlier one, and how a loop finds it,
-- from the first item to the last or from the last to the first.
use Rattle.std.proofs.Common.{◌≡◌, ℕ, suc, inl, inr, ◌+◌, ◌-◌, ◌<◌, List, [], ◌∷◌, ◌++◌, Bool, true, false, cond, not, ◌&&◌, length, map, take, drop, get_or, Option, Some, refl, sym, ap, ◌∙◌, arith, zero, length-append, append_assoc, None, subst, ◌≤◌}
use Rattle.std.proofs.lemmas.List.Elements.{filter-append}
use Rattle.std.specs.Prelude.{find, option_map, filter, slice_get}
use Rattle.std.specs.List.{list_any, position_from}
use Rattle.std.proofs.lemmas.Bool.{cases_Bool, not-false, not-true, cases_lt}
use Rattle.std.proofs.lemmas.List.{drop_more, map-append, take_more, append-nil}
use Rattle.std.proofs.lemmas.List.Folds.{list_any_more}
use Rattle.std.proofs.lemmas.Option.{none-some, same_Some, slice_get_within}
use Rattle.rip_plan.specs.Passes.{do_meet, first_clash, first_bare, is_bare, touching}
use Rattle.rip_plan.specs.declared.draft.DraftPlace.{DraftPlace}
use Rattle.rip_plan.specs.declared.draft.DraftInterface.{DraftInterface}
use Rattle.rip_plan.proofs.ItemLemmas.{any_finds, get_left, get_past, get_split, none_at}

-- no item that is so, or the first
abbrev pub FirstSo : {A : Type 0} → (ℕ → A → Type 0) → List A → Option A → Type 0
FirstSo {A} Is xs None = (k : ℕ) (x : A) → slice_get xs k ≡ Some x → Is k x → ⊥
FirstSo {A} Is xs (Some x) = (k : ℕ) × (slice_get xs k ≡ Some x) × Is k x × ((m : ℕ) (z : A) → m < k → slice_get xs m ≡ Some z → Is m z → ⊥)

-- ---- an item that passes

-- item k passes
abbrev pub Passes : {A : Type 0} → (A → Bool) → ℕ → A → Type 0
Passes test k x = test x ≡ true

pub first_passing : {A : Type 0} (test : A → Bool) (xs : List A) → FirstSo (Passes test) xs (find test xs)
first_passing test [] = λ k x at e. none-some x at
first_passing {A} test (y ∷ ys) = by_test (test y) refl (find test ys) (first_passing test ys)
  where
    by_test : (b : Bool) → test y ≡ b → (r : Option A) → FirstSo (Passes test) ys r → FirstSo (Passes test) (y ∷ ys) (cond b (Some y) r)
    by_test true e r later = (zero, refl, e, λ m z less at passes. absurd (omega arith))
    by_test false e None later = λ k x at passes. grind arith
    by_test false e (Some z) later = (suc later.0, later.1, later.2, λ m x less at passes. grind arith)

pub find_gives : {A : Type 0} (test : A → Bool) (xs : List A) (x : A) → find test xs ≡ Some x → (k : ℕ) × (slice_get xs k ≡ Some x) × (test x ≡ true)
find_gives test xs x h = let first = subst (FirstSo (Passes test) xs) h (first_passing test xs) in (first.0, first.1, first.2)

pub find_none : {A : Type 0} (test : A → Bool) (xs : List A) (k : ℕ) (x : A) → slice_get xs k ≡ Some x → test x ≡ true → find test xs ≡ None → ⊥
find_none test xs k x at passes h = subst (FirstSo (Passes test) xs) h (first_passing test xs) k x at passes

-- ---- an item that clashes with an earlier one

-- item k clashes with an earlier one
abbrev pub Clashes : {A : Type 0} → (A → A → Bool) → List A → ℕ → A → Type 0
Clashes {A} clash xs k x = (j : ℕ) × (y : A) × (j < k) × (slice_get xs j ≡ Some y) × (clash y x ≡ true)

-- none of the first n items does
abbrev AreApart : {A : Type 0} → (A → A → Bool) → List A → ℕ → Type 0
AreApart {A} clash xs n = (m : ℕ) (z : A) → m < n → slice_get xs m ≡ Some z → Clashes clash xs m z → ⊥

clash_from : {A : Type 0} (clash : A → A → Bool) (earlier xs whole : List A) → whole ≡ earlier ++ xs → AreApart clash whole (length earlier)
    → FirstSo (Clashes clash whole) whole (first_clash clash earlier xs)
clash_from clash earlier [] whole split apart =
    λ k x at. apart k x (omega (arith, slice_get_within whole k x at, ap length (split ∙ append-nil earlier))) at
clash_from {A} clash earlier (x ∷ xs) whole split apart =
    by_test (list_any (λ y. clash y x) earlier) refl (λ more. clash_from clash (earlier ++ x ∷ []) xs whole (split ∙ sym (append_assoc earlier (x ∷ []) xs)) more)
  where
    here : slice_get whole (length earlier) ≡ Some x
    here = rw split (get_past earlier (x ∷ xs) 0 (length earlier) (omega arith))

    by_test : (b : Bool) → list_any (λ y. clash y x) earlier ≡ b
        → (AreApart clash whole (length (earlier ++ x ∷ [])) → FirstSo (Clashes clash whole) whole (first_clash clash (earlier ++ x ∷ []) xs))
        → FirstSo (Clashes clash whole) whole (cond b (Some x) (first_clash clash (earlier ++ x ∷ []) xs))
    by_test true e later =
        let (j, y, there, test) = any_finds (λ y. clash y x) earlier e in
        (length earlier, here, (j, y, slice_get_within earlier j y there, rw split (get_left earlier (x ∷ xs) j y there), test), apart)
    by_test false e later =
        later
        (λ m z less at (j, y, before, there, meets).
        let count = length-append earlier (x ∷ []) in
        elim (cases_lt m (length earlier)) [
          | inl old ↦ apart m z old at (j, y, before, there, meets)
          | inr ge ↦
              let last : m ≡ length earlier = omega arith in
              let same : x ≡ z = same_Some x z (sym here ∙ ap (slice_get whole) (sym last) ∙ at) in
              grind (arith, get_split earlier (x ∷ xs) j y, none_at (λ y. clash y x) earlier j y e)
        ])

pub first_clashing : {A : Type 0} (clash : A → A → Bool) (xs : List A) → FirstSo (Clashes clash xs) xs (first_clash clash [] xs)
first_clashing clash xs = clash_from clash [] xs xs refl (λ m z less. absurd (omega arith))

-- what is left of a list from an item on
pub rest_from : {A : Type 0} (xs : List A) (k : ℕ) (x : A) → k < length xs → x ≡ get_or xs k x → drop k xs ≡ x ∷ drop (k + 1) xs
rest_from xs k x lt is = drop_more xs k x lt ∙ ap (λ y. y ∷ drop (k + 1) xs) (sym is)

-- the same at the item before i, where a loop goes from the last item to the first
pub back_at : {A : Type 0} (xs : List A) (i : ℕ) (d : A) → 0 < i → i ≤ length xs → drop (i - 1) xs ≡ get_or xs (i - 1) d ∷ drop i xs
back_at xs i d some within = let back : i - 1 + 1 ≡ i = omega arith in drop_more xs (i - 1) d (omega arith) ∙ rw back refl

pub back_is : {A : Type 0} (xs : List A) (i : ℕ) (x : A) → 0 < i → i ≤ length xs → x ≡ get_or xs (i - 1) x → drop (i - 1) xs ≡ x ∷ drop i xs
back_is {A} xs i x some within is = back_at xs i x some within ∙ ap (λ (y : A). y ∷ drop i xs) (sym is)

pub first_back : {A : Type 0} (test : A → Bool) (xs : List A) (i : ℕ) (x : A) → 0 < i → i ≤ length xs → x ≡ get_or xs (i - 1) x
    → cond (test x) (Some (i - 1)) (position_from test i (drop i xs)) ≡ position_from test (i - 1) (drop (i - 1) xs)
first_back test xs i x some within is = let back : i - 1 + 1 ≡ i = omega arith in rw (back_is xs i x some within is, back) refl

module _ {A : Type 0} (clash : A → A → Bool) (xs : List A) (k : ℕ) (x : A) (lt : k < length xs) (is : x ≡ get_or xs k x) where
  -- an item that clashes is the first
  pub clash_here : (total : Option A) → list_any (λ y. clash y x) (take k xs) ≡ true → first_clash clash (take k xs) (drop k xs) ≡ total → Some x ≡ total
  clash_here total found so_far = let here : first_clash clash (take k xs) (drop k xs) ≡ Some x = rw (rest_from xs k x lt is, found) refl in sym here ∙ so_far

  -- after one that does not, the search goes on
  pub clash_later : (total : Option A) → list_any (λ y. clash y x) (take k xs) ≡ false → first_clash clash (take k xs) (drop k xs) ≡ total →
      first_clash clash (take (k + 1) xs) (drop (k + 1) xs) ≡ total
  clash_later total none so_far = grind (arith, take_more, rest_from)

-- the items seen by a function
any_seen : {A B : Type 0} (see : A → B) (test : B → Bool) (xs : List A) → list_any test (map see xs) ≡ list_any (λ x. test (see x)) xs
any_seen see test [] = refl
any_seen see test (x ∷ xs) = rw (any_seen see test xs) refl

pub first_clash-map : {A B : Type 0} (see : A → B) (clash : B → B → Bool) (earlier xs : List A) →
    option_map see (first_clash (λ x y. clash (see x) (see y)) earlier xs) ≡ first_clash clash (map see earlier) (map see xs)
first_clash-map see clash earlier [] = refl
first_clash-map see clash earlier (x ∷ xs) = grind (arith, any_seen see, map-append, first_clash-map see clash (earlier ++ x ∷ []) xs)

-- the places that meet, with the routers that they touch
pub meeting_seen : (interfaces : List DraftInterface) (places : List DraftPlace) →
    option_map (λ p. p.at) (first_clash (λ p q. do_meet (touching interfaces p) (touching interfaces q)) [] places) ≡ option_map (λ t. t.place.at)
    (first_clash do_meet [] (map (touching interfaces) places))
meeting_seen interfaces places = rw (← first_clash-map (touching interfaces) do_meet [] places) (grind arith)

-- the items that pass, seen by a function
pub any_listed : {A B : Type 0} (see : A → B) (test : A → Bool) (p : B → Bool) (xs : List A) → list_any p (map see (filter test xs)) ≡ list_any (λ x. test x && p (see x)) xs
any_listed see test p [] = refl
any_listed see test p (x ∷ xs) = elim (cases_Bool (test x)) [ inl e ↦ rw (e, any_listed see test p xs) refl | inr e ↦ rw (e, any_listed see test p xs) refl ]

pub listed_push : {A B : Type 0} (see : A → B) (test : A → Bool) (xs : List A) (x : A) →
    map see (filter test (xs ++ x ∷ [])) ≡ cond (test x) (map see (filter test xs) ++ see x ∷ []) (map see (filter test xs))
listed_push see test xs x = grind (arith, filter-append test xs (x ∷ []), map-append see, append-nil)

-- a key that a set had already, or that is new
pub not_added : (had is_new : Bool) → is_new ≡ not had → is_new ≡ false → had ≡ true
not_added had is_new h e = not-false had (sym h ∙ e)

pub added : (had is_new : Bool) → is_new ≡ not had → is_new ≡ true → had ≡ false
added had is_new h e = not-true had (sym h ∙ e)

-- one more item that a set was given
pub seen_more : {A : Type 0} (test : A → Bool) (xs : List A) (k : ℕ) (x : A) → k < length xs → x ≡ get_or xs k x → cond (test x) true (list_any test (take k xs)) ≡ list_any test (take (k + 1) xs)
seen_more test xs k x lt is = grind (arith, list_any_more test xs k x lt)

-- ---- the first item that passes

module _ {A : Type 0} (test : A → Bool) (xs : List A) (k : ℕ) (x : A) (lt : k < length xs) (is : x ≡ get_or xs k x) where
  pub found_here : (total : Option A) → test x ≡ true → find test (drop k xs) ≡ total → Some x ≡ total
  found_here total passes so_far = let here : find test (drop k xs) ≡ Some x = rw (rest_from xs k x lt is, passes) refl in sym here ∙ so_far

  pub found_later : (total : Option A) → test x ≡ false → find test (drop k xs) ≡ total → find test (drop (k + 1) xs) ≡ total
  found_later total fails so_far = let here : find test (drop k xs) ≡ find test (drop (k + 1) xs) = rw (rest_from xs k x lt is, fails) refl in sym here ∙ so_far

-- ---- the first router without an interface

pub bare_later : (interfaces : List DraftInterface) (n k : ℕ) (total : Option ℕ) → k < n → is_bare interfaces k ≡ false → first_bare interfaces k (n - k) ≡ total →
    first_bare interfaces (k + 1) (n - (k + 1)) ≡ total
bare_later interfaces n k total lt bare so_far = let left : n - k ≡ suc (n - (k + 1)) = omega arith in rw (left, bare) at so_far
