-- Items in the order in which they first stand.
use Rattle.std.proofs.Common.{◌≡◌, ◌≢◌, ◌⊎◌, ◌<◌, ℕ, zero, suc, List, [], ◌∷◌, ◌++◌, length, Some, arith, refl, sym, subst, ◌∙◌, ap, inl, inr}
use Rattle.std.specs.Prelude.{slice_get}
use Rattle.std.proofs.lemmas.Option.{none-some, same_Some, slice_get_within}
use Rattle.rip_plan.proofs.ItemLemmas.{get_left, get_last}
use Rattle.rip_routes.specs.RouteText.{AreFirsts}
use Rattle.rip_routes.proofs.OwnLemmas.{once_more, split_item}

-- ---- there is one list of them

module _ {A : Type 0} where
  abbrev IsIn : List A → A → Type 0
  IsIn xs x = (i : ℕ) × (slice_get xs i ≡ Some x)

  none_of : {S : ℕ → A → Type 0} (x : A) (xs : List A) → AreFirsts S (x ∷ xs) → AreFirsts S [] → ⊥
  none_of {S} x xs h k = let (i, at) = (k.all x).1 ((h.all x).0 (0, refl)) in none-some x at

  -- two items that each stand before the other stand nowhere
  descent : (S : ℕ → A → Type 0) (x y : A) → ((l : ℕ) → S l x → (k : ℕ) × S k y × (k < l)) → ((l : ℕ) → S l y → (k : ℕ) × S k x × (k < l)) → (m l : ℕ) → l < m → S l x → ⊥
  descent S x y to from zero l low stands = absurd (omega (arith, low))
  descent S x y to from (suc m) l low stands =
      let (k, there, less) = to l stands in
      let (j, here, lower) = from k there in
      descent S x y to from m j (omega (arith, low, less, lower)) here

  first_same : {S : ℕ → A → Type 0} (x y : A) (xs ys : List A) → AreFirsts S (x ∷ xs) → AreFirsts S (y ∷ ys) → x ≡ y
  first_same {S} x y xs ys h k = by ((k.all x).1 ((h.all x).0 (0, refl))) ((h.all y).1 ((k.all y).0 (0, refl)))
    where
      by : IsIn (y ∷ ys) x → IsIn (x ∷ xs) y → x ≡ y
      by (zero, at) there = sym (same_Some _ _ at)
      by (suc i, at) (zero, there) = same_Some _ _ there
      by (suc i, at) (suc j, there) =
          let (l, stands) = (h.all x).0 (0, refl) in
          absurd (descent S x y (λ m s. k.order 0 (suc i) m y x (omega arith) refl at s) (λ m s. h.order 0 (suc j) m x y (omega arith) refl there s) (suc l) l (omega arith) stands)

  -- what stands besides the first
  tail_firsts : {S : ℕ → A → Type 0} (x : A) (xs : List A) → AreFirsts S (x ∷ xs) → AreFirsts (λ k z. S k z × (z ≢ x)) xs
  tail_firsts {S} x xs h = record {
    once = λ i j z a b. off i j (h.once (suc i) (suc j) z a b);
    all = λ z. (
      λ is. let (i, at) = is in let (k, s) = (h.all z).0 (suc i, at) in (k, (s, other z i at)),
      λ stands. let (k, (s, differ)) = stands in there z differ ((h.all z).1 (k, s)),
    );
    order = λ i j l y z less a b stands. let (k, s, lower) = h.order (suc i) (suc j) l y z (omega (arith, less)) a b stands.0 in (k, (s, other y i a), lower);
  }
    where
      off : (i j : ℕ) → suc i ≡ suc j → i ≡ j
      off i j e = omega (arith, e)

      other : (z : A) (i : ℕ) → slice_get xs i ≡ Some z → z ≢ x
      other z i at e = absurd (omega (arith, h.once 0 (suc i) x refl (subst (λ (w : A). slice_get xs i ≡ Some w) e at)))

      there : (z : A) → z ≢ x → IsIn (x ∷ xs) z → IsIn xs z
      there z differ (zero, at) = absurd (differ (sym (same_Some _ _ at)))
      there z differ (suc i, at) = (i, at)

  pub one_firsts : {S : ℕ → A → Type 0} (xs ys : List A) → AreFirsts S xs → AreFirsts S ys → xs ≡ ys
  one_firsts [] [] h k = refl
  one_firsts [] (y ∷ ys) h k = absurd (none_of y ys k h)
  one_firsts (x ∷ xs) [] h k = absurd (none_of x xs h k)
  one_firsts {S} (x ∷ xs) (y ∷ ys) h k =
      let same = first_same x y xs ys h k in
      let k2 : AreFirsts S (x ∷ ys) = subst (λ (w : A). AreFirsts S (w ∷ ys)) (sym same) k in
      ap (λ (w : A). w ∷ xs) same ∙ ap (λ zs. y ∷ zs) (one_firsts {S = λ m z. S m z × (z ≢ x)} xs ys (tail_firsts x xs h) (tail_firsts x ys k2))

  -- ---- one more place

  -- nothing stands
  pub no_firsts : {S : ℕ → A → Type 0} → ((k : ℕ) (x : A) → S k x → ⊥) → AreFirsts S []
  no_firsts none = record {
    once = λ i j x a b. absurd (none-some x a);
    all = λ x. (λ is. absurd (none-some x is.1), λ stands. absurd (none stands.0 x stands.1));
    order = λ i j l x y less a b s. absurd (none-some x a);
  }

  pub same_firsts : {S T : ℕ → A → Type 0} (xs : List A) → ((k : ℕ) (x : A) → S k x → T k x) → ((k : ℕ) (x : A) → T k x → S k x) → AreFirsts S xs → AreFirsts T xs
  same_firsts xs to from h = record {
    once = h.once;
    all = λ x. (λ is. let (k, s) = (h.all x).0 is in (k, to k x s), λ stands. (h.all x).1 (stands.0, from stands.0 x stands.1));
    order = λ i j l x y less a b t. let (k, s, lower) = h.order i j l x y less a b (from l y t) in (k, to k x s, lower);
  }

  module _ {S T : ℕ → A → Type 0} (m : ℕ) (z : A) (xs : List A) (below : (k : ℕ) (x : A) → S k x → k < m) (to : (k : ℕ) (x : A) → S k x → T k x)
      (from : (k : ℕ) (x : A) → T k x → S k x ⊎ ((k ≡ m) × (x ≡ z))) (here : T m z) (h : AreFirsts S xs) where
    in_low : (x : A) → IsIn xs x → (k : ℕ) × T k x × (k < m)
    in_low x is = let (k, s) = (h.all x).0 is in (k, to k x s, below k x s)

    old_order : (i j l : ℕ) (x y : A) → i < j → slice_get xs i ≡ Some x → slice_get xs j ≡ Some y → T l y → (k : ℕ) × T k x × (k < l)
    old_order i j l x y less a b t =
        elim (from l y t) [
          | inl s ↦ let (k, there, lower) = h.order i j l x y less a b s in (k, to k x there, lower)
          | inr e ↦ let (k, there, lower) = in_low x (i, a) in (k, there, omega (arith, lower, e.0))
        ]

    -- an item that stood before
    pub again_firsts : (i : ℕ) → slice_get xs i ≡ Some z → AreFirsts T xs
    again_firsts i at = record {
      once = h.once;
      all = λ x. (
        λ is. let (k, s) = (h.all x).0 is in (k, to k x s),
        λ stands. elim (from stands.0 x stands.1) [ inl s ↦ (h.all x).1 (stands.0, s) | inr e ↦ (i, at ∙ ap (λ (w : A). Some w) (sym e.1)) ],
      );
      order = old_order;
    }

    -- a new one comes last
    pub more_firsts : ((i : ℕ) → slice_get xs i ≡ Some z → ⊥) → AreFirsts T (xs ++ z ∷ [])
    more_firsts none = record {
      once = once_more xs z h.once none;
      all = λ x. (
        λ is. elim (split_item xs z x is.0 is.1) [ inl at ↦ let (k, s) = (h.all x).0 (is.0, at) in (k, to k x s) | inr e ↦ (m, subst (T m) (sym e.1) here) ],
        λ stands.
            elim (from stands.0 x stands.1) [
              | inl s ↦ let (i, at) = (h.all x).1 (stands.0, s) in (i, get_left xs (z ∷ []) i x at)
              | inr e ↦ (length xs, get_last xs z ∙ ap (λ (w : A). Some w) (sym e.1))
            ],
      );
      order = λ i j l x y less a b t. ordered i j l x y less (split_item xs z x i a) (split_item xs z y j b) t;
    }
      where
        ordered : (i j l : ℕ) (x y : A) → i < j → (slice_get xs i ≡ Some x) ⊎ ((i ≡ length xs) × (x ≡ z)) → (slice_get xs j ≡ Some y) ⊎ ((j ≡ length xs) × (y ≡ z)) → T l y
            → (k : ℕ) × T k x × (k < l)
        ordered i j l x y less (inl a) (inl b) t = old_order i j l x y less a b t
        ordered i j l x y less (inr a) (inl b) t = absurd (omega (arith, less, a.0, slice_get_within xs j y b))
        ordered i j l x y less (inr a) (inr b) t = absurd (omega (arith, less, a.0, b.0))
        ordered i j l x y less (inl a) (inr b) t =
            elim (from l y t) [
              | inl s ↦ let (k, at) = (h.all y).1 (l, s) in absurd (none k (at ∙ ap (λ (w : A). Some w) b.1))
              | inr e ↦ let (k, there, lower) = in_low x (i, a) in (k, there, omega (arith, lower, e.0))
            ]
