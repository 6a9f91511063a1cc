-- A table that is made of another by what was said, one after the other.
use Rattle.std.proofs.Common.{inl, inr, ◌⊎◌, ◌≡◌, ℕ, zero, suc, ◌+◌, ◌<◌, Bool, true, false, ◌||◌, List, [], ◌∷◌, ◌++◌, length, Some, refl, sym, ap, ◌∙◌, arith, subst, append_assoc, append-nil}
use Rattle.std.specs.List.{slice_get}
use Rattle.std.proofs.lemmas.Option.{slice_get_within}
use Rattle.rip_wire.specs.Prefix.{Block}
use Rattle.rip_table.specs.State.{State, is_among}
use Rattle.rip_table.proofs.PrefixListLemmas.{is_among-append}
use Rattle.rip_table.proofs.NumberLemmas.{true-false}

-- x says metric m of prefix p at interface i; and these interfaces are heard
pub record Makes {X : Type 0} (says : X → ℕ → Block → ℕ → Type 0) (before : X → X → Type 0) (hears : ℕ → Type 0) (s t : State) : Type 0 where
  pub interfaces : t.interfaces ≡ s.interfaces
  pub shown : (i : ℕ) (p : Block) (m : ℕ) → t.shows i p ≡ Some m → (s.shows i p ≡ Some m) ⊎ ((x : X) × says x i p m)
  pub kept : (i : ℕ) (p : Block) (m : ℕ) → s.shows i p ≡ Some m → t.shows i p ≡ Some m
  pub told : (x : X) (i : ℕ) (p : Block) (m : ℕ) → says x i p m → t.shows i p ≡ Some m
  pub heard : (i : ℕ) → t.heard i ≡ true → (s.heard i ≡ true) ⊎ hears i
  pub still : (i : ℕ) → s.heard i ≡ true → t.heard i ≡ true
  pub marked : (i : ℕ) → hears i → t.heard i ≡ true
  pub others : List Block
  pub prefixes : t.prefixes ≡ s.prefixes ++ others
  pub fresh : (k : ℕ) (p : Block) → slice_get others k ≡ Some p → is_among p s.prefixes ≡ false
  pub named : (k : ℕ) (p : Block) → slice_get others k ≡ Some p → (x : X) × (i m : ℕ) × says x i p m
  pub listed : (x : X) (i : ℕ) (p : Block) (m : ℕ) → says x i p m → is_among p t.prefixes ≡ true
  pub order : (a b : ℕ) (p q : Block) → a < b → slice_get others a ≡ Some p → slice_get others b ≡ Some q
      → (x : X) (i m : ℕ) → says x i q m → (y : X) × ((j l : ℕ) × says y j p l) × before y x

-- an item of two lists is one of the first or of the second
pub either_list : {A : Type 0} (xs ys : List A) (k : ℕ) (x : A) → slice_get (xs ++ ys) k ≡ Some x → (slice_get xs k ≡ Some x) ⊎ ((j : ℕ) × (k ≡ length xs + j) × (slice_get ys j ≡ Some x))
either_list [] ys k x h = inr (k, omega arith, h)
either_list (y ∷ xs) ys zero x h = inl h
either_list (y ∷ xs) ys (suc k) x h = elim (either_list xs ys k x h) [
  | inl e ↦ inl e
  | inr e ↦ inr (e.0, omega (arith, e.1), e.2)
]

-- an item of the first of two lists is at its number there
pub front_at : (ps qs : List Block) (k : ℕ) (p : Block) → slice_get ps k ≡ Some p → slice_get (ps ++ qs) k ≡ Some p
front_at [] qs k p h = absurd (cc h)
front_at (x ∷ ps) qs zero p h = h
front_at (x ∷ ps) qs (suc k) p h = front_at ps qs k p h

first_among : (p : Block) (ps qs : List Block) → is_among p ps ≡ true → is_among p (ps ++ qs) ≡ true
first_among p ps qs h = is_among-append p ps qs ∙ ap (λ (b : Bool). b || is_among p qs) h

none_among : (p : Block) (ps qs : List Block) → is_among p (ps ++ qs) ≡ false → is_among p ps ≡ false
none_among p ps qs h = by (is_among p ps) (is_among p qs) (sym (is_among-append p ps qs) ∙ h)
  where
    by : (a b : Bool) → (a || b) ≡ false → a ≡ false
    by true b h = h
    by false b h = refl

-- where nothing is said, the table is as it was
pub makes_nothing : {X : Type 0} (says : X → ℕ → Block → ℕ → Type 0) (before : X → X → Type 0) (hears : ℕ → Type 0) (s : State)
    → ((x : X) (i : ℕ) (p : Block) (m : ℕ) → says x i p m → ⊥) → ((i : ℕ) → hears i → ⊥) → Makes says before hears s s
makes_nothing says before hears s silent none = record {
  interfaces = refl;
  shown = λ i p m h. inl h;
  kept = λ i p m h. h;
  told = λ x i p m h. absurd (silent x i p m h);
  heard = λ i h. inl h;
  still = λ i h. h;
  marked = λ i h. absurd (none i h);
  others = [];
  prefixes = sym (append-nil s.prefixes);
  fresh = λ k p h. absurd (cc h);
  named = λ k p h. absurd (cc h);
  listed = λ x i p m h. absurd (silent x i p m h);
  order = λ a b p q lt h e x i m k. absurd (silent x i q m k);
}

-- what is said first and what is said then, as one
pub record Joining {X Y Z : Type 0}
    (first : X → ℕ → Block → ℕ → Type 0) (then : Y → ℕ → Block → ℕ → Type 0) (all : Z → ℕ → Block → ℕ → Type 0)
    (before_first : X → X → Type 0) (before_then : Y → Y → Type 0) (before : Z → Z → Type 0)
    (heard_first heard_then heard_all : ℕ → Type 0) : Type 0 where
  pub at_first : X → Z
  pub at_then : Y → Z
  pub of_first : (x : X) (i : ℕ) (p : Block) (m : ℕ) → first x i p m → all (at_first x) i p m
  pub of_then : (y : Y) (i : ℕ) (p : Block) (m : ℕ) → then y i p m → all (at_then y) i p m
  pub split : (z : Z) (i : ℕ) (p : Block) (m : ℕ) → all z i p m → ((x : X) × (at_first x ≡ z) × first x i p m) ⊎ ((y : Y) × (at_then y ≡ z) × then y i p m)
  pub both_first : (x y : X) → before_first x y → before (at_first x) (at_first y)
  pub both_then : (x y : Y) → before_then x y → before (at_then x) (at_then y)
  pub one_each : (x : X) (y : Y) → before (at_first x) (at_then y)
  pub heard_of_first : (i : ℕ) → heard_first i → heard_all i
  pub heard_of_then : (i : ℕ) → heard_then i → heard_all i
  pub heard_split : (i : ℕ) → heard_all i → heard_first i ⊎ heard_then i

module _ {X Y Z : Type 0}
    (first : X → ℕ → Block → ℕ → Type 0) (then : Y → ℕ → Block → ℕ → Type 0) (all : Z → ℕ → Block → ℕ → Type 0)
    (before_first : X → X → Type 0) (before_then : Y → Y → Type 0) (before : Z → Z → Type 0)
    (heard_first heard_then heard_all : ℕ → Type 0)
    (join : Joining first then all before_first before_then before heard_first heard_then heard_all)
    (s t u : State) (h : Makes first before_first heard_first s t) (k : Makes then before_then heard_then t u) where
  abbrev others : List Block
  others = h.others ++ k.others

  shown : (i : ℕ) (p : Block) (m : ℕ) → u.shows i p ≡ Some m → (s.shows i p ≡ Some m) ⊎ ((z : Z) × all z i p m)
  shown i p m e = elim (k.shown i p m e) [
    | inl d ↦ elim (h.shown i p m d) [ inl c ↦ inl c | inr x ↦ inr (join.at_first x.0, join.of_first x.0 i p m x.1) ]
    | inr y ↦ inr (join.at_then y.0, join.of_then y.0 i p m y.1)
  ]

  told : (z : Z) (i : ℕ) (p : Block) (m : ℕ) → all z i p m → u.shows i p ≡ Some m
  told z i p m e = elim (join.split z i p m e) [
    | inl x ↦ k.kept i p m (h.told x.0 i p m x.2)
    | inr y ↦ k.told y.0 i p m y.2
  ]

  heard : (i : ℕ) → u.heard i ≡ true → (s.heard i ≡ true) ⊎ heard_all i
  heard i e = elim (k.heard i e) [
    | inl d ↦ elim (h.heard i d) [ inl c ↦ inl c | inr x ↦ inr (join.heard_of_first i x) ]
    | inr y ↦ inr (join.heard_of_then i y)
  ]

  marked : (i : ℕ) → heard_all i → u.heard i ≡ true
  marked i e = elim (join.heard_split i e) [
    | inl x ↦ k.still i (h.marked i x)
    | inr y ↦ k.marked i y
  ]

  -- an item of the later list was not there
  later_fresh : (b : ℕ) (p : Block) → slice_get k.others b ≡ Some p → is_among p s.prefixes ≡ false
  later_fresh b p e = none_among p s.prefixes h.others (ap (is_among p) (sym h.prefixes) ∙ k.fresh b p e)

  fresh : (a : ℕ) (p : Block) → slice_get others a ≡ Some p → is_among p s.prefixes ≡ false
  fresh a p e = elim (either_list h.others k.others a p e) [
    | inl d ↦ h.fresh a p d
    | inr d ↦ later_fresh d.0 p d.2
  ]

  named : (a : ℕ) (p : Block) → slice_get others a ≡ Some p → (z : Z) × (i m : ℕ) × all z i p m
  named a p e = elim (either_list h.others k.others a p e) [
    | inl d ↦ let x = h.named a p d in (join.at_first x.0, x.1, x.2, join.of_first x.0 x.1 p x.2 x.3)
    | inr d ↦ let y = k.named d.0 p d.2 in (join.at_then y.0, y.1, y.2, join.of_then y.0 y.1 p y.2 y.3)
  ]

  listed : (z : Z) (i : ℕ) (p : Block) (m : ℕ) → all z i p m → is_among p u.prefixes ≡ true
  listed z i p m e = elim (join.split z i p m e) [
    | inl x ↦ ap (is_among p) k.prefixes ∙ first_among p t.prefixes k.others (h.listed x.0 i p m x.2)
    | inr y ↦ k.listed y.0 i p m y.2
  ]

  abbrev Earlier : Block → Z → Type 0
  Earlier p z = (y : Z) × ((j l : ℕ) × all y j p l) × before y z

  -- what is said first comes before what is said then
  first_then : (a : ℕ) (p : Block) (y : Y) (z : Z) → slice_get h.others a ≡ Some p → join.at_then y ≡ z → Earlier p z
  first_then a p y z e at =
      let x = h.named a p e in
      subst (λ (w : Z). Earlier p w) at (join.at_first x.0, (x.1, x.2, join.of_first x.0 x.1 p x.2 x.3), join.one_each x.0 y)

  within_first : (a b : ℕ) (p q : Block) → a < b → slice_get h.others a ≡ Some p → slice_get h.others b ≡ Some q → (z : Z) (i m : ℕ) → all z i q m → Earlier p z
  within_first a b p q lt e d z i m says = elim (join.split z i q m says) [
    | inl x ↦
        let y = h.order a b p q lt e d x.0 i m x.2 in
        let named = y.1 in
        subst (λ (w : Z). Earlier p w) x.1 (join.at_first y.0, (named.0, named.1, join.of_first y.0 named.0 p named.1 named.2), join.both_first y.0 x.0 y.2)
    | inr y ↦ first_then a p y.0 z e y.1
  ]

  -- a prefix of the later list was not named first
  not_first : (b : ℕ) (q : Block) (x : X) (i m : ℕ) {A : Type 0} → slice_get k.others b ≡ Some q → first x i q m → A
  not_first b q x i m e says = true-false (is_among q t.prefixes) (h.listed x i q m says) (k.fresh b q e)

  first_later : (a b : ℕ) (p q : Block) → slice_get h.others a ≡ Some p → slice_get k.others b ≡ Some q → (z : Z) (i m : ℕ) → all z i q m → Earlier p z
  first_later a b p q e d z i m says = elim (join.split z i q m says) [
    | inl x ↦ not_first b q x.0 i m d x.2
    | inr y ↦ first_then a p y.0 z e y.1
  ]

  within_later : (a b : ℕ) (p q : Block) → a < b → slice_get k.others a ≡ Some p → slice_get k.others b ≡ Some q → (z : Z) (i m : ℕ) → all z i q m → Earlier p z
  within_later a b p q lt e d z i m says = elim (join.split z i q m says) [
    | inl x ↦ not_first b q x.0 i m d x.2
    | inr y ↦
        let x = k.order a b p q lt e d y.0 i m y.2 in
        let named = x.1 in
        subst (λ (w : Z). Earlier p w) y.1 (join.at_then x.0, (named.0, named.1, join.of_then x.0 named.0 p named.1 named.2), join.both_then x.0 y.0 x.2)
  ]

  order : (a b : ℕ) (p q : Block) → a < b → slice_get others a ≡ Some p → slice_get others b ≡ Some q → (z : Z) (i m : ℕ) → all z i q m → Earlier p z
  order a b p q lt e d z i m says = elim (either_list h.others k.others a p e) [
    | inl x ↦ elim (either_list h.others k.others b q d) [
      | inl y ↦ within_first a b p q lt x y z i m says
      | inr y ↦ first_later a y.0 p q x y.2 z i m says
    ]
    | inr x ↦ elim (either_list h.others k.others b q d) [
      | inl y ↦ absurd (omega (arith, lt, x.1, slice_get_within h.others b q y))
      | inr y ↦ within_later x.0 y.0 p q (omega (arith, lt, x.1, y.1)) x.2 y.2 z i m says
    ]
  ]

  pub makes_both : Makes all before heard_all s u
  makes_both = record {
    interfaces = k.interfaces ∙ h.interfaces;
    shown = shown;
    kept = λ i p m e. k.kept i p m (h.kept i p m e);
    told = told;
    heard = heard;
    still = λ i e. k.still i (h.still i e);
    marked = marked;
    others = others;
    prefixes = k.prefixes ∙ ap (λ (ps : List Block). ps ++ k.others) h.prefixes ∙ append_assoc s.prefixes h.others k.others;
    fresh = fresh;
    named = named;
    listed = listed;
    order = order;
  }

-- what is said in other words
pub makes_as : {X : Type 0} (says then : X → ℕ → Block → ℕ → Type 0) (before : X → X → Type 0) (hears heard : ℕ → Type 0) (s t : State)
    → ((x : X) (i : ℕ) (p : Block) (m : ℕ) → says x i p m → then x i p m) → ((x : X) (i : ℕ) (p : Block) (m : ℕ) → then x i p m → says x i p m)
    → ((i : ℕ) → hears i → heard i) → ((i : ℕ) → heard i → hears i) → Makes says before hears s t → Makes then before heard s t
makes_as says then before hears heard s t to from hear back h = record {
  interfaces = h.interfaces;
  shown = λ i p m e. elim (h.shown i p m e) [ inl d ↦ inl d | inr x ↦ inr (x.0, to x.0 i p m x.1) ];
  kept = h.kept;
  told = λ x i p m e. h.told x i p m (from x i p m e);
  heard = λ i e. elim (h.heard i e) [ inl d ↦ inl d | inr x ↦ inr (hear i x) ];
  still = h.still;
  marked = λ i e. h.marked i (back i e);
  others = h.others;
  prefixes = h.prefixes;
  fresh = h.fresh;
  named = λ k p e. let x = h.named k p e in (x.0, x.1, x.2, to x.0 x.1 p x.2 x.3);
  listed = λ x i p m e. h.listed x i p m (from x i p m e);
  order = λ a b p q lt e d x i m says.
      let y = h.order a b p q lt e d x i m (from x i q m says) in
      let named = y.1 in
      (y.0, (named.0, named.1, to y.0 named.0 p named.1 named.2), y.2);
}
