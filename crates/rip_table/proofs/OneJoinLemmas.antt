-- A log makes one table of another: what was shown, who was heard and the prefixes with their order are determined.
use Rattle.std.proofs.Common.{inl, inr, ◌⊎◌, ◌≡◌, ℕ, zero, suc, ◌+◌, ◌<◌, Bool, List, [], ◌∷◌, ◌++◌, length, Option, Some, None, refl, sym, ap, ◌∙◌, arith, subst}
use Rattle.std.specs.List.{slice_get}
use Rattle.std.proofs.lemmas.Option.{slice_get_within}
use mathlib.Core.Path.{fun_ext}
use Rattle.rip_table.proofs.HopLemmas.{decided}
use Rattle.rip_wire.specs.Prefix.{Block}
use Rattle.rip_wire.specs.declared.entry.Entry.{Entry}
use Rattle.rip_plan.specs.Network.{Network}
use Rattle.rip_log.specs.Logs.{Numbered}
use Rattle.rip_table.specs.State.{AreDistinct, IsState, State}
use Rattle.rip_table.specs.LogJoin.{AreTaken, ComesBefore, HasEntry, IsJoin, IsNamed}
use Rattle.rip_table.proofs.MakesLemmas.{either_list, front_at}

abbrev Has : List Block → Block → Type 0
Has ps p = (k : ℕ) × (slice_get ps k ≡ Some p)

abbrev Differ : List Block → Type 0
Differ ps = (j k : ℕ) (p : Block) → slice_get ps j ≡ Some p → slice_get ps k ≡ Some p → j ≡ k

module _ (names : ℕ → ℕ → Block → Type 0) where
  -- before what names a later one there is what names an earlier one
  abbrev pub Ordered : List Block → Type 0
  Ordered ps =
      (a b : ℕ) (p q : Block) → a < b → slice_get ps a ≡ Some p → slice_get ps b ≡ Some q
      → (l m : ℕ) → names l m q → (k j : ℕ) × names k j p × ComesBefore k j l m

  -- before each entry of q there is one of p
  abbrev Follows : Block → Block → Type 0
  Follows p q = (l m : ℕ) → names l m q → (k j : ℕ) × names k j p × ComesBefore k j l m

  abbrev IsEither : Block → Block → ℕ → ℕ → Type 0
  IsEither p q k j = names k j p ⊎ names k j q

  earlier : (p q : Block) → Follows p q → Follows q p → (k j : ℕ) → IsEither p q k j → (l m : ℕ) × IsEither p q l m × ComesBefore l m k j
  earlier p q f g k j (inl h) = let before = g k j h in (before.0, before.1, inr before.2, before.3)
  earlier p q f g k j (inr h) = let before = f k j h in (before.0, before.1, inl before.2, before.3)

  -- no entry of a record is of either
  within : (p q : Block) → Follows p q → Follows q p → (k : ℕ) → ((l m : ℕ) → l < k → IsEither p q l m → ⊥) → (most j : ℕ) → j < most → IsEither p q k j → ⊥
  within p q f g k none zero j lt h = omega (arith, lt)
  within p q f g k none (suc most) j lt h =
      let before = earlier p q f g k j h in
      elim before.3 [
        | inl less ↦ none before.0 before.1 less before.2
        | inr same ↦ within p q f g k none most before.1 (omega (arith, lt, same.1)) (subst (λ (l : ℕ). IsEither p q l before.1) same.0 before.2)
      ]

  below : (p q : Block) → Follows p q → Follows q p → (most k j : ℕ) → k < most → IsEither p q k j → ⊥
  below p q f g zero k j lt h = omega (arith, lt)
  below p q f g (suc most) k j lt h = within p q f g k (λ l m less. below p q f g most l m (omega (arith, lt, less))) (suc j) j (omega arith) h

  first_is : (x y : Block) (xs ys : List Block) → Ordered (x ∷ xs) → Ordered (y ∷ ys) → Has (x ∷ xs) y → Has (y ∷ ys) x → ((k j : ℕ) × names k j x) → x ≡ y
  first_is x y xs ys order_x order_y (zero, h) there named = cc h
  first_is x y xs ys order_x order_y (suc k, h) (zero, e) named = let same : y ≡ x = cc e in sym same
  first_is x y xs ys order_x order_y (suc k, h) (suc l, e) named =
      absurd (below x y (order_x 0 (suc k) x y (omega arith) refl h) (order_y 0 (suc l) y x (omega arith) refl e) (suc named.0) named.0 named.1 (omega arith) (inl named.2))

  rest_has : (x y p : Block) (xs ys : List Block) → x ≡ y → Differ (x ∷ xs) → Has xs p → Has (y ∷ ys) p → Has ys p
  rest_has x y p xs ys same differ h (zero, e) =
      let here : y ≡ p = cc e in
      let clash = differ 0 (suc h.0) p (ap (λ (q : Block). Some q) (same ∙ here)) h.1 in
      absurd (omega (arith, clash))
  rest_has x y p xs ys same differ h (suc k, e) = (k, e)

  -- prefixes that are in order are one list
  same_list : (xs ys : List Block) → Ordered xs → Ordered ys → Differ xs → Differ ys → ((p : Block) → Has xs p → Has ys p) → ((p : Block) → Has ys p → Has xs p)
      → ((p : Block) → Has xs p → (k j : ℕ) × names k j p) → xs ≡ ys
  same_list [] [] order_x order_y differ_x differ_y to from named = refl
  same_list [] (y ∷ ys) order_x order_y differ_x differ_y to from named = let h = from y (0, refl) in absurd (cc h.1)
  same_list (x ∷ xs) [] order_x order_y differ_x differ_y to from named = let h = to x (0, refl) in absurd (cc h.1)
  same_list (x ∷ xs) (y ∷ ys) order_x order_y differ_x differ_y to from named =
      let same = first_is x y xs ys order_x order_y (from y (0, refl)) (to x (0, refl)) (named x (0, refl)) in
      let rest = same_list xs ys
      (λ a b p q lt h e. order_x (suc a) (suc b) p q (omega (arith, lt)) h e)
      (λ a b p q lt h e. order_y (suc a) (suc b) p q (omega (arith, lt)) h e)
      (λ j k p h e. let one = differ_x (suc j) (suc k) p h e in omega (arith, one))
      (λ j k p h e. let one = differ_y (suc j) (suc k) p h e in omega (arith, one))
      (λ p h. rest_has x y p xs ys same differ_x h (to p (suc h.0, h.1)))
      (λ p h. rest_has y x p ys xs (sym same) differ_y h (from p (suc h.0, h.1)))
      (λ p h. named p (suc h.0, h.1)) in
      ap (λ (z : Block). z ∷ xs) same ∙ ap (λ (zs : List Block). y ∷ zs) rest

back_at : (ps qs : List Block) (j : ℕ) (p : Block) → slice_get qs j ≡ Some p → slice_get (ps ++ qs) (length ps + j) ≡ Some p
back_at [] qs j p h = let same : 0 + j ≡ j = omega arith in ap (slice_get qs) same ∙ h
back_at (x ∷ ps) qs j p h = let same : length (x ∷ ps) + j ≡ suc (length ps + j) = omega arith in ap (slice_get (x ∷ (ps ++ qs))) same ∙ back_at ps qs j p h

-- a list of prefixes is this one and others, which are named, each once and in order
pub record Lists (names : ℕ → ℕ → Block → Type 0) (base ps : List Block) : Type 0 where
  pub others : List Block
  pub prefixes : ps ≡ base ++ others
  pub differ : Differ ps
  pub order : Ordered names others
  pub to : (p : Block) → Has ps p → Has base p ⊎ ((k j : ℕ) × names k j p)
  pub from : (p : Block) (k j : ℕ) → names k j p → Has ps p

module _ (names : ℕ → ℕ → Block → Type 0) (base : List Block) where
  differ_in : (ps : List Block) (list : Lists names base ps) → Differ (base ++ list.others)
  differ_in ps list j k p h e =
      list.differ j k p (ap (λ (qs : List Block). slice_get qs j) list.prefixes ∙ h) (ap (λ (qs : List Block). slice_get qs k) list.prefixes ∙ e)

  pub differ_others : (ps : List Block) (list : Lists names base ps) → Differ list.others
  differ_others ps list j k p h e =
      let same = differ_in ps list (length base + j) (length base + k) p (back_at base list.others j p h) (back_at base list.others k p e) in
      omega (arith, same)

  -- a new prefix was not in the list
  new_there : (ps : List Block) (list : Lists names base ps) (p : Block) → Has list.others p → Has base p → ⊥
  new_there ps list p h there =
      let same = differ_in ps list there.0 (length base + h.0) p (front_at base list.others there.0 p there.1) (back_at base list.others h.0 p h.1) in
      omega (arith, same, slice_get_within base there.0 p there.1)

  -- a new prefix is named
  pub new_named : (ps : List Block) (list : Lists names base ps) (p : Block) → Has list.others p → (k j : ℕ) × names k j p
  new_named ps list p h =
      let listed : Has ps p = (length base + h.0, ap (λ (qs : List Block). slice_get qs (length base + h.0)) list.prefixes ∙ back_at base list.others h.0 p h.1) in
      elim (list.to p listed) [
        | inl there ↦ absurd (new_there ps list p h there)
        | inr named ↦ named
      ]

  new_both : (ps qs : List Block) (first : Lists names base ps) (second : Lists names base qs) (p : Block) → Has first.others p → Has second.others p
  new_both ps qs first second p h =
      let named = new_named ps first p h in
      let listed = second.from p named.0 named.1 named.2 in
      elim (either_list base second.others listed.0 p (ap (λ (rs : List Block). slice_get rs listed.0) (sym second.prefixes) ∙ listed.1)) [
        | inl there ↦ absurd (new_there ps first p h (listed.0, there))
        | inr e ↦ (e.0, e.2)
      ]

  pub one_list : (ps qs : List Block) → Lists names base ps → Lists names base qs → ps ≡ qs
  one_list ps qs first second =
      first.prefixes
      ∙ ap (λ (rs : List Block). base ++ rs)
      (same_list names first.others second.others first.order second.order (differ_others ps first) (differ_others qs second)
      (new_both ps qs first second) (new_both qs ps second first) (new_named ps first))
      ∙ sym second.prefixes

same_option : (a b : Option ℕ) → ((x : ℕ) → a ≡ Some x → b ≡ Some x) → ((x : ℕ) → b ≡ Some x → a ≡ Some x) → a ≡ b
same_option None None to from = refl
same_option None (Some y) to from = from y refl
same_option (Some x) b to from = sym (to x refl)

same_state : (s t : State) → s.interfaces ≡ t.interfaces → s.prefixes ≡ t.prefixes → s.shows ≡ t.shows → s.heard ≡ t.heard → s ≡ t
same_state s t interfaces prefixes shows heard =
    ap (λ (k : ℕ). record { interfaces = k; prefixes = s.prefixes; shows = s.shows; heard = s.heard }) interfaces
    ∙ ap (λ (ps : List Block). record { interfaces = t.interfaces; prefixes = ps; shows = s.shows; heard = s.heard }) prefixes
    ∙ ap (λ (f : ℕ → Block → Option ℕ). record { interfaces = t.interfaces; prefixes = t.prefixes; shows = f; heard = s.heard }) shows
    ∙ ap (λ (f : ℕ → Bool). record { interfaces = t.interfaces; prefixes = t.prefixes; shows = t.shows; heard = f }) heard

-- ---- of a log

abbrev pub log_lists : (n : Network) (old s : State) (log : List Numbered) → AreDistinct s.prefixes → IsJoin n old log s → Lists (IsNamed n log) old.prefixes s.prefixes
log_lists n old s log differ join = record {
  others = join.others;
  prefixes = join.prefixes;
  differ = differ;
  order = join.order;
  to = λ p h. elim ((join.listed p).0 h) [
    | inl e ↦ inl e
    | inr e ↦ let told = e.2 in inr (told.0, told.1, (e.0, e.1, told.2))
  ];
  from = λ p k j h. (join.listed p).1 (inr (h.0, h.1, (k, j, h.2)));
}

pub one_join : (n : Network) (old : State) (log : List Numbered) (s t : State) → AreDistinct s.prefixes → AreDistinct t.prefixes → IsJoin n old log s → IsJoin n old log t → s ≡ t
one_join n old log s t differ_s differ_t first second =
    same_state s t
    (first.interfaces ∙ sym second.interfaces)
    (one_list (IsNamed n log) old.prefixes s.prefixes t.prefixes (log_lists n old s log differ_s first) (log_lists n old t log differ_t second))
    (fun_ext (λ i. fun_ext (λ p. same_option (s.shows i p) (t.shows i p) (λ x h. (second.shown i p x).1 ((first.shown i p x).0 h)) (λ x h. (first.shown i p x).1 ((second.shown i p x).0 h)))))
    (fun_ext (λ i. decided (s.heard i) (t.heard i) (λ h. (second.heard i).1 ((first.heard i).0 h)) (λ h. (first.heard i).1 ((second.heard i).0 h))))

-- ---- of entries

abbrev entry_names : List Entry → ℕ → ℕ → Block → Type 0
entry_names es k j p = (k ≡ 0) × ((x : ℕ) × HasEntry es j p x)

entry_lists : (i : ℕ) (old s : State) (es : List Entry) → IsState s → AreTaken i old es s → Lists (entry_names es) old.prefixes s.prefixes
entry_lists i old s es valid taken = record {
  others = taken.others;
  prefixes = taken.prefixes;
  differ = valid.differ;
  order = λ a b p q lt e d l m h.
      let entry = h.1 in
      let first = taken.order a b p q lt e d m entry.0 entry.1 in
      (0, first.0, (refl, (first.1, first.2)), inr (sym h.0, first.3));
  to = λ p h. elim ((taken.listed p).0 h) [
    | inl e ↦ inl e
    | inr e ↦ inr (0, e.0, (refl, (e.1, e.2)))
  ];
  from = λ p k j h. let entry = h.1 in (taken.listed p).1 (inr (j, entry.0, entry.1));
}

pub one_taken : (i : ℕ) (old : State) (es : List Entry) (s t : State) → IsState s → IsState t → AreTaken i old es s → AreTaken i old es t → s ≡ t
one_taken i old es s t valid_s valid_t first second =
    same_state s t
    (first.interfaces ∙ sym second.interfaces)
    (one_list (entry_names es) old.prefixes s.prefixes t.prefixes (entry_lists i old s es valid_s first) (entry_lists i old t es valid_t second))
    (fun_ext (λ j. fun_ext (λ p. same_option (s.shows j p) (t.shows j p) (λ x h. (second.shown j p x).1 ((first.shown j p x).0 h)) (λ x h. (first.shown j p x).1 ((second.shown j p x).0 h)))))
    (fun_ext (λ j. decided (s.heard j) (t.heard j) (λ h. (second.heard j).1 ((first.heard j).0 h)) (λ h. (first.heard j).1 ((second.heard j).0 h))))
