-- Prefixes stand in the order in which they came since they were last forgotten.
use Rattle.std.proofs.Common.{inl, inr, ◌≡◌, ℕ, zero, suc, ◌+◌, ◌<◌, ◌≤◌, Bool, true, false, List, [], ◌∷◌, ◌++◌, length, Some, refl, sym, ap, subst, ◌∙◌, arith}
use Rattle.std.specs.List.{slice_get}
use Rattle.std.proofs.lemmas.Bool.{cases_lt}
use Rattle.std.proofs.lemmas.Option.{slice_get_within}
use Rattle.rip_wire.specs.Prefix.{Block}
use Rattle.rip_wire.specs.declared.entry.Entry.{Entry}
use Rattle.rip_plan.proofs.ItemLemmas.{get_last}
use Rattle.rip_plan.proofs.NumberingLemmas.{same_is, same_self}
use Rattle.rip_plan.specs.Passes.{same_prefix}
use Rattle.rip_table.specs.LogJoin.{ComesBefore, HasEntry}
use Rattle.rip_table.specs.Remembered.{Taken}
use Rattle.rip_table.specs.Seen.{CameWith, IsToldSince, IsToldWithin}
use Rattle.rip_table.proofs.MakesLemmas.{either_list}
use Rattle.rip_table.proofs.NumberLemmas.{true-false}
use Rattle.rip_table.proofs.RememberLemmas.{first_item}

-- an item of a list with one more that is not the last one
not_last : {A : Type 0} (xs : List A) (x y : A) (k : ℕ) → k < length xs → slice_get (xs ++ x ∷ []) k ≡ Some y → slice_get xs k ≡ Some y
not_last xs x y k lt at = elim (either_list xs (x ∷ []) k y at) [
  | inl old ↦ old
  | inr (j, is, there) ↦ absurd (omega (arith, lt, is))
]

-- the first entry that is of a prefix
pub record FirstEntry (entries : List Entry) (p : Block) (k : ℕ) : Type 0 where
  pub number : ℕ
  pub metric : ℕ
  pub has : HasEntry entries number p metric
  pub least : number ≤ k
  pub first : (m x : ℕ) → HasEntry entries m p x → number ≤ m

pub first_entry : (entries : List Entry) (p : Block) (k x : ℕ) → HasEntry entries k p x → FirstEntry entries p k
first_entry [] p k x (e, at, of, is) = absurd (cc at)
first_entry (d ∷ entries) p k x h = by (same_prefix d.prefix p) refl k h (λ j. first_entry entries p j x)
  where
    by : (b : Bool) → same_prefix d.prefix p ≡ b → (k : ℕ) → HasEntry (d ∷ entries) k p x → ((j : ℕ) → HasEntry entries j p x → FirstEntry entries p j) → FirstEntry (d ∷ entries) p k
    by true e k h rest = record { number = zero; metric = d.metric; has = (d, refl, same_is d.prefix p e, refl); least = omega arith; first = λ m y has. omega arith }
    by false e zero (c, at, of, is) rest =
        let same : d ≡ c = cc at in
        let one : d.prefix ≡ p = ap (λ (y : Entry). y.prefix) same ∙ of in
        true-false (same_prefix d.prefix p) (ap (λ (q : Block). same_prefix q p) one ∙ same_self p) e
    by false e (suc k) h rest =
        let there = rest k h in record {
          number = suc there.number;
          metric = there.metric;
          has = there.has;
          least = omega (arith, there.least);
          first = λ m y has. later m y has;
        }
      where
        later : (m y : ℕ) → HasEntry (d ∷ entries) m p y → suc (rest k h).number ≤ m
        later zero y (c, at, of, is) =
            let same : d ≡ c = cc at in
            let one : d.prefix ≡ p = ap (λ (y : Entry). y.prefix) same ∙ of in
            true-false (same_prefix d.prefix p) (ap (λ (q : Block). same_prefix q p) one ∙ same_self p) e
        later (suc m) y has = omega (arith, (rest k h).first m y has)

-- one more response is taken
pub came_more : (window second : ℕ) (taken : List Taken) (t : Taken) (p : Block) (k j : ℕ) → CameWith window second taken p k j → CameWith window second (taken ++ t ∷ []) p k j
came_more window second taken t p k j h = record {
  response = h.response;
  at = first_item taken t h.response k h.at;
  metric = h.metric;
  tells = h.tells;
  new = λ l m x u at has before. h.new l m x u (not_last taken t u l (early l m before) at) has before;
  kept = λ s low high. let there = h.kept s low high in (there.0, there.1, there.2, first_item taken t there.2 there.0 there.3, there.4, there.5, there.6);
}
  where
    early : (l m : ℕ) → ComesBefore l m k j → l < length taken
    early l m (inl lt) = omega (arith, lt, slice_get_within taken k h.response h.at)
    early l m (inr (same, lt)) = omega (arith, same, slice_get_within taken k h.response h.at)

-- a second passes in which it was told of
pub came_passed : (window second : ℕ) (taken : List Taken) (p : Block) (k j : ℕ) → IsToldWithin window second taken p → CameWith window second taken p k j → CameWith window (second + 1) taken p k j
came_passed window second taken p k j within h = record {
  response = h.response;
  at = h.at;
  metric = h.metric;
  tells = h.tells;
  new = h.new;
  kept = λ s low high. elim (cases_lt s second) [
    | inl lt ↦ h.kept s low lt
    | inr le ↦ let same : second ≡ s = omega (arith, le, high) in subst (λ (x : ℕ). IsToldWithin window x taken p) same within
  ];
}

-- it comes with an entry of a response
pub came_now : (window : ℕ) (taken : List Taken) (t : Taken) (p : Block) (k : ℕ) → (first : FirstEntry t.entries p k) → (IsToldSince window t.second taken p → ⊥)
    → CameWith window t.second (taken ++ t ∷ []) p (length taken) first.number
came_now window taken t p k first none = record {
  response = t;
  at = get_last taken t;
  metric = first.metric;
  tells = first.has;
  new = λ l m x u at has before. by l m x u at has before;
  kept = λ s low high. absurd (omega (arith, low, high));
}
  where
    by : (l m x : ℕ) (u : Taken) → slice_get (taken ++ t ∷ []) l ≡ Some u → HasEntry u.entries m p x → ComesBefore l m (length taken) first.number → u.second + window < t.second
    by l m x u at has (inl lt) = elim (cases_lt (u.second + window) t.second) [
      | inl over ↦ over
      | inr le ↦ absurd (none (l, x, u, not_last taken t u l lt at, (m, has), le))
    ]
    by l m x u at has (inr (same, lt)) =
        let both : Some t ≡ Some u = sym (get_last taken t) ∙ ap (slice_get (taken ++ t ∷ [])) (sym same) ∙ at in
        let here : t ≡ u = cc both in
        absurd (omega (arith, lt, first.first m x (subst (λ (y : Taken). HasEntry y.entries m p x) (sym here) has)))

-- each prefix came with an entry
abbrev pub HaveCome : ℕ → ℕ → List Taken → List Block → Type 0
HaveCome window second taken prefixes = (a : ℕ) (p : Block) → slice_get prefixes a ≡ Some p → (k j : ℕ) × CameWith window second taken p k j
