-- Prefixes have one number each, each place has the number of its prefix, and the prefixes that are numbered are those
-- of the places, each once.
use Rattle.std.proofs.Common.{◌≡◌, ℕ, ◌+◌, inl, inr, List, [], ◌∷◌, ◌++◌, length, append_assoc, Bool, true, false, cond, Option, Some, None, refl, sym, ◌∙◌, ap, arith, subst, map, filter, not, ◌&&◌}
use Rattle.std.specs.Prelude.{slice_get}
use Rattle.std.specs.List.{list_any, position_from, AllByRecursion, IsDistinct}
use Rattle.std.specs.Option.{option_or}
use Rattle.std.proofs.lemmas.Bool.{cases_Bool}
use Rattle.std.proofs.lemmas.List.{append-nil}
use Rattle.std.proofs.lemmas.Bool.Decides.{nat_tests}
use Rattle.rip_wire.specs.Prefix.{Block}
use Rattle.rip_plan.specs.declared.parts.Place.{Place}
use Rattle.rip_plan.specs.declared.draft.DraftPlace.{DraftPlace}
use Rattle.rip_plan.specs.Passes.{same_prefix}
use Rattle.rip_plan.specs.PlanOf.{Matched, each_once}
use Rattle.rip_plan.specs.Network.{number_of_prefix, number_or_next, with_prefix, numbered}
use Rattle.rip_plan.proofs.ItemLemmas.{get_left, get_last, position_finds, any_at, position_none}
use Rattle.std.proofs.lemmas.List.Folds.{list_any-append}
use Rattle.rip_plan.proofs.MatchingLemmas.{filter_both, filter_all}

pub same_is : (p q : Block) → same_prefix p q ≡ true → p ≡ q
same_is p q h = grind arith

pub same_self : (p : Block) → same_prefix p p ≡ true
same_self p = grind (arith, nat_tests)

pub same_from : (p q : Block) → p ≡ q → same_prefix p q ≡ true
same_from p q h = rw h (same_self q)

pub same_flips : (p q : Block) → same_prefix p q ≡ same_prefix q p
same_flips p q = grind arith

pub none_same : (p : Block) (ps : List Block) → list_any (same_prefix p) ps ≡ false → list_any (λ q. same_prefix q p) ps ≡ false
none_same p ps h = grind arith

-- the place has the number of its prefix, and the seat
abbrev pub IsNumbered : List Block → Place → DraftPlace → Type 0
IsNumbered ps q d = (slice_get ps q.prefix ≡ Some d.prefix) × (q.seat ≡ d.seat)

-- the places that come to those before, and each prefix keeps its number
record PlacesNumbered (ps : List Block) (qs : List Place) (ds : List DraftPlace) : Type 0 where
  more : List Place
  made : (numbered ps qs ds).1 ≡ qs ++ more
  match : Matched (IsNumbered (numbered ps qs ds).0) more ds
  keeps : (k : ℕ) (b : Block) → slice_get ps k ≡ Some b → slice_get (numbered ps qs ds).0 k ≡ Some b

places_numbered : (ps : List Block) (qs : List Place) (ds : List DraftPlace) → PlacesNumbered ps qs ds
places_numbered ps qs [] = record { more = []; made = sym (append-nil qs); match = tt; keeps = λ k b h. h }
places_numbered ps qs (d ∷ ds) =
    let o = number_of_prefix d.prefix ps in
    let q : Place = record { prefix = number_or_next ps o; seat = d.seat } in
    let rest = places_numbered (with_prefix ps d.prefix o) (qs ++ q ∷ []) ds in
    record {
      more = q ∷ rest.more;
      made = rest.made ∙ append_assoc qs (q ∷ []) rest.more;
      match = ((rest.keeps q.prefix d.prefix (its_number o refl), refl), rest.match);
      keeps = λ k b h. rest.keeps k b (kept o k b h);
    }
  where
    its_number : (o : Option ℕ) → number_of_prefix d.prefix ps ≡ o → slice_get (with_prefix ps d.prefix o) (number_or_next ps o) ≡ Some d.prefix
    its_number None e = get_last ps d.prefix
    its_number (Some n) e =
        let (i, q, at, is, same) = position_finds (same_prefix d.prefix) 0 ps n e in
        grind (arith, same_is d.prefix q)

    kept : (o : Option ℕ) (k : ℕ) (b : Block) → slice_get ps k ≡ Some b → slice_get (with_prefix ps d.prefix o) k ≡ Some b
    kept None k b h = get_left ps (d.prefix ∷ []) k b h
    kept (Some n) k b h = h

pub numbers : (ds : List DraftPlace) → Matched (IsNumbered (numbered [] [] ds).0) (numbered [] [] ds).1 ds
numbers ds = let all = places_numbered [] [] ds in subst (λ (qs : List Place). Matched (IsNumbered (numbered [] [] ds).0) qs ds) (sym all.made) all.match

-- ---- a look-up of numbers, as prefixes come in

pub position_push : {A : Type 0} (test : A → Bool) (n : ℕ) (xs : List A) (x : A) → position_from test n (xs ++ x ∷ []) ≡ option_or (position_from test n xs) (cond (test x) (Some (n + length xs)) None)
position_push test n [] x = grind arith
position_push test n (y ∷ ys) x = grind (arith, position_push test (n + 1) ys x)

pub or_nothing : {A : Type 0} (o : Option A) → option_or o None ≡ o
or_nothing o = grind arith

-- a prefix that is new gets the next number
pub new_number : (ps : List Block) (d p : Block) → number_of_prefix d ps ≡ None → cond (same_prefix d p) (Some (length ps)) (number_of_prefix p ps) ≡ number_of_prefix p (ps ++ d ∷ [])
new_number ps d p new = grind (arith, cases_Bool, position_push, same_self, same_is, same_flips, or_nothing)

-- ---- each once

-- the prefix is none of these
abbrev is_new : List Block → Block → Bool
is_new ps q = not (list_any (λ p. same_prefix p q) ps)

new_push : (ps : List Block) (b q : Block) → is_new (ps ++ b ∷ []) q ≡ (not (same_prefix b q) && is_new ps q)
new_push ps b q = grind (arith, list_any-append)

-- a prefix that is new among prefixes that have b is not b
new_other : (ps : List Block) (b q : Block) → is_new ps b ≡ false → is_new ps q ≡ (not (same_prefix b q) && is_new ps q)
new_other ps b q old = elim (cases_Bool (same_prefix b q)) [ inl e ↦ ap (is_new ps) (sym (same_is b q e)) ∙ old ∙ rw e refl | inr e ↦ rw e refl ]

step : (ps : List Block) (b : Block) (o : Option ℕ) → number_of_prefix b ps ≡ o → (rest : List Block)
    → with_prefix ps b o ++ filter (is_new (with_prefix ps b o)) (each_once rest) ≡ ps ++ filter (is_new ps) (each_once (b ∷ rest))
step ps b None h rest =
    let new : is_new ps b ≡ true = ap not (none_same b ps (position_none (same_prefix b) 0 ps h)) in
    append_assoc ps (b ∷ []) (filter (is_new (ps ++ b ∷ [])) (each_once rest))
    ∙ ap (λ (l : List Block). ps ++ b ∷ l) (sym (filter_both (is_new ps) (λ q. not (same_prefix b q)) (is_new (ps ++ b ∷ [])) (new_push ps b) (each_once rest)))
    ∙ rw new refl
step ps b (Some k) h rest =
    let (i, q, at, is, same) = position_finds (same_prefix b) 0 ps k h in
    let old : is_new ps b ≡ false = grind (arith, any_at (λ p. same_prefix p b) ps i q is, same_is b q, same_self b) in
    ap (λ (l : List Block). ps ++ l) (sym (filter_both (is_new ps) (λ q. not (same_prefix b q)) (is_new ps) (λ q. new_other ps b q old) (each_once rest)))
    ∙ rw old refl

once_after : (ps : List Block) (qs : List Place) (ds : List DraftPlace) → (numbered ps qs ds).0 ≡ ps ++ filter (is_new ps) (each_once (map (λ d. d.prefix) ds))
once_after ps qs [] = sym (append-nil ps)
once_after ps qs (d ∷ ds) =
    let o = number_of_prefix d.prefix ps in
    once_after (with_prefix ps d.prefix o) (qs ++ record { prefix = number_or_next ps o; seat = d.seat } ∷ []) ds ∙ step ps d.prefix o refl (map (λ x. x.prefix) ds)

pub numbered_once : (ds : List DraftPlace) → (numbered [] [] ds).0 ≡ each_once (map (λ d. d.prefix) ds)
numbered_once ds = once_after [] [] ds ∙ filter_all (is_new []) (λ q. refl) (each_once (map (λ d. d.prefix) ds))

-- ---- each once: no two are the same

filter_away : (p : Block) (qs : List Block) → AllByRecursion (λ q. same_prefix p q ≡ false) (filter (λ q. not (same_prefix p q)) qs)
filter_away p [] = tt
filter_away p (q ∷ qs) = elim (cases_Bool (same_prefix p q)) [ inl e ↦ rw e (filter_away p qs) | inr e ↦ rw e (e, filter_away p qs) ]

filter_kept : (P : Block → Type 0) (test : Block → Bool) (qs : List Block) → AllByRecursion P qs → AllByRecursion P (filter test qs)
filter_kept P test [] h = tt
filter_kept P test (q ∷ qs) h = elim (cases_Bool (test q)) [ inl e ↦ rw e (h.0, filter_kept P test qs h.1) | inr e ↦ rw e (filter_kept P test qs h.1) ]

filter_distinct : (test : Block → Bool) (qs : List Block) → IsDistinct same_prefix qs → IsDistinct same_prefix (filter test qs)
unfolding IsDistinct
filter_distinct test [] d = tt
filter_distinct test (q ∷ qs) d = grind (arith, filter_kept (λ r. same_prefix q r ≡ false) test qs, filter_distinct test qs)

pub once_distinct : (ps : List Block) → IsDistinct same_prefix (each_once ps)
unfolding IsDistinct
once_distinct [] = tt
once_distinct (p ∷ ps) = (filter_away p (each_once ps), filter_distinct (λ q. not (same_prefix p q)) (each_once ps) (once_distinct ps))

-- what holds of each holds of each once
pub once_kept : (P : Block → Type 0) (ps : List Block) → AllByRecursion P ps → AllByRecursion P (each_once ps)
once_kept P [] h = tt
once_kept P (p ∷ ps) h = (h.0, filter_kept P (λ q. not (same_prefix p q)) (each_once ps) (once_kept P ps h.1))
