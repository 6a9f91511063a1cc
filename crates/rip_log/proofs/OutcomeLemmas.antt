-- What one call more makes of a device's history.
use Rattle.std.proofs.Common.{zero, suc, ◌≡◌, ◌∙◌, ◌<◌, ◌≤◌, ℕ, Bool, true, List, [], ◌∷◌, ◌++◌, length, take, Some, None, Result, Ok, Err, refl, sym, ap, subst, append_assoc, append-nil, arith}
use Rattle.rip_log.specs.Gave.{Gave}
use Rattle.rip_log.specs.Marks.{takes_none}
use Rattle.rip_log.specs.Outcomes.{Outcome, outcome_of, moved, is_some_bytes, is_no_bytes, all_moved, ends_in}

-- the bytes of one call more follow those before
moved-bytes : (calls : List Outcome) (bytes : List ℕ) → moved (calls ++ Some bytes ∷ []) ≡ moved calls ++ bytes
moved-bytes [] bytes = append-nil bytes
moved-bytes (Some b ∷ calls) bytes = ap (λ l. b ++ l) (moved-bytes calls bytes) ∙ sym (append_assoc b (moved calls) bytes)
moved-bytes (None ∷ calls) bytes = moved-bytes calls bytes

-- a failure has none
moved-failure : (calls : List Outcome) → moved (calls ++ None ∷ []) ≡ moved calls
moved-failure [] = refl
moved-failure (Some b ∷ calls) = ap (λ l. b ++ l) (moved-failure calls)
moved-failure (None ∷ calls) = moved-failure calls

-- so a call that is noted gave what came
pub gave-noted : {E : Type 0} (old new : List Outcome) (r : Result ℕ E) (buffer : List ℕ) → new ≡ old ++ outcome_of r buffer ∷ [] → Gave (moved old) (moved new) r buffer
gave-noted old new (Ok n) buffer e = ap moved e ∙ moved-bytes old (take n buffer)
gave-noted old new (Err error) buffer e = ap moved e ∙ moved-failure old

-- one call more that moved some bytes
all-on : (calls : List Outcome) (last : Outcome) → all_moved calls ≡ true → is_some_bytes last ≡ true → all_moved (calls ++ last ∷ []) ≡ true
all-on [] last all some = rw some refl
all-on (Some (b ∷ bytes) ∷ calls) last all some = all-on calls last all some
all-on (Some [] ∷ calls) last all some = absurd (cc)
all-on (None ∷ calls) last all some = absurd (cc)

-- and one that ends them
ends-on : (such : Outcome → Bool) (calls : List Outcome) (last : Outcome) → all_moved calls ≡ true → such last ≡ true → ends_in such (calls ++ last ∷ []) ≡ true
ends-on such [] last all h = h
ends-on such (Some (b ∷ bytes) ∷ []) last all h = h
ends-on such (Some (b ∷ bytes) ∷ (next ∷ calls)) last all h = ends-on such (next ∷ calls) last all h
ends-on such (Some [] ∷ calls) last all h = absurd (cc)
ends-on such (None ∷ calls) last all h = absurd (cc)

-- some of some bytes are some
taken-some : (n : ℕ) (bytes : List ℕ) → 0 < n → n ≤ length bytes → is_some_bytes (Some (take n bytes)) ≡ true
taken-some zero bytes some within = absurd (omega (arith, some))
taken-some (suc n) [] some within = absurd (omega (arith, within))
taken-some (suc n) (b ∷ bytes) some within = refl

-- what the calls came to where one more was noted that moved some bytes
pub noted_some : {E : Type 0} (old new : List Outcome) (r : Result ℕ E) (n : ℕ) (buffer : List ℕ) → all_moved old ≡ true → new ≡ old ++ outcome_of r buffer ∷ [] → r ≡ Ok n → 0 < n →
    n ≤ length buffer → all_moved new ≡ true
noted_some old new r n buffer all e is some within =
    subst (λ l. all_moved l ≡ true) (sym (e ∙ ap (λ r. old ++ outcome_of r buffer ∷ []) is)) (all-on old (Some (take n buffer)) all (taken-some n buffer some within))

-- and where the one more ends them
pub noted_last : {E : Type 0} (such : Outcome → Bool) (old new : List Outcome) (r : Result ℕ E) (buffer : List ℕ) → all_moved old ≡ true → new ≡ old ++ outcome_of r buffer ∷ [] →
    such (outcome_of r buffer) ≡ true → ends_in such new ≡ true
noted_last such old new r buffer all e h = subst (λ l. ends_in such l ≡ true) (sym e) (ends-on such old (outcome_of r buffer) all h)

-- a call that came to nothing moved nothing
pub none_read : {E : Type 0} (r : Result ℕ E) (n : ℕ) (buffer : List ℕ) → r ≡ Ok n → n ≡ zero → is_no_bytes (outcome_of r buffer) ≡ true
none_read r n buffer is none = subst (λ r. is_no_bytes (outcome_of r buffer) ≡ true) (sym (is ∙ ap Ok none)) refl

pub none_written : {E : Type 0} (r : Result ℕ E) (n : ℕ) (bytes : List ℕ) → r ≡ Ok n → n ≤ 0 → takes_none (outcome_of r bytes) ≡ true
none_written r zero bytes is none = subst (λ r. takes_none (outcome_of r bytes) ≡ true) (sym is) refl
none_written r (suc n) bytes is none = absurd (omega (arith, none))

pub not_written : {E : Type 0} (r : Result ℕ E) (e : E) (bytes : List ℕ) → r ≡ Err e → takes_none (outcome_of r bytes) ≡ true
not_written r e bytes is = subst (λ r. takes_none (outcome_of r bytes) ≡ true) (sym is) refl

-- and is behind the others with no byte more
none-moved : (old : List Outcome) (last : Outcome) → takes_none last ≡ true → moved (old ++ last ∷ []) ≡ moved old
none-moved old None none = moved-failure old
none-moved old (Some []) none = moved-bytes old [] ∙ append-nil (moved old)
none-moved old (Some (b ∷ bytes)) none = absurd (cc)

pub noted_none : (old new : List Outcome) (last : Outcome) → new ≡ old ++ last ∷ [] → takes_none last ≡ true → moved new ≡ moved old
noted_none old new last e none = ap moved e ∙ none-moved old last none
