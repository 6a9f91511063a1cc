-- A run of bytes that are no blanks is a field.
use Rattle.std.proofs.Common.{◌≡◌, ◌+◌, ◌-◌, ◌≤◌, ◌<◌, ℕ, zero, suc, Bool, true, false, List, [], ◌∷◌, length, take, drop, get_or, refl, sym, ap, ◌∙◌, arith, inl, inr, slice_range, ◌==◌, eq-eqb}
use Rattle.std.proofs.lemmas.Bool.{cases_lt, false_from_ne_true}
use Rattle.std.proofs.lemmas.List.{get_or-drop, get_or-take, drop-drop, length-drop, length-take, take_all}
use Rattle.std.proofs.Math.Seq.{drop-length}
use Rattle.memchr.specs.Find.{Nowhere, NoneBefore, Passes, is_byte2}
use Rattle.rip_log.specs.Fields.{fields_of, is_blank, ends_field, onto, is_comment, IsTrimmed}
use Rattle.rip_log.proofs.HeldLemmas.{at-drop}

fields_of-blank : (b : ℕ) (bytes : List ℕ) → is_blank b ≡ true → fields_of (b ∷ bytes) ≡ fields_of bytes
fields_of-blank b bytes h = rw h

fields_of-last : (b : ℕ) (bytes : List ℕ) → is_blank b ≡ false → ends_field bytes ≡ true → fields_of (b ∷ bytes) ≡ (b ∷ []) ∷ fields_of bytes
fields_of-last b bytes h e = rw (h, e)

fields_of-more : (b : ℕ) (bytes : List ℕ) → is_blank b ≡ false → ends_field bytes ≡ false → fields_of (b ∷ bytes) ≡ onto b (fields_of bytes)
fields_of-more b bytes h e = rw (h, e)

-- the first n bytes are a field, where no blank is among them and one, or the end, follows
pub fields_of-run : (xs : List ℕ) (n : ℕ) → n < length xs → ((k : ℕ) → k < suc n → is_blank (get_or xs k 0) ≡ false) → ends_field (drop (suc n) xs) ≡ true
    → fields_of xs ≡ take (suc n) xs ∷ fields_of (drop (suc n) xs)
fields_of-run [] n inside run end = absurd (omega arith)
fields_of-run (b ∷ xs) zero inside run end = fields_of-last b xs (run 0 (omega arith)) end
fields_of-run (b ∷ []) (suc n) inside run end = absurd (omega arith)
fields_of-run (b ∷ x ∷ xs) (suc n) inside run end =
    fields_of-more b (x ∷ xs) (run 0 (omega arith)) (run 1 (omega arith))
    ∙ ap (onto b) (fields_of-run (x ∷ xs) n (omega arith) (λ k h. run (suc k) (omega arith)) end)

-- the end, or a blank, ends a field
pub ends_field-at : (xs : List ℕ) (n : ℕ) → (n < length xs → is_blank (get_or xs n 0) ≡ true) → ends_field (drop n xs) ≡ true
ends_field-at [] zero h = refl
ends_field-at [] (suc n) h = refl
ends_field-at (x ∷ xs) zero h = h (omega arith)
ends_field-at (x ∷ xs) (suc n) h = ends_field-at xs n (λ i. h (omega arith))

-- a run in the middle of a line
pub fields_of-at : (line : List ℕ) (from at : ℕ) → from < at → at ≤ length line → ((k : ℕ) → from ≤ k → k < at → is_blank (get_or line k 0) ≡ false)
    → (at < length line → is_blank (get_or line at 0) ≡ true) → fields_of (drop from line) ≡ slice_range line from at ∷ fields_of (drop at line)
fields_of-at line from at some within run stops =
    let n = at - from - 1 in
    let count : suc n ≡ at - from = omega arith in
    let rest : drop (suc n) (drop from line) ≡ drop at line = drop-drop (suc n) from line ∙ ap (λ k. drop k line) (omega arith) in
    let here : (k : ℕ) → k < suc n → is_blank (get_or (drop from line) k 0) ≡ false = λ k h. rw (get_or-drop from line k 0) (run (from + k) (omega arith) (omega arith)) in
    fields_of-run (drop from line) n (omega (arith, length-drop from line)) here (rw rest (ends_field-at line at stops))
    ∙ ap (λ k. take k (drop from line) ∷ fields_of (drop (suc n) (drop from line))) count
    ∙ ap (λ l. slice_range line from at ∷ fields_of l) rest

-- what follows a byte that is no blank, as far as a search finds none
run-on : (line hay : List ℕ) (from at : ℕ) → hay ≡ drop (from + 1) line → is_blank (get_or line from 0) ≡ false → Nowhere (Passes (is_byte2 32 9) hay) 0 (at - (from + 1))
    → (k : ℕ) → from ≤ k → k < at → is_blank (get_or line k 0) ≡ false
run-on line hay from at is here nowhere k low high =
    elim (cases_lt from k) [
      | inl h ↦
          false_from_ne_true (is_blank (get_or line k 0))
          (λ e. nowhere (k - (from + 1)) (omega arith) (omega arith) (ap is_blank (at-drop line hay (from + 1) k is (omega arith)) ∙ e))
      | inr h ↦ ap (λ i. is_blank (get_or line i 0)) {x = k} {y = from} (omega arith) ∙ here
    ]

-- a search behind the first byte of a field finds the blank that ends it
pub field-to_blank : (line hay : List ℕ) (from found : ℕ) → hay ≡ drop (from + 1) line → from < length line → is_blank (get_or line from 0) ≡ false
    → NoneBefore (Passes (is_byte2 32 9) hay) 0 (length hay) found → Passes (is_byte2 32 9) hay found
    → fields_of (drop from line) ≡ slice_range line from (from + 1 + found) ∷ fields_of (drop (from + 1 + found) line)
field-to_blank line hay from found is inside here none passes =
    fields_of-at line from (from + 1 + found) (omega arith) (omega (arith, none.high, ap length is, length-drop (from + 1) line))
    (run-on line hay from (from + 1 + found) is here (λ k low high. none.before k low (omega (arith, high))))
    (λ h. ap is_blank (sym (ap (λ l. get_or l found 0) is ∙ get_or-drop (from + 1) line found 0)) ∙ passes)

-- or none, where the line ends it
pub field-to_end : (line hay : List ℕ) (from : ℕ) → hay ≡ drop (from + 1) line → from < length line → is_blank (get_or line from 0) ≡ false → Nowhere (Passes (is_byte2 32 9) hay) 0 (length hay)
    → fields_of (drop from line) ≡ slice_range line from (length line) ∷ fields_of (drop (length line) line)
field-to_end line hay from is inside here nowhere =
    fields_of-at line from (length line) inside (omega arith)
    (run-on line hay from (length line) is here (λ k low high. nowhere k low (omega (arith, high, ap length is, length-drop (from + 1) line))))
    (λ h. absurd (omega (arith, h)))

is_comment-onto : (b : ℕ) (fields : List (List ℕ)) → is_comment (onto b fields) ≡ (b == 35)
is_comment-onto b [] = refl
is_comment-onto b (first ∷ rest) = refl

is_comment-run : (b : ℕ) (bytes : List ℕ) (x : Bool) → ends_field bytes ≡ x → is_blank b ≡ false → is_comment (fields_of (b ∷ bytes)) ≡ (b == 35)
is_comment-run b bytes true e h = ap is_comment (fields_of-last b bytes h e)
is_comment-run b bytes false e h = ap is_comment (fields_of-more b bytes h e) ∙ is_comment-onto b (fields_of bytes)

-- the first field begins with the first byte that is no blank
is_comment-front : (line : List ℕ) (from : ℕ) → from < length line → is_blank (get_or line from 0) ≡ false → is_comment (fields_of (drop from line)) ≡ (get_or line from 0 == 35)
is_comment-front [] from inside here = absurd (omega arith)
is_comment-front (b ∷ line) zero inside here = is_comment-run b line (ends_field line) refl here
is_comment-front (b ∷ line) (suc from) inside here = is_comment-front line from (omega arith) here

no-eqb : (a b : ℕ) → (a ≡ b → ⊥) → (a == b) ≡ false
no-eqb a b h = grind arith

pub is_comment-no : (line : List ℕ) (from : ℕ) → from < length line → is_blank (get_or line from 0) ≡ false → fields_of line ≡ fields_of (drop from line) → (get_or line from 0 ≡ 35 → ⊥) →
    is_comment (fields_of line) ≡ false
is_comment-no line from inside here same none = ap is_comment same ∙ is_comment-front line from inside here ∙ no-eqb _ _ none

pub is_comment-yes : (line : List ℕ) (from : ℕ) → from < length line → is_blank (get_or line from 0) ≡ false → fields_of line ≡ fields_of (drop from line) → get_or line from 0 ≡ 35 →
    is_comment (fields_of line) ≡ true
is_comment-yes line from inside here same is = ap is_comment same ∙ is_comment-front line from inside here ∙ eq-eqb _ _ is

-- ---- the rest of a line, without the blanks at its end

onto-some : (b : ℕ) (fields : List (List ℕ)) → 0 < length (onto b fields)
onto-some b [] = omega arith
onto-some b (first ∷ rest) = omega arith

run-some : (b : ℕ) (bytes : List ℕ) (x : Bool) → ends_field bytes ≡ x → is_blank b ≡ false → 0 < length (fields_of (b ∷ bytes))
run-some b bytes true e h = rw (fields_of-last b bytes h e) (omega arith)
run-some b bytes false e h = rw (fields_of-more b bytes h e) (onto-some b (fields_of bytes))

behind-some : (b : ℕ) (bytes : List ℕ) (x : Bool) → is_blank b ≡ x → 0 < length (fields_of bytes) → 0 < length (fields_of (b ∷ bytes))
behind-some b bytes true h some = rw (fields_of-blank b bytes h) some
behind-some b bytes false h some = run-some b bytes (ends_field bytes) refl h

-- bytes of which one is no blank have a field
pub fields_of-some : (xs : List ℕ) (k : ℕ) → k < length xs → is_blank (get_or xs k 0) ≡ false → 0 < length (fields_of xs)
fields_of-some [] k inside h = absurd (omega arith)
fields_of-some (b ∷ xs) zero inside h = run-some b xs (ends_field xs) refl h
fields_of-some (b ∷ xs) (suc k) inside h = behind-some b xs (is_blank b) refl (fields_of-some xs k (omega arith) h)

ends_field-trim : (xs : List ℕ) (n : ℕ) → ((k : ℕ) → n ≤ k → k < length xs → is_blank (get_or xs k 0) ≡ true) → ends_field (take n xs) ≡ ends_field xs
ends_field-trim [] zero blanks = refl
ends_field-trim [] (suc n) blanks = refl
ends_field-trim (x ∷ xs) zero blanks = sym (blanks 0 (omega arith) (omega arith))
ends_field-trim (x ∷ xs) (suc n) blanks = refl

-- blanks at the end make no field
pub fields_of-trim : (xs : List ℕ) (n : ℕ) → ((k : ℕ) → n ≤ k → k < length xs → is_blank (get_or xs k 0) ≡ true) → fields_of (take n xs) ≡ fields_of xs
fields_of-trim [] zero blanks = refl
fields_of-trim [] (suc n) blanks = refl
fields_of-trim (b ∷ xs) zero blanks =
    fields_of-trim xs zero (λ k low high. blanks (suc k) (omega arith) (omega (arith, high)))
    ∙ sym (fields_of-blank b xs (blanks 0 (omega arith) (omega arith)))
fields_of-trim (b ∷ xs) (suc n) blanks =
    let on : (k : ℕ) → n ≤ k → k < length xs → is_blank (get_or xs k 0) ≡ true = λ k low high. blanks (suc k) (omega (arith, low)) (omega (arith, high)) in
    rw (ends_field-trim xs n on, fields_of-trim xs n on) refl

-- bytes of which none is a blank are a field
pub fields_of-one : (xs : List ℕ) → 0 < length xs → ((k : ℕ) → k < length xs → is_blank (get_or xs k 0) ≡ false) → fields_of xs ≡ xs ∷ []
fields_of-one [] some none = absurd (omega arith)
fields_of-one (b ∷ xs) some none =
    let n = length xs in
    let end : drop n xs ≡ [] = drop-length xs in
    fields_of-run (b ∷ xs) n (omega arith) (λ k low. none k (omega (arith, low))) (ap ends_field end)
    ∙ ap (λ l. (b ∷ l) ∷ fields_of (drop n xs)) (take_all n xs (omega arith))
    ∙ ap (λ l. (b ∷ xs) ∷ fields_of l) end

-- blanks at the end of a line make no field
pub rest-fields : (line : List ℕ) (from to : ℕ) → from ≤ to → ((k : ℕ) → to ≤ k → k < length line → is_blank (get_or line k 0) ≡ true) →
    fields_of (slice_range line from to) ≡ fields_of (drop from line)
rest-fields line from to some blanks =
    fields_of-trim (drop from line) (to - from) (λ k low high. rw (get_or-drop from line k 0) (blanks (from + k) (omega (arith, low)) (omega (arith, high, length-drop from line))))

-- a part of a line that begins and ends with no blank
pub rest-trimmed : (line : List ℕ) (from to : ℕ) → from < to → to ≤ length line → is_blank (get_or line from 0) ≡ false → is_blank (get_or line (to - 1) 0) ≡ false →
    IsTrimmed (slice_range line from to)
rest-trimmed line from to some within first last =
    let n = to - from in
    let rest = drop from line in
    let count : length (take n rest) ≡ n = omega (arith, length-take n rest, length-drop from line) in
    let at : (k : ℕ) → k < n → get_or (take n rest) k 0 ≡ get_or line (from + k) 0 = λ k low. get_or-take n rest k 0 low ∙ get_or-drop from line k 0 in
    record {
      some = omega (arith, count);
      first = ap is_blank (at 0 (omega arith) ∙ ap (λ k. get_or line k 0) {x = from + 0} {y = from} (omega arith)) ∙ first;
      last = ap is_blank (ap (λ k. get_or (take n rest) (k - 1) 0) count ∙ at (n - 1) (omega arith) ∙ ap (λ k. get_or line k 0) {x = from + (n - 1)} {y = to - 1} (omega arith)) ∙ last;
    }
