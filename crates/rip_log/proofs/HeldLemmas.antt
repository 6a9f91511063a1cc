-- What a pull does to the text to come.
use Rattle.std.proofs.Common.{◌≡◌, ◌+◌, ◌≤◌, ℕ, List, ◌++◌, Option, None, Some, length, take, drop, get_or, sym, ap, ◌∙◌, append_assoc, arith, slice_range, ◌<◌, ◌-◌, inl, inr, eq-eqb, eqb-true}
use Rattle.std.proofs.lemmas.List.{take-append-drop, take-take, drop-take, get_or-drop, get_or_append_left, length-drop}
use Rattle.std.proofs.lemmas.Slice.{between_from_start}
use Rattle.std.proofs.lemmas.Bool.{cases_lt}
use Rattle.memchr.specs.Find.{Nowhere, NoneBefore, Passes, is_byte}
use Rattle.rip_log.specs.Ends.{NoFeedBelow, FirstFeed}
use Rattle.std.specs.Io.KnownBytes.{Keeps, Consumes, prepend_known}

-- bytes that leave the source and are held stand where they stood
pub Keeps-held : (old new : Option (List ℕ)) (held more all : List ℕ) → Consumes old new more → all ≡ held ++ more → Keeps (prepend_known held old) (prepend_known all new)
Keeps-held None new held more all p e = tt
Keeps-held (Some xs) None held more all p e = absurd p
Keeps-held (Some xs) (Some ys) held more all p e = ap (λ l. l ++ ys) e ∙ append_assoc held more ys ∙ ap (λ l. held ++ l) (sym p)

pub take-add : (xs : List ℕ) (n m : ℕ) → take (n + m) xs ≡ take n xs ++ take m (drop n xs)
take-add xs n m =
    let whole = take-append-drop n (take (n + m) xs) in
    sym whole ∙ ap (λ l. l ++ drop n (take (n + m) xs)) (take-take n (n + m) xs (omega arith)) ∙ ap (λ l. take n xs ++ l) (drop-take n m xs)

-- what is held after a pull behind it
pub held-more : (old new : List ℕ) (start end n : ℕ) → start ≡ 0 → take end new ≡ take end old → slice_range new start (end + n) ≡ slice_range old start end ++ take n (drop end new)
held-more old new start end n zero front =
    rw (zero, between_from_start new (end + n), between_from_start old end, ← front) (take-add new end n)

-- what is held where no byte came behind it
pub held-same : (old new : List ℕ) (start end : ℕ) → start ≡ 0 → take end new ≡ take end old → slice_range new start end ≡ slice_range old start end
held-same old new start end zero front = rw (zero, between_from_start new end, between_from_start old end) front

-- the byte of what follows the first n, at k, is that of the whole at n + k
pub at-drop : (xs hay : List ℕ) (seen k : ℕ) → hay ≡ drop seen xs → seen ≤ k → get_or hay (k - seen) 0 ≡ get_or xs k 0
at-drop xs hay seen k e h =
    rw e (get_or-drop seen xs (k - seen) 0 ∙ ap (λ i. get_or xs i 0) (omega arith))

-- where a search behind the first `seen` finds no line feed, there is none
pub none-found : (xs hay : List ℕ) (seen : ℕ) → hay ≡ drop seen xs → NoFeedBelow xs seen → Nowhere (Passes (is_byte 10) hay) 0 (length hay) → NoFeedBelow xs (length xs)
none-found xs hay seen e before nowhere k inside feed =
    elim (cases_lt k seen) [
      | inl h ↦ before k h feed
      | inr h ↦
          nowhere (k - seen) (omega arith) (omega (arith, ap length e, length-drop seen xs))
          (eq-eqb _ _ (at-drop xs hay seen k e h ∙ feed))
    ]

-- what comes behind bytes without a line feed puts none among them
pub none-among : (old new more : List ℕ) (n : ℕ) → n ≡ length old → new ≡ old ++ more → NoFeedBelow old (length old) → NoFeedBelow new n
none-among old new more n all longer none k inside feed =
    let below : k < length old = omega (arith, all, inside) in
    none k below (sym (get_or_append_left old more 0 k below) ∙ ap (λ l. get_or l k 0) (sym longer) ∙ feed)

-- where it finds one, that is the first
pub first-found : (xs hay : List ℕ) (seen found : ℕ) → hay ≡ drop seen xs → seen ≤ length xs → NoFeedBelow xs seen → NoneBefore (Passes (is_byte 10) hay) 0 (length hay) found →
    Passes (is_byte 10) hay found → FirstFeed xs (seen + found)
first-found xs hay seen found e within before none here =
    let inside : seen + found < length xs = omega (arith, none.high, ap length e, length-drop seen xs) in
    let here_at : get_or xs (seen + found) 0 ≡ get_or hay found 0 = sym (rw e (get_or-drop seen xs found 0)) in
    record {
      inside = inside;
      feed = here_at ∙ eqb-true _ _ here;
      before = λ k h feed. elim (cases_lt k seen) [
        | inl low ↦ before k low feed
        | inr high ↦
            none.before (k - seen) (omega arith) (omega arith)
            (eq-eqb _ _ (at-drop xs hay seen k e high ∙ feed))
      ];
    }
