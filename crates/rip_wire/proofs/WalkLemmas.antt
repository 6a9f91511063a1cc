-- Reading entries one after the other, as a loop does.
use Rattle.std.proofs.Common.{◌≡◌, ℕ, zero, suc, ◌+◌, ◌-◌, ◌*◌, ◌<◌, ◌≤◌, true, List, [], ◌∷◌, ◌++◌, Some, Result, Ok, Err, length, take, refl, sym, ap, ◌∙◌, arith, is_ok}
use Rattle.std.specs.List.{slice_get}
use Rattle.std.proofs.Math.Seq.{take-suc}
use Rattle.std.proofs.lemmas.Option.{get_or_from_slice_get}
use Rattle.rip_wire.specs.declared.entry.Entry.{Entry}
use Rattle.rip_wire.specs.declared.error.WireError.{WireError}
use Rattle.rip_wire.specs.Fields.{entry_offset}
use Rattle.rip_wire.specs.Message.{◌>>=◌, entry_at, entries_at}
use Rattle.rip_wire.proofs.BindLemmas.{bind_ok, same_Ok}

-- all entries end as the rest of them does
pub record EndsAs (rest all : Result (List Entry) WireError) : Type 0 where
  pub ok : is_ok rest ≡ true → is_ok all ≡ true
  pub err : (e : WireError) → rest ≡ Err e → all ≡ Err e

-- the rest from entry i on
abbrev pub rest_of : ℕ → ℕ → List ℕ → Result (List Entry) WireError
rest_of count i b = entries_at (count - i) (entry_offset i) b

pub EndsAs-first : (count : ℕ) (b : List ℕ) → EndsAs (rest_of count 0 b) (entries_at count 4 b)
EndsAs-first count b =
    let all : rest_of count 0 b ≡ entries_at count 4 b = let left : count - 0 ≡ count = omega arith in rw left refl in
    record { ok = λ h. rw all at h; err = λ e h. sym all ∙ h }

unfolded : (count i : ℕ) (b : List ℕ) → i < count → rest_of count i b ≡ (entry_at (entry_offset i) b >>= λ e. rest_of count (i + 1) b >>= λ es. Ok (e ∷ es))
unfolding entries_at
unfolded count i b lt =
    let left : count - i ≡ suc (count - (i + 1)) = omega arith in
    let next : entry_offset i + 20 ≡ entry_offset (i + 1) = omega arith in
    rw (left, next) refl

-- an entry that is read leaves the rest after it
pub EndsAs-more : (count i : ℕ) (b : List ℕ) (e : Entry) (all : Result (List Entry) WireError) → i < count → entry_at (entry_offset i) b ≡ Ok e → EndsAs (rest_of count i b) all →
    EndsAs (rest_of count (i + 1) b) all
EndsAs-more count i b e all lt here so_far = record {
  ok = λ h. so_far.ok (rw joined (goes_on (rest_of count (i + 1) b) h));
  err = λ f h. so_far.err f (joined ∙ rw h refl);
}
  where
    joined : rest_of count i b ≡ (rest_of count (i + 1) b >>= λ es. Ok (e ∷ es))
    joined = unfolded count i b lt ∙ rw here refl

    goes_on : (r : Result (List Entry) WireError) → is_ok r ≡ true → is_ok (r >>= λ es. Ok (e ∷ es)) ≡ true
    goes_on (Ok es) h = refl
    goes_on (Err f) h = h

-- an entry without a fault leaves the rest after it
pub EndsAs-good : (count i : ℕ) (b : List ℕ) (all : Result (List Entry) WireError) → i < count → is_ok (entry_at (entry_offset i) b) ≡ true → EndsAs (rest_of count i b) all →
    EndsAs (rest_of count (i + 1) b) all
EndsAs-good count i b all lt good so_far = cases (entry_at (entry_offset i) b) refl good
  where
    cases : (r : Result Entry WireError) → entry_at (entry_offset i) b ≡ r → is_ok r ≡ true → EndsAs (rest_of count (i + 1) b) all
    cases (Ok e) here g = EndsAs-more count i b e all lt here so_far
    cases (Err f) here g = absurd (cc)

-- a fault of an entry is that of all
pub EndsAs-fault : (count i : ℕ) (b : List ℕ) (f : WireError) (all : Result (List Entry) WireError) → i < count → entry_at (entry_offset i) b ≡ Err f → EndsAs (rest_of count i b) all → all ≡ Err f
EndsAs-fault count i b f all lt here so_far = so_far.err f (unfolded count i b lt ∙ rw here refl)

-- after the last entry all are read
pub EndsAs-last : (count i : ℕ) (b : List ℕ) (all : Result (List Entry) WireError) → count ≤ i → EndsAs (rest_of count i b) all → is_ok all ≡ true
unfolding entries_at
EndsAs-last count i b all le so_far =
    let none : count - i ≡ 0 = omega arith in
    so_far.ok (rw none refl)

-- an entry of those that are read
pub record HasEntry (es : List Entry) (k i : ℕ) (b : List ℕ) : Type 0 where
  pub entry : Entry
  pub read : entry_at (k + 20 * i) b ≡ Ok entry
  pub here : slice_get es i ≡ Some entry

pub entries_at-get : (n k i : ℕ) (b : List ℕ) (es : List Entry) → entries_at n k b ≡ Ok es → i < n → HasEntry es k i b
unfolding entries_at
entries_at-get zero k i b es h lt = absurd (omega arith)
entries_at-get (suc n) k zero b es h lt =
    let first = bind_ok (entry_at k b) _ es h in
    let rest = bind_ok (entries_at n (k + 20) b) _ es first.2 in
    let same : k + 20 * 0 ≡ k = omega arith in
    record { entry = first.0; read = rw same first.1; here = sym (ap (λ (l : List Entry). slice_get l 0) (same_Ok _ es rest.2)) }
entries_at-get (suc n) k (suc i) b es h lt =
    let first = bind_ok (entry_at k b) _ es h in
    let rest = bind_ok (entries_at n (k + 20) b) _ es first.2 in
    let found = entries_at-get n (k + 20) i b rest.0 rest.1 (omega arith) in
    let same : k + 20 * suc i ≡ (k + 20) + 20 * i = omega arith in
    record { entry = found.entry; read = rw same found.read; here = sym (ap (λ (l : List Entry). slice_get l (suc i)) (same_Ok _ es rest.2)) ∙ found.here }

pub length-entries_at : (n k : ℕ) (b : List ℕ) (es : List Entry) → entries_at n k b ≡ Ok es → length es ≡ n
unfolding entries_at
length-entries_at zero k b es h = sym (ap length (same_Ok [] es h))
length-entries_at (suc n) k b es h =
    let first = bind_ok (entry_at k b) _ es h in
    let rest = bind_ok (entries_at n (k + 20) b) _ es first.2 in
    let others = length-entries_at n (k + 20) b rest.0 rest.1 in
    sym (ap length (same_Ok _ es rest.2)) ∙ ap suc others

-- what has no fault is a list of entries
pub all_entries : (r : Result (List Entry) WireError) → is_ok r ≡ true → (es : List Entry) × (r ≡ Ok es)
all_entries (Ok es) h = (es, refl)
all_entries (Err f) h = absurd (cc)

-- each entry of those without a fault has none
pub good_at : (n k i : ℕ) (b : List ℕ) → is_ok (entries_at n k b) ≡ true → i < n → is_ok (entry_at (k + 20 * i) b) ≡ true
good_at n k i b h lt =
    let all = all_entries (entries_at n k b) h in
    let here = entries_at-get n k i b all.0 all.1 lt in
    ap is_ok here.read

-- the entries up to one, and it
pub take-entry : (n k i : ℕ) (b : List ℕ) (es : List Entry) (e : Entry) → entries_at n k b ≡ Ok es → i < n → entry_at (k + 20 * i) b ≡ Ok e → take (i + 1) es ≡ take i es ++ e ∷ []
take-entry n k i b es e h lt read =
    let here = entries_at-get n k i b es h lt in
    let same : here.entry ≡ e = same_Ok here.entry e (sym here.read ∙ read) in
    let within : i < length es = omega (arith, lt, length-entries_at n k b es h) in
    let one : i + 1 ≡ suc i = omega arith in
    ap (λ (m : ℕ). take m es) one
    ∙ take-suc es i e within
    ∙ ap (λ (x : Entry). take i es ++ x ∷ []) (get_or_from_slice_get es i here.entry e here.here ∙ same)
