-- What taking the first line off a window leaves.
use Rattle.std.proofs.Common.{◌≡◌, ◌+◌, ◌-◌, ◌≤◌, ◌<◌, ℕ, zero, suc, List, [], ◌∷◌, ◌++◌, Option, Some, None, length, take, drop, slice_range, refl, sym, ap, ◌∙◌, arith, append-nil, append_assoc, Bool, true, false, cond, ◌==◌}
use Rattle.std.proofs.lemmas.List.{take-take, drop-take, drop-drop, length-take, length-drop, length-append, take-append-drop, get_or-take}
use Rattle.std.specs.Prelude.{nat_lt}
use Rattle.std.proofs.lemmas.List.{nil_from_length}
use Rattle.std.specs.Io.KnownBytes.{Keeps, IsAtEnd, prepend_known}
use Rattle.rip_log.specs.Lines.{lines_of}
use Rattle.rip_log.specs.Ends.{NoFeedBelow, FirstFeed}
use Rattle.rip_log.specs.Fields.{onto}
use Rattle.rip_log.specs.Cuts.{FirstLine, LongFirst, HasLine}
use Rattle.rip_log.proofs.LineLemmas.{lines_of-feed, lines_of-front, lines_of-last}

pub length-range : (items : List ℕ) (start end : ℕ) → start ≤ end → end ≤ length items → length (slice_range items start end) ≡ end - start
length-range items start end ordered within = length-take (end - start) (drop start items) ∙ omega (arith, length-drop start items)

pub range-front : (items : List ℕ) (start end at : ℕ) → start + at ≤ end → take at (slice_range items start end) ≡ slice_range items start (start + at)
range-front items start end at h =
    take-take at (end - start) (drop start items) (omega arith) ∙ ap (λ n. take n (drop start items)) (omega arith)

pub range-drop : (items : List ℕ) (start end at : ℕ) → start + at ≤ end → drop at (slice_range items start end) ≡ slice_range items (start + at) end
range-drop items start end at h =
    let split : end - start ≡ at + (end - (start + at)) = omega arith in
    ap (λ n. drop at (take n (drop start items))) split
    ∙ drop-take at (end - (start + at)) (drop start items)
    ∙ ap (take (end - (start + at))) (drop-drop at start items)

-- the first bytes, and then the others and what follows
pub cut-at : (xs ys : List ℕ) (n : ℕ) → xs ++ ys ≡ take n xs ++ (drop n xs ++ ys)
cut-at xs ys n = ap (λ l. l ++ ys) (sym (take-append-drop n xs)) ∙ append_assoc (take n xs) (drop n xs) ys

-- what is left where a line was taken, and then its line feed
pub behind-feed : (xs : List ℕ) (at : ℕ) → drop 1 (drop at xs) ≡ drop (suc at) xs
behind-feed xs at = drop-drop 1 at xs ∙ ap (λ n. drop n xs) {x = at + 1} {y = suc at} (omega arith)

-- a line that a line feed ends
pub feed-cut : (old left : Option (List ℕ)) (xs line rest : List ℕ) (at : ℕ) → line ≡ take at xs → rest ≡ drop (suc at) xs
    → Keeps old (prepend_known xs left) → FirstFeed xs at → FirstLine old (prepend_known rest left) line
feed-cut None left xs line rest at taken behind keeps f = tt
feed-cut (Some t) None xs line rest at taken behind keeps f = absurd keeps
feed-cut (Some t) (Some ys) xs line rest at taken behind keeps f = (
  ap lines_of (sym keeps) ∙ lines_of-feed xs ys at f ∙ ap (λ l. l ∷ lines_of (drop (suc at) xs ++ ys)) (sym taken) ∙ ap (λ l. line ∷ lines_of (l ++ ys)) (sym behind),
  take (suc at) xs,
  sym keeps ∙ cut-at xs ys (suc at) ∙ ap (λ l. take (suc at) xs ++ (l ++ ys)) (sym behind),
)

last-of : (xs : List ℕ) → NoFeedBelow xs (length xs) → 0 < length xs → lines_of xs ≡ xs ∷ []
last-of [] none some = absurd (omega arith)
last-of (b ∷ xs) none some = lines_of-last b xs none

-- a last line that the end of the text ends
pub last-cut : (old left : Option (List ℕ)) (xs rest : List ℕ) → rest ≡ [] → 0 < length xs → IsAtEnd left
    → Keeps old (prepend_known xs left) → NoFeedBelow xs (length xs) → FirstLine old (prepend_known rest left) xs
last-cut None left xs rest empty some end keeps none = tt
last-cut (Some t) None xs rest empty some end keeps none = absurd keeps
last-cut (Some t) (Some ys) xs rest empty some end keeps none = (
  ap lines_of (sym keeps ∙ ap (λ l. xs ++ l) end ∙ append-nil xs) ∙ last-of xs none some ∙ ap (λ l. xs ∷ lines_of l) (sym (ap (λ l. l ++ ys) empty ∙ end)),
  xs,
  sym keeps ∙ ap (λ l. xs ++ (l ++ ys)) (sym empty),
)

long-front_of : (xs ys : List ℕ) → NoFeedBelow xs (length xs) → length xs ≡ 2049 → (line : List ℕ) × (rest : List (List ℕ)) × (2048 < length line) × (lines_of (xs ++ ys) ≡ line ∷ rest)
long-front_of [] ys none long = absurd (omega arith)
long-front_of (b ∷ xs) ys none long =
    let first = lines_of-front b xs ys none in
    ((b ∷ xs) ++ first.0, first.1, omega (arith, long, length-append (b ∷ xs) first.0), first.2)

-- the front of bytes without a line feed has none
no-feed-front : (xs : List ℕ) (n : ℕ) → n ≤ length xs → NoFeedBelow xs n → NoFeedBelow (take n xs) (length (take n xs))
no-feed-front xs n within none k inside feed =
    let below : k < n = omega (arith, length-take n xs) in
    none k below (sym (get_or-take n xs k 0 below) ∙ feed)

long-front : (xs ys : List ℕ) → NoFeedBelow xs 2049 → 2049 ≤ length xs → (line : List ℕ) × (rest : List (List ℕ)) × (2048 < length line) × (lines_of (xs ++ ys) ≡ line ∷ rest)
long-front xs ys none long =
    let found = long-front_of (take 2049 xs) (drop 2049 xs ++ ys) (no-feed-front xs 2049 long none) (length-take 2049 xs ∙ omega arith) in
    let split : xs ++ ys ≡ take 2049 xs ++ (drop 2049 xs ++ ys) = ap (λ l. l ++ ys) (sym (take-append-drop 2049 xs)) ∙ append_assoc (take 2049 xs) (drop 2049 xs) ys in
    (found.0, found.1, found.2, ap lines_of split ∙ found.3)

-- a line that goes on past the most bytes
pub long-cut : (old left : Option (List ℕ)) (xs : List ℕ) → Keeps old (prepend_known xs left) → NoFeedBelow xs 2049 → 2049 ≤ length xs → LongFirst old
long-cut None left xs keeps none long = tt
long-cut (Some t) None xs keeps none long = absurd keeps
long-cut (Some t) (Some ys) xs keeps none long =
    let found = long-front xs ys none long in
    (found.0, found.1, found.2, ap lines_of (sym keeps) ∙ found.3)

onto-some : (b : ℕ) (lines : List (List ℕ)) → (line : List ℕ) × (rest : List (List ℕ)) × (onto b lines ≡ line ∷ rest)
onto-some b [] = (b ∷ [], [], refl)
onto-some b (l ∷ ls) = (b ∷ l, ls, refl)

first-of : (b : ℕ) (x : Bool) (lines : List (List ℕ)) → (line : List ℕ) × (rest : List (List ℕ)) × (cond x ([] ∷ lines) (onto b lines) ≡ line ∷ rest)
first-of b true lines = ([], lines, refl)
first-of b false lines = onto-some b lines

lines-some : (t : List ℕ) → 0 < length t → (line : List ℕ) × (rest : List (List ℕ)) × (lines_of t ≡ line ∷ rest)
lines-some [] some = absurd (omega arith)
lines-some (b ∷ t) some = first-of b (b == 10) (lines_of t)

-- held bytes are bytes of a line
pub HasLine-held : (xs : List ℕ) (left : Option (List ℕ)) → 0 < length xs → HasLine (prepend_known xs left) true
HasLine-held xs None some = tt
HasLine-held xs (Some ys) some = lines-some (xs ++ ys) (omega (arith, length-append xs ys))

-- where nothing is held and the source has nothing left there is no line
pub HasLine-none : (xs : List ℕ) (left : Option (List ℕ)) → xs ≡ [] → IsAtEnd left → HasLine (prepend_known xs left) false
HasLine-none xs None empty end = tt
HasLine-none xs (Some ys) empty end = ap (λ l. l ++ ys) empty ∙ end

count-none : (xs : List ℕ) (n : ℕ) → length xs ≡ n → nat_lt 0 n ≡ false → (xs ≡ []) × (n ≡ 0)
count-none xs zero count e = (nil_from_length xs count, refl)
count-none xs (suc n) count e = absurd (grind arith)

count-some : (n : ℕ) → nat_lt 0 n ≡ true → 0 < n
count-some n e = grind arith

HasLine-by : (xs : List ℕ) (left : Option (List ℕ)) (n : ℕ) (b : Bool) → length xs ≡ n → (n ≡ 0 → IsAtEnd left) → nat_lt 0 n ≡ b → HasLine (prepend_known xs left) b
HasLine-by xs left n true count end e = HasLine-held xs left (omega (arith, count, count-some n e))
HasLine-by xs left n false count end e =
    let none = count-none xs n count e in
    HasLine-none xs left none.0 (end none.1)

-- where as many bytes came as are held, there is a line exactly where some did
pub HasLine-count : (xs : List ℕ) (left : Option (List ℕ)) (n : ℕ) → length xs ≡ n → (n ≡ 0 → IsAtEnd left) → HasLine (prepend_known xs left) (nat_lt 0 n)
HasLine-count xs left n count end = HasLine-by xs left n (nat_lt 0 n) count end refl
