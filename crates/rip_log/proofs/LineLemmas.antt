-- The first line of a text.
use Rattle.std.proofs.Common.{◌≡◌, ◌≢◌, ℕ, zero, suc, List, [], ◌∷◌, ◌++◌, length, take, drop, refl, ap, ◌∙◌, arith}
use Rattle.rip_log.specs.Fields.{onto}
use Rattle.rip_log.specs.Lines.{lines_of}
use Rattle.rip_log.specs.Ends.{NoFeedBelow, FirstFeed}

-- a byte that is no line feed goes onto the first line
pub lines_of-other : (b : ℕ) (bytes : List ℕ) → b ≢ 10 → lines_of (b ∷ bytes) ≡ onto b (lines_of bytes)
lines_of-other b bytes h = grind arith

-- a line feed ends the first line
lines_of-feed_first : (b : ℕ) (bytes : List ℕ) → b ≡ 10 → lines_of (b ∷ bytes) ≡ [] ∷ lines_of bytes
lines_of-feed_first b bytes h = grind arith

pub below-rest : (b : ℕ) (xs : List ℕ) (n : ℕ) → NoFeedBelow (b ∷ xs) (suc n) → NoFeedBelow xs n
below-rest b xs n before k h feed = before (suc k) (omega arith) feed

-- the bytes before the first line feed are the first line
pub lines_of-feed : (xs ys : List ℕ) (k : ℕ) → FirstFeed xs k → lines_of (xs ++ ys) ≡ take k xs ∷ lines_of (drop (suc k) xs ++ ys)
lines_of-feed [] ys k f = absurd (omega (arith, f.inside))
lines_of-feed (b ∷ xs) ys zero f = lines_of-feed_first b (xs ++ ys) f.feed
lines_of-feed (b ∷ xs) ys (suc k) f =
    let rest : FirstFeed xs k = record { inside = omega (arith, f.inside); feed = f.feed; before = below-rest b xs k f.before } in
    lines_of-other b (xs ++ ys) (f.before 0 (omega arith)) ∙ ap (onto b) (lines_of-feed xs ys k rest)

-- a line, with these bytes at its front, and the lines after it
abbrev BeginsWith : List ℕ → List (List ℕ) → Type 0
BeginsWith xs lines = (more : List ℕ) × (rest : List (List ℕ)) × (lines ≡ (xs ++ more) ∷ rest)

onto-first : (b : ℕ) (lines : List (List ℕ)) → BeginsWith (b ∷ []) (onto b lines)
onto-first b [] = ([], [], refl)
onto-first b (l ∷ ls) = (l, ls, refl)

-- bytes without a line feed are the front of the first line
pub lines_of-front : (b : ℕ) (xs ys : List ℕ) → NoFeedBelow (b ∷ xs) (suc (length xs)) → BeginsWith (b ∷ xs) (lines_of ((b ∷ xs) ++ ys))
lines_of-front b [] ys none =
    let first = onto-first b (lines_of ys) in
    (first.0, first.1, lines_of-other b ys (none 0 (omega arith)) ∙ first.2)
lines_of-front b (x ∷ xs) ys none =
    let rest = lines_of-front x xs ys (below-rest b (x ∷ xs) _ none) in
    (rest.0, rest.1, lines_of-other b ((x ∷ xs) ++ ys) (none 0 (omega arith)) ∙ ap (onto b) rest.2)

-- bytes without a line feed, and nothing after them, are one line
pub lines_of-last : (b : ℕ) (xs : List ℕ) → NoFeedBelow (b ∷ xs) (suc (length xs)) → lines_of (b ∷ xs) ≡ (b ∷ xs) ∷ []
lines_of-last b [] none = lines_of-other b [] (none 0 (omega arith))
lines_of-last b (x ∷ xs) none =
    lines_of-other b (x ∷ xs) (none 0 (omega arith)) ∙ ap (onto b) (lines_of-last x xs (below-rest b (x ∷ xs) _ none))
