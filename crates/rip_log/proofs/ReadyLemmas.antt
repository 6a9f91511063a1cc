-- The lines that are ready in some bytes.
use Rattle.std.proofs.Common.{◌≡◌, ◌≢◌, ◌+◌, ◌≤◌, ◌<◌, ◌==◌, ℕ, zero, suc, Bool, true, false, cond, List, [], ◌∷◌, length, drop, refl, sym, ap, ◌∙◌, arith}
use Rattle.rip_log.specs.Ends.{NoFeedBelow, FirstFeed}
use Rattle.rip_log.specs.Held.{ended_lines, ready_behind, ready_lines}
use Rattle.rip_log.proofs.LineLemmas.{below-rest}

ready-other : (n b : ℕ) (bytes : List ℕ) → b ≢ 10 → ready_behind n (b ∷ bytes) ≡ ready_behind (n + 1) bytes
ready-other n b bytes h = grind arith

ready-feed_first : (n b : ℕ) (bytes : List ℕ) → b ≡ 10 → ready_behind n (b ∷ bytes) ≡ ready_behind 0 bytes + 1
ready-feed_first n b bytes h = grind arith

ready-short : (n : ℕ) → n ≤ 2048 → ready_behind n [] ≡ 0
ready-short n h = grind arith

ready-behind : (n : ℕ) (xs : List ℕ) (k : ℕ) → FirstFeed xs k → ready_behind n xs ≡ ready_lines (drop (suc k) xs) + 1
ready-behind n [] k f = absurd (omega (arith, f.inside))
ready-behind n (b ∷ xs) zero f = ready-feed_first n b xs f.feed
ready-behind n (b ∷ xs) (suc k) f =
    let rest : FirstFeed xs k = record { inside = omega (arith, f.inside); feed = f.feed; before = below-rest b xs k f.before } in
    ready-other n b xs (f.before 0 (omega arith)) ∙ ready-behind (n + 1) xs k rest

none-behind : (n : ℕ) (xs : List ℕ) → NoFeedBelow xs (length xs) → n + length xs ≤ 2048 → ready_behind n xs ≡ 0
none-behind n [] none short = ready-short n (omega arith)
none-behind n (b ∷ xs) none short =
    ready-other n b xs (none 0 (omega arith)) ∙ none-behind (n + 1) xs (below-rest b xs (length xs) none) (omega arith)

-- the line that the first line feed ends is one of them
pub ready-feed : (xs : List ℕ) (k : ℕ) → FirstFeed xs k → ready_lines xs ≡ ready_lines (drop (suc k) xs) + 1
ready-feed xs k f = ready-behind 0 xs k f

-- none is ready in a few bytes without a line feed
pub ready-none : (xs : List ℕ) → NoFeedBelow xs (length xs) → length xs ≤ 2048 → ready_lines xs ≡ 0
ready-none xs none short = none-behind 0 xs none (omega arith)

-- where these bytes are those that were held before, none was ready then
pub none-before : {W : Type 0} (held_of : W → List ℕ) (now before : W) → now ≡ before → NoFeedBelow (held_of now) (length (held_of now)) → length (held_of now) ≤ 2048 →
    0 < ready_lines (held_of before) → ⊥
none-before held_of now before same none short ready =
    let zero_ready : ready_lines (held_of before) ≡ 0 = ap (λ w. ready_lines (held_of w)) (sym same) ∙ ready-none (held_of now) none short in
    omega (arith, zero_ready, ready)

ended-other : (b : ℕ) (bytes : List ℕ) → b ≢ 10 → ended_lines (b ∷ bytes) ≡ ended_lines bytes
ended-other b bytes h = grind arith

ended-feed_first : (b : ℕ) (bytes : List ℕ) → b ≡ 10 → ended_lines (b ∷ bytes) ≡ ended_lines bytes + 1
ended-feed_first b bytes h = grind arith

-- the line that the first line feed ends is one of those that are ended
pub ended-feed : (xs : List ℕ) (k : ℕ) → FirstFeed xs k → ended_lines xs ≡ ended_lines (drop (suc k) xs) + 1
ended-feed [] k f = absurd (omega (arith, f.inside))
ended-feed (b ∷ xs) zero f = ended-feed_first b xs f.feed
ended-feed (b ∷ xs) (suc k) f =
    let rest : FirstFeed xs k = record { inside = omega (arith, f.inside); feed = f.feed; before = below-rest b xs k f.before } in
    ended-other b xs (f.before 0 (omega arith)) ∙ ended-feed xs k rest

-- none is ended in bytes without a line feed
pub ended-none : (xs : List ℕ) → NoFeedBelow xs (length xs) → ended_lines xs ≡ 0
ended-none [] none = refl
ended-none (b ∷ xs) none = ended-other b xs (none 0 (omega arith)) ∙ ended-none xs (below-rest b xs (length xs) none)

ready-or : (n b : ℕ) (bytes : List ℕ) (x : Bool) → ended_lines bytes ≤ ready_behind 0 bytes → ended_lines bytes ≤ ready_behind (n + 1) bytes
    → cond x (ended_lines bytes + 1) (ended_lines bytes) ≤ cond x (ready_behind 0 bytes + 1) (ready_behind (n + 1) bytes)
ready-or n b bytes true fed other = omega (arith, fed)
ready-or n b bytes false fed other = other

ended-behind : (n : ℕ) (xs : List ℕ) → ended_lines xs ≤ ready_behind n xs
ended-behind n [] = omega arith
ended-behind n (b ∷ xs) = ready-or n b xs (b == 10) (ended-behind 0 xs) (ended-behind (n + 1) xs)

-- a line that is ended is ready
pub ended-ready : (xs : List ℕ) → 0 < ended_lines xs → 0 < ready_lines xs
ended-ready xs some = omega (arith, some, ended-behind 0 xs)

-- where these bytes are those that were held before, none was ended then
pub none-ended : {W : Type 0} (held_of : W → List ℕ) (now before : W) → now ≡ before → NoFeedBelow (held_of now) (length (held_of now)) → 0 < ended_lines (held_of before) → ⊥
none-ended held_of now before same none some =
    let zero_ended : ended_lines (held_of before) ≡ 0 = ap (λ w. ended_lines (held_of w)) (sym same) ∙ ended-none (held_of now) none in
    omega (arith, zero_ended, some)
