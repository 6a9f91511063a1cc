-- Where the first line of what a window holds ends.
use Rattle.std.specs.Prelude.{◌≡◌, ◌<◌, ◌≤◌, ◌+◌, ℕ, Bool, true, List, length, slice_index}
use Rattle.rip_log.specs.declared.window.LineEnd.{LineEnd}
use Rattle.rip_log.specs.declared.window.LineEnd.TheVariants.{Feed, Last, Long}
use Rattle.rip_log.specs.declared.limits.TheConstants.{MOST_LINE_BYTES}

-- no byte below n is a line feed
abbrev pub NoFeedBelow : List ℕ → ℕ → Type 0
NoFeedBelow xs n = (k : ℕ) → k < n → slice_index xs k ≡ 10 → ⊥

-- k is the first line feed
pub record FirstFeed (xs : List ℕ) (k : ℕ) : Type 0 where
  pub inside : k < length xs
  pub feed : slice_index xs k ≡ 10
  pub before : NoFeedBelow xs k

-- the first line of these bytes and those after them ends so, where at_end says that none come
-- after them
abbrev pub Ends : List ℕ → Bool → LineEnd → Type 0
Ends xs at_end (Feed k) = FirstFeed xs k × (k ≤ MOST_LINE_BYTES)
Ends xs at_end Last =
    NoFeedBelow xs (length xs) × (at_end ≡ true) × (length xs ≤ MOST_LINE_BYTES)
Ends xs at_end Long = NoFeedBelow xs (MOST_LINE_BYTES + 1) × (MOST_LINE_BYTES + 1 ≤ length xs)
