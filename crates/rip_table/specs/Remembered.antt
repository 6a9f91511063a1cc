-- What is shown in a second: what the responses that were taken up to it told last.
use Rattle.std.specs.Prelude.{◌≡◌, ◌↔◌, ℕ, zero, suc, ◌+◌, ◌<◌, ◌≤◌, true, List, ◌∷◌, ◌++◌, Some, slice_get}
use Rattle.rip_wire.specs.Prefix.{Block}
use Rattle.rip_wire.specs.declared.entry.Entry.{Entry}
use Rattle.rip_table.specs.State.{State}
use Rattle.rip_table.specs.LogJoin.{HasEntry}
use Rattle.rip_table.specs.Window.{Window, passed, shown}

-- a response that was taken, and in which second
pub record Taken : Type 0 where
  pub second : ℕ
  pub interface : ℕ
  pub entries : List Entry

-- it tells metric m of prefix p
abbrev pub IsToldBy : Taken → Block → ℕ → Type 0
IsToldBy t p m = (k : ℕ) × HasEntry t.entries k p m

-- Interface i shows metric m of prefix p in second n: a response of it told so in one of the last
-- so many seconds, and none after it told anything of the prefix.
pub record IsShownBy (seconds n : ℕ) (taken : List Taken) (i : ℕ) (p : Block) (m : ℕ)
    : Type 0 where
  pub before : List Taken
  pub last : Taken
  pub after : List Taken
  pub split : taken ≡ before ++ last ∷ after
  pub of : last.interface ≡ i
  pub told : IsToldBy last p m
  pub silent : (k : ℕ) (t : Taken) (x : ℕ)
      → slice_get after k ≡ Some t → t.interface ≡ i → IsToldBy t p x → ⊥
  pub within : n < last.second + seconds

-- interface i is heard in second n: a response of it was taken in one of the last so many seconds
abbrev pub IsHeardBy : ℕ → ℕ → List Taken → ℕ → Type 0
IsHeardBy seconds n taken i =
    (k : ℕ) × (t : Taken) × (slice_get taken k ≡ Some t) × (t.interface ≡ i)
    × (n < t.second + seconds)

-- a table shows in second n what is shown then; of its list of prefixes this says nothing
pub record ShowsIn (seconds n : ℕ) (taken : List Taken) (s : State) : Type 0 where
  pub shows : (i : ℕ) (p : Block) (m : ℕ)
      → (s.shows i p ≡ Some m) ↔ IsShownBy seconds n taken i p m
  pub heard : (i : ℕ) → (s.heard i ≡ true) ↔ IsHeardBy seconds n taken i

-- a table that forgets, so many seconds later
abbrev pub later : ℕ → Window → Window
later zero w = w
later (suc k) w = later k (passed w)

-- it shows in this second, and in each later one if nothing more comes, what is shown then
pub record Remembers (seconds n : ℕ) (taken : List Taken) (w : Window) : Type 0 where
  pub past : (k : ℕ) (t : Taken) → slice_get taken k ≡ Some t → t.second ≤ n
  pub shown : (k : ℕ) → ShowsIn seconds (n + k) taken (shown (later k w))
