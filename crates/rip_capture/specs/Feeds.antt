-- Where a feed stands in what its source has given.
use Rattle.std.specs.Prelude.{◌≡◌, ◌⊎◌, ◌<◌, ℕ, Bool, true, List, ◌++◌, length, Result, Ok, Err}
use Rattle.rip_log.specs.Feeds.{held}
use Rattle.rip_capture.specs.declared.error.CaptureCode.{CaptureCode}
use Rattle.rip_capture.specs.declared.error.CaptureCode.TheVariants.{Cut, Read}
use Rattle.rip_log.specs.declared.feed.Feed.{Feed}

-- these bytes were taken: they and what is held are what the source has given
abbrev pub Behind : {R : Type 0} → (R → List ℕ) → Feed R → List ℕ → Type 0
Behind given f taken = given f.source ≡ taken ++ held f

-- nothing more was taken
abbrev pub Keeps : {R : Type 0} → (R → List ℕ) → Feed R → Feed R → Type 0
Keeps given old new = (taken : List ℕ) → Behind given old taken → Behind given new taken

-- these bytes more were taken
abbrev pub Takes : {R : Type 0} → (R → List ℕ) → Feed R → Feed R → List ℕ → Type 0
Takes given old new bytes =
    (taken : List ℕ) → Behind given old taken → Behind given new (taken ++ bytes)

-- these bytes, and then perhaps more
pub record Extends (bytes longer : List ℕ) : Type 0 where
  pub more : List ℕ
  pub whole : longer ≡ bytes ++ more

-- these bytes were passed over, of those that were held and of those behind them
pub record Skips {R : Type 0} (given : R → List ℕ) (old new : Feed R) (bytes : List ℕ)
    : Type 0 where
  pub takes : Takes given old new bytes
  pub begins : Extends (held old) (bytes ++ held new)

-- fewer bytes than so many are held, since the source failed, or since it ended
abbrev pub IsShort : ℕ → List ℕ → Bool → CaptureCode → Type 0
IsShort count b at_end code =
    (length b < count) × ((code ≡ Read) ⊎ ((code ≡ Cut) × (at_end ≡ true)))

-- so many bytes were passed over, or fewer, where b are held and there were not as many
abbrev pub SkipsSo : ℕ → List ℕ → List ℕ → Bool → Result (Unit {0}) CaptureCode → Type 0
SkipsSo count bytes b at_end (Ok done) = length bytes ≡ count
SkipsSo count bytes b at_end (Err code) = IsShort count (bytes ++ b) at_end code
