-- What a router shows of a prefix: of its interfaces before a bound.
use Rattle.std.specs.Prelude.{◌≡◌, ◌≢◌, ℕ, ◌≤◌, ◌<◌, ◌⊎◌, Bool, true, false, Option, None, Some}
use Rattle.rip_plan.specs.Network.{Network}
use Rattle.rip_plan.specs.Relations.{Exchanges, HasTwoInterfaces, IsAttached, IsInterface}
use Rattle.rip_table.specs.State.{State}
use Rattle.rip_check.specs.declared.surveys.Survey.{Survey}
use Rattle.rip_check.specs.declared.way.Way.TheVariants.{Over}
use Rattle.rip_check.specs.Tables.{IsAsTold, IsSilent, MayHoldBack}
use Rattle.rip_check.specs.Firsts.{IsFirstLoud, IsShownBelow}
use Rattle.rip_check.specs.Metrics.{metric_at}
use Rattle.rip_check.specs.Networks.{block_at}

-- router r shows this metric somewhere
abbrev pub IsSpoken : Network → State → ℕ → ℕ → ℕ → Type 0
IsSpoken n shown r p m = (i l c : ℕ) × IsInterface n i r l c × (metric_at shown i p ≡ Some m)

-- a metric below 16 that the router shows, or 16 where it shows none, and whether it shows another
-- one
pub record IsSpeech
    (n : Network) (shown : State) (r p bound metric : ℕ) (another : Bool)
    : Type 0 where
  pub most : metric ≤ 16
  pub spoken : metric < 16 → (1 ≤ metric) × IsSpoken n shown r p metric
  pub mute : metric ≡ 16 → (i l c : ℕ) → i < bound → IsInterface n i r l c
      → IsSilent (metric_at shown i p)
  pub two : another ≡ true → (metric < 16) × (i v : ℕ) × IsShownBelow n shown r p i v × (v ≢ metric)
  pub one : another ≡ false → (i v : ℕ) → i < bound → IsShownBelow n shown r p i v → v ≡ metric

-- a link where the router may not hold back its own route and on which it is silent, if there is
-- one, and whether no route over such a link may show what the router shows
pub record IsSilence
    (n : Network) (shown : State) (r p bound : ℕ) (silent : Option ℕ) (blocked : Bool)
    : Type 0 where
  pub some : (l : ℕ) → silent ≡ Some l → (i c : ℕ) × (i < bound) × IsInterface n i r l c
      × IsSilent (metric_at shown i p) × (MayHoldBack n r p l → ⊥)
  pub none : silent ≡ None → (i l c : ℕ) → i < bound → IsInterface n i r l c
      → IsSilent (metric_at shown i p) → MayHoldBack n r p l
  pub no_route : blocked ≡ true → (m l : ℕ) → m < 16 → (MayHoldBack n r p l → ⊥)
      → (silent ≡ None) ⊎ (silent ≡ Some l) → IsAsTold n shown r p m (Over l) → ⊥
  pub alone : blocked ≡ false → (i l c : ℕ) → i < bound → IsInterface n i r l c
      → IsSilent (metric_at shown i p) → (silent ≡ Some l) × (metric_at shown i p ≡ Some 16)

-- interface i of router r shows a metric below 16 on the link to which prefix p is attached
pub record IsShownThere (n : Network) (shown : State) (r p i : ℕ) : Type 0 where
  pub metric : ℕ
  pub below : IsShownBelow n shown r p i metric
  pub attached : IsAttached n r p below.link

-- whether the router shows a metric below 16 on the link to which the prefix is attached, so that
-- its route is not its own
pub record IsTelling
    (n : Network) (shown : State) (r p bound : ℕ) (not_here : Bool)
    : Type 0 where
  pub some : not_here ≡ true → (i : ℕ) × IsShownThere n shown r p i
  pub none : not_here ≡ false → (i : ℕ) → i < bound → IsShownThere n shown r p i → ⊥

-- all of this
pub record IsSurvey (n : Network) (shown : State) (r p bound : ℕ) (found : Survey) : Type 0 where
  pub speech : IsSpeech n shown r p bound found.metric found.another
  pub silence : IsSilence n shown r p bound found.silent found.blocked
  pub telling : IsTelling n shown r p bound found.not_here

-- the first interface of the router before the bound, if there is one, and whether there is another
pub record IsReach (n : Network) (r bound : ℕ) (first : Option ℕ) (more : Bool) : Type 0 where
  pub some : (i : ℕ) → first ≡ Some i → (l c : ℕ) × IsInterface n i r l c
  pub before : (i j l c : ℕ) → first ≡ Some i → j < i → IsInterface n j r l c → ⊥
  pub none : first ≡ None → (i l c : ℕ) → i < bound → IsInterface n i r l c → ⊥
  pub two : more ≡ true → HasTwoInterfaces n r
  pub one : more ≡ false → (i j l c : ℕ) → first ≡ Some i → j < bound → IsInterface n j r l c
      → j ≡ i

-- the link of the first interface before the bound that shows a metric below 16 where the prefix of
-- this number is not exchanged, if there is one
abbrev pub IsLoudness : Network → State → ℕ → ℕ → ℕ → Option ℕ → Type 0
IsLoudness n shown r p bound None =
    (i l c : ℕ) → i < bound → IsInterface n i r l c
    → (Exchanges n l (block_at shown.prefixes p) → ⊥) → IsSilent (metric_at shown i p)
IsLoudness n shown r p bound (Some l) = IsFirstLoud n shown r p l
