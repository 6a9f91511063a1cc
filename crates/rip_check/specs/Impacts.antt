-- What a failure leaves of the right routes, and what it costs, in numbers.
use Rattle.std.specs.Prelude.{◌≡◌, ℕ, ◌+◌, ◌*◌, ◌<◌, ◌≤◌, ◌⊎◌, Bool, Decides, Some, length, slice_get, slice_index}
use Rattle.rip_plan.specs.Network.{Network}
use Rattle.rip_check.specs.declared.aftermath.Aftermath.{Aftermath}
use Rattle.rip_check.specs.declared.aftermath.Change.{Change}
use Rattle.rip_check.specs.declared.aftermath.Change.TheVariants.{Other, Lost, Longer}
use Rattle.rip_check.specs.declared.aftermath.Impact.{Impact}
use Rattle.rip_check.specs.declared.aftermath.Part.{Part}
use Rattle.rip_check.specs.declared.failures.Failure.{Failure}
use Rattle.rip_check.specs.Expected.{IsCount, IsTotal}
use Rattle.rip_check.specs.Failures.{left_to}
use Rattle.rip_check.specs.Losses.{IsGone, IsLonger, IsLost}
use Rattle.rip_check.specs.Paths.{IsLeast}

-- there is a metric for each router and prefix, and a mark for each prefix
pub record HasRoom (n : Network) (aftermath : Aftermath) : Type 0 where
  pub metrics : length aftermath.metrics.items ≡ length n.routers * length n.prefixes
  pub gone : length aftermath.gone.items ≡ length n.prefixes

-- the least metric of each router for each prefix after the failure, and whether each prefix is
-- gone
pub record AreLeft (n : Network) (f : Failure) (aftermath : Aftermath) : Type 0 where
  pub room : HasRoom n aftermath
  pub least : (r p : ℕ) → r < length n.routers → p < length n.prefixes
      → IsLeast (left_to n (Some f) p) p r
      (slice_index aftermath.metrics.items (r * length n.prefixes + p))
  pub gone : (p : ℕ) (is_gone : Bool) → slice_get aftermath.gone.items p ≡ Some is_gone
      → Decides is_gone (IsGone n f p)

-- what becomes of router r's metric for prefix p
abbrev pub IsChange : Network → Failure → ℕ → ℕ → Change → Type 0
IsChange n f r p Other = (IsLost n f r p → ⊥) × ((w : ℕ) → IsLonger n f r p w → ⊥)
IsChange n f r p Lost = IsLost n f r p
IsChange n f r p (Longer w) = IsLonger n f r p w

-- router r loses so many prefixes
abbrev pub AreLostBy : Network → Failure → ℕ → ℕ → Type 0
AreLostBy n f r count = IsCount (IsLost n f r) (length n.prefixes) count

-- router r goes a longer way to so many prefixes
abbrev pub AreLongerOf : Network → Failure → ℕ → ℕ → Type 0
AreLongerOf n f r count = IsCount (λ p. (w : ℕ) × IsLonger n f r p w) (length n.prefixes) count

-- m is the greatest metric of router r's longer ways, or 0 where it has none
pub record IsFarthestOf (n : Network) (f : Failure) (r m : ℕ) : Type 0 where
  pub reached : (m ≡ 0) ⊎ ((p : ℕ) × (p < length n.prefixes) × IsLonger n f r p m)
  pub most : (p w : ℕ) → p < length n.prefixes → IsLonger n f r p w → w ≤ m

-- what the failure costs router r
pub record IsPart (n : Network) (f : Failure) (r : ℕ) (part : Part) : Type 0 where
  pub lost : AreLostBy n f r part.lost
  pub longer : AreLongerOf n f r part.longer
  pub farthest : IsFarthestOf n f r part.farthest

-- m is the greatest metric of all longer ways, or 0 where there is none
pub record IsFarthest (n : Network) (f : Failure) (m : ℕ) : Type 0 where
  pub reached : (m ≡ 0)
      ⊎ ((r p : ℕ) × (r < length n.routers) × (p < length n.prefixes) × IsLonger n f r p m)
  pub most : (r p w : ℕ) → r < length n.routers → p < length n.prefixes → IsLonger n f r p w
      → w ≤ m

-- router r is the first that loses most prefixes, so many
pub record IsHardestHit (n : Network) (f : Failure) (r count : ℕ) : Type 0 where
  pub known : r < length n.routers
  pub lost : AreLostBy n f r count
  pub most : (s : ℕ) → s < length n.routers → (k : ℕ) × AreLostBy n f s k × (k ≤ count)
  pub first : (s : ℕ) → s < r → (k : ℕ) × AreLostBy n f s k × (k < count)

-- what the failure costs: the numbers of pairs of a router and a prefix that are lost, of prefixes
-- that are gone and of pairs that go a longer way, the farthest of these, and who loses most
pub record IsImpact (n : Network) (f : Failure) (impact : Impact) : Type 0 where
  pub lost : IsTotal (AreLostBy n f) (length n.routers) impact.lost
  pub gone : IsCount (IsGone n f) (length n.prefixes) impact.gone
  pub longer : IsTotal (AreLongerOf n f) (length n.routers) impact.longer
  pub farthest : IsFarthest n f impact.farthest
  pub hit : IsHardestHit n f impact.hardest_hit impact.most_lost
