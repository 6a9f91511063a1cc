-- The right routes of a plan.
use Rattle.std.specs.Prelude.{◌≡◌, ℕ, zero, suc, ◌+◌, ◌*◌, ◌<◌, ◌⊎◌, length, slice_index}
use Rattle.rip_plan.specs.Network.{Network}
use Rattle.rip_check.specs.declared.expected.Expected.{Expected}
use Rattle.rip_check.specs.Networks.{network_at}
use Rattle.rip_check.specs.Paths.{IsLeast}
use Rattle.rip_check.specs.Tables.{Route, FitsWay}
use Rattle.rip_check.specs.Settled.{IsRight}

-- A right route of router r for prefix p: its metric is the least cost of a path, its way begins
-- such a path, and the two go together.
pub record IsExpected (n : Network) (r p : ℕ) (route : Route) : Type 0 where
  pub right : IsRight n r p route
  pub way_fits : FitsWay n r p route.metric route.way

-- the least metric of each router for each prefix of the plan
pub record AreExpected (n : Network) (expected : Expected) : Type 0 where
  pub size : length expected.metrics.items ≡ length n.routers * length n.prefixes
  pub least : (r p : ℕ) → r < length n.routers → p < length n.prefixes
      → IsLeast (network_at n n.prefixes p) p r
      (slice_index expected.metrics.items (r * length n.prefixes + p))

-- so many of the numbers below a bound are of this kind
abbrev pub IsCount : (ℕ → Type 0) → ℕ → ℕ → Type 0
IsCount IsKind zero count = count ≡ 0
IsCount IsKind (suc k) count =
    ((IsKind k → ⊥) × IsCount IsKind k count)
    ⊎ ((before : ℕ) × IsKind k × IsCount IsKind k before × (count ≡ before + 1))

-- the sum of the parts that the numbers below a bound have
abbrev pub IsTotal : (ℕ → ℕ → Type 0) → ℕ → ℕ → Type 0
IsTotal IsPart zero total = total ≡ 0
IsTotal IsPart (suc k) total =
    (before part : ℕ) × IsTotal IsPart k before × IsPart k part × (total ≡ before + part)

-- so many pairs of a router and a prefix of the plan have 16 for their least metric
abbrev pub AreUnreachable : Network → ℕ → Type 0
AreUnreachable n total =
    IsTotal (λ r. IsCount (λ p. IsLeast (network_at n n.prefixes p) p r 16) (length n.prefixes))
    (length n.routers) total
