-- When a route agrees with what the neighbours show, and when it is right.
use Rattle.std.specs.Prelude.{◌≡◌, ℕ, ◌≤◌, ◌<◌, ◌⊎◌, List, length}
use Rattle.rip_wire.specs.Prefix.{Block}
use Rattle.rip_plan.specs.Network.{Network}
use Rattle.rip_plan.specs.Relations.{IsDirect, IsKept}
use Rattle.rip_table.specs.State.{State}
use Rattle.rip_check.specs.Networks.{network_at}
use Rattle.rip_check.specs.Paths.{HasAtCost, HasPathOver, HasPlainPathOver, IsLeast, IsPlainLeast}
use Rattle.rip_check.specs.Tables.{Tables, Route, Offers}
use Rattle.rip_check.specs.declared.way.Way.{Way}
use Rattle.rip_check.specs.declared.way.Way.TheVariants.{Unreachable, Here, Over}

-- router r does not keep prefix p, and takes v where it is offered
abbrev pub MayTake : Network → State → ℕ → ℕ → ℕ → Type 0
MayTake n shown r p v = (IsKept n r p → ⊥) × ((l s : ℕ) × Offers n shown r l s p v)

-- what router r can choose its metric from: 16, its direct cost, and each offer where it does not
-- keep the prefix
abbrev pub IsChoice : Network → State → ℕ → ℕ → ℕ → Type 0
IsChoice n shown r p v = (v ≡ 16) ⊎ (IsDirect n r p v ⊎ MayTake n shown r p v)

-- the least of 16, the direct cost and all offers; the direct cost where the prefix is kept
pub record IsLeastChoice (n : Network) (shown : State) (r p v : ℕ) : Type 0 where
  pub chosen : IsChoice n shown r p v
  pub least : (w : ℕ) → IsChoice n shown r p w → v ≤ w

-- the way gives the metric
abbrev pub IsGiven : Network → State → ℕ → ℕ → ℕ → Way → Type 0
IsGiven n shown r p m Unreachable = Unit {0}
IsGiven n shown r p m Here = IsDirect n r p m
IsGiven n shown r p m (Over l) = (IsKept n r p → ⊥) × ((s : ℕ) × Offers n shown r l s p m)

-- the place holds: the metric is the least choice, and the way gives it
pub record Holds (n : Network) (shown : State) (r p : ℕ) (route : Route) : Type 0 where
  pub choice : IsLeastChoice n shown r p route.metric
  pub given : IsGiven n shown r p route.metric route.way

-- the way begins a path that costs the metric
abbrev pub GoesRight : Network → ℕ → ℕ → ℕ → Way → Type 0
GoesRight n p r m Unreachable = Unit {0}
GoesRight n p r m Here = IsDirect n r p m
GoesRight n p r m (Over l) = HasPathOver n p r l m

-- the metric is the least cost of a path, and the way begins such a path
pub record IsRight (n : Network) (r p : ℕ) (route : Route) : Type 0 where
  pub least : IsLeast n p r route.metric
  pub goes : GoesRight n p r route.metric route.way

-- the way begins a path over any neighbours that costs the metric
abbrev pub GoesPlainly : Network → ℕ → ℕ → ℕ → Way → Type 0
GoesPlainly n p r m Unreachable = Unit {0}
GoesPlainly n p r m Here = HasAtCost n r p m
GoesPlainly n p r m (Over l) = HasPlainPathOver n p r l m

-- the metric is the least cost of a path over any neighbours, and the way begins such a path
pub record IsPlainRight (n : Network) (r p : ℕ) (route : Route) : Type 0 where
  pub least : IsPlainLeast n p r route.metric
  pub goes : GoesPlainly n p r route.metric route.way

-- each place's equation holds, in the network of its prefix
abbrev pub HoldsAll : Network → State → Tables → Type 0
HoldsAll n shown T =
    (r p : ℕ) → r < length n.routers → p < length shown.prefixes
    → Holds (network_at n shown.prefixes p) shown r p (T r p)

-- each route is right, in the network of its prefix
abbrev pub AllRight : Network → List Block → Tables → Type 0
AllRight n prefixes T =
    (r p : ℕ) → r < length n.routers → p < length prefixes
    → IsRight (network_at n prefixes p) r p (T r p)
