-- How the least metrics of all routers for prefix p are found: routers tell their metrics, the
-- least first.
use Rattle.std.specs.Prelude.{◌≡◌, ℕ, ◌+◌, ◌≤◌, ◌⊎◌, Bool, true, List, Some, slice_get, slice_index}
use Rattle.rip_plan.specs.Network.{Network}
use Rattle.rip_plan.specs.Relations.{HasCost, IsAttached, IsKept}
use Rattle.rip_check.specs.Paths.{MayHop}

-- where routers that have metric m tell it, each router keeps its metric, or takes what one of them
-- gives it: the cost of its interface and m (RFC 2453, 3.9.2)
pub record IsTelling (n : Network) (p m : ℕ) (before after : List ℕ) : Type 0 where
  pub at_most : (r : ℕ) → slice_index after r ≤ slice_index before r
  pub chosen : (r : ℕ) → (slice_index after r ≡ slice_index before r)
      ⊎ ((l s c : ℕ) × HasCost n r l c × MayHop n p r l s × (slice_index before s ≡ m)
      × (slice_index after r ≡ c + m))

-- a metric of at most m was told on link l: no router there that takes offers has more than m and
-- the cost of its interface
abbrev pub IsTold : Network → ℕ → ℕ → List ℕ → ℕ → Type 0
IsTold n p m metrics l =
    (r c : ℕ) → HasCost n r l c → (IsKept n r p → ⊥) → slice_index metrics r ≤ c + m

-- so on each link that is marked
abbrev pub AreTold : Network → ℕ → ℕ → List ℕ → List Bool → Type 0
AreTold n p m metrics marks = (l : ℕ) → slice_get marks l ≡ Some true → IsTold n p m metrics l

-- each link on which router r tells of the prefix is marked
abbrev pub HasTold : Network → ℕ → List Bool → ℕ → Type 0
HasTold n p marks r =
    (l c : ℕ) → HasCost n r l c → (IsAttached n r p l → ⊥) → slice_get marks l ≡ Some true
