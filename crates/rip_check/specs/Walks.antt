-- Walks: a packet that follows the tables.
use Rattle.std.specs.Prelude.{◌≡◌, ℕ, ◌≤◌, ◌<◌, List, [], ◌∷◌, ◌++◌, length}
use Rattle.rip_plan.specs.Network.{Network}
use Rattle.rip_plan.specs.Relations.{IsDirect}
use Rattle.rip_table.specs.State.{State}
use Rattle.rip_check.specs.Networks.{network_at}
use Rattle.rip_check.specs.Tables.{Tables, Offers, Shows}
use Rattle.rip_check.specs.declared.way.Way.TheVariants.{Here, Over}

-- a packet for p can go from r to s: r's route leads over a link, and s is any neighbour there that
-- offers r's metric
pub record GoesTo (n : Network) (shown : State) (T : Tables) (p r s : ℕ) : Type 0 where
  pub link : ℕ
  pub way : (T r p).way ≡ Over link
  pub offer : Offers (network_at n shown.prefixes p) shown r link s p (T r p).metric

-- each router goes to the next
abbrev pub EachGoesOn : Network → State → Tables → ℕ → ℕ → List ℕ → Type 0
EachGoesOn n shown T p r [] = Unit {0}
EachGoesOn n shown T p r (s ∷ rest) = GoesTo n shown T p r s × EachGoesOn n shown T p s rest

-- the walk has a router, the first has a metric below 16, and each goes to the next
abbrev pub IsWalk : Network → State → Tables → ℕ → List ℕ → Type 0
IsWalk n shown T p [] = ⊥
IsWalk n shown T p (r ∷ rest) =
    (r < length n.routers) × ((T r p).metric < 16) × EachGoesOn n shown T p r rest

-- each number is below the one before it, and the last is at least 1
abbrev pub IsFalling : List ℕ → Type 0
IsFalling [] = Unit {0}
IsFalling (x ∷ []) = 1 ≤ x
IsFalling (x ∷ y ∷ rest) = (y < x) × IsFalling (y ∷ rest)

-- a walk of prefix p that has come to router z has arrived: z's route is Here
abbrev pub HasArrived : Tables → ℕ → ℕ → Type 0
HasArrived T p z = (T z p).way ≡ Here

-- a walk has at most as many routers as its first router's metric, and at most fifteen
abbrev pub EachIsShort : Network → State → Tables → Type 0
EachIsShort n shown T =
    (p r : ℕ) (rest : List ℕ) → p < length shown.prefixes → IsWalk n shown T p (r ∷ rest) →
    (length (r ∷ rest) ≤ (T r p).metric) × (length (r ∷ rest) ≤ 15)

-- a walk that has not arrived has a next router
abbrev pub EachCanGoOn : Network → State → Tables → Type 0
EachCanGoOn n shown T =
    (p z : ℕ) (before : List ℕ) → p < length shown.prefixes → IsWalk n shown T p (before ++ z ∷ [])
    → (HasArrived T p z → ⊥) →
    (s : ℕ) × IsWalk n shown T p (before ++ z ∷ s ∷ [])

-- where a walk has arrived, the router is on a link of the prefix, or owns it
abbrev pub EachEndsThere : Network → State → Tables → Type 0
EachEndsThere n shown T =
    (p z : ℕ) (before : List ℕ) → p < length shown.prefixes → IsWalk n shown T p (before ++ z ∷ [])
    → HasArrived T p z → IsDirect (network_at n shown.prefixes p) z p (T z p).metric

-- walks are short, go on until they have arrived, and arrive where the prefix is
pub record WalksArrive (n : Network) (shown : State) (T : Tables) : Type 0 where
  pub short : EachIsShort n shown T
  pub go_on : EachCanGoOn n shown T
  pub there : EachEndsThere n shown T

-- whoever follows the tables that are shown arrives, after at most as many routers as the first
-- one's metric, which are at most fifteen
abbrev pub PacketsArrive : Network → State → Type 0
PacketsArrive n shown = (T : Tables) → Shows n shown T → WalksArrive n shown T
