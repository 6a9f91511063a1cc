-- Paths through a network, and the least of their costs.
use Rattle.std.specs.Prelude.{◌≡◌, ℕ, ◌+◌, ◌≤◌, ◌<◌, ◌⊎◌, List, [], ◌∷◌}
use Rattle.rip_plan.specs.Network.{Network}
use Rattle.rip_plan.specs.Relations.{HasCost, IsNeighbour, IsDirect, IsAttached, IsKept, IsOwnAt, IsPlace}
use Rattle.rip_plan.specs.declared.parts.Seat.TheVariants.{Link}

-- a step of a path: over a link, to a neighbour there
pub record Hop : Type 0 where
  pub link : ℕ
  pub to : ℕ

-- the plan allows a hop of a path of prefix p from router r over link l to neighbour s: r does not
-- keep the prefix, since a packet has arrived where it is kept, and s tells of it on the link
pub record MayHop (n : Network) (p r l s : ℕ) : Type 0 where
  pub neighbour : IsNeighbour n r l s
  pub goes_on : IsKept n r p → ⊥
  pub tells : IsAttached n s p l → ⊥

-- The hops lead from router r to a router that has prefix p, each one allowed, and v is what the
-- path costs: the sum of the costs of the interfaces on which the datagrams that tell of p come in,
-- from each next router, and of what the last router has the prefix for (RFC 2453, 3.9.2).
abbrev pub IsPath : Network → ℕ → ℕ → List Hop → ℕ → Type 0
IsPath n p r [] v = IsDirect n r p v
IsPath n p r (h ∷ hops) v =
    (c : ℕ) × (rest : ℕ) × HasCost n r h.link c × MayHop n p r h.link h.to
    × IsPath n p h.to hops rest × (v ≡ c + rest)

-- v is the least cost of a path of p from r, or 16 where none costs less
pub record IsLeast (n : Network) (p r v : ℕ) : Type 0 where
  pub reached : (v ≡ 16) ⊎ ((v < 16) × ((hops : List Hop) × IsPath n p r hops v))
  pub least : (hops : List Hop) (w : ℕ) → IsPath n p r hops w → v ≤ w

-- a path of cost v goes over link l first
abbrev pub HasPathOver : Network → ℕ → ℕ → ℕ → ℕ → Type 0
HasPathOver n p r l v =
    (s : ℕ) × (hops : List Hop) × IsPath n p r (record { link = l; to = s } ∷ hops) v

-- ---- the paths of a plan that says nothing beside what RFC 2453 does

-- router r has prefix p at cost c: of its interface on a link of the prefix, or of its own
abbrev pub HasAtCost : Network → ℕ → ℕ → ℕ → Type 0
HasAtCost n r p c =
    (k : ℕ) × (((l : ℕ) × IsPlace n k p (Link l) × HasCost n r l c) ⊎ IsOwnAt n k p r c)

-- a path over any neighbours
abbrev pub IsPlainPath : Network → ℕ → ℕ → List Hop → ℕ → Type 0
IsPlainPath n p r [] v = HasAtCost n r p v
IsPlainPath n p r (h ∷ hops) v =
    (c : ℕ) × (rest : ℕ) × HasCost n r h.link c × IsNeighbour n r h.link h.to
    × IsPlainPath n p h.to hops rest × (v ≡ c + rest)

-- v is the least cost of such a path, or 16 where none costs less
pub record IsPlainLeast (n : Network) (p r v : ℕ) : Type 0 where
  pub reached : (v ≡ 16) ⊎ ((v < 16) × ((hops : List Hop) × IsPlainPath n p r hops v))
  pub least : (hops : List Hop) (w : ℕ) → IsPlainPath n p r hops w → v ≤ w

-- such a path of cost v goes over link l first
abbrev pub HasPlainPathOver : Network → ℕ → ℕ → ℕ → ℕ → Type 0
HasPlainPathOver n p r l v =
    (s : ℕ) × (hops : List Hop) × IsPlainPath n p r (record { link = l; to = s } ∷ hops) v
