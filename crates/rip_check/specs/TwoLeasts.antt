-- The two least metrics that different routers have on a link.
use Rattle.std.specs.Prelude.{◌≡◌, ◌≢◌, ℕ, ◌≤◌, ◌<◌, ◌⊎◌, List, Some, length, slice_get, unwrap_or}
use Rattle.rip_plan.specs.Network.{Network}
use Rattle.rip_plan.specs.Relations.{Exchanges, IsInterface}
use Rattle.rip_table.specs.State.{State}
use Rattle.rip_check.specs.declared.links.TwoLeast.{TwoLeast}
use Rattle.rip_check.specs.Metrics.{metric_at}
use Rattle.rip_check.specs.Networks.{block_at, network_at}

-- what interface j shows of prefix p, 16 where it shows nothing
abbrev pub shown_of : State → ℕ → ℕ → ℕ → ℕ → ℕ
shown_of shown p l j s = unwrap_or (metric_at shown j p) 16

-- interface j, router s's on link l, has metric v, by what the interfaces show
pub record IsSeen (n : Network) (seen : ℕ → ℕ → ℕ → ℕ) (l j s v : ℕ) : Type 0 where
  pub cost : ℕ
  pub its : IsInterface n j s l cost
  pub value : v ≡ seen l j s

-- of the interfaces on the link before the bound: the least metric that one has, whose it is, and
-- the least of the other routers'
pub record IsTwoLeast
    (n : Network) (seen : ℕ → ℕ → ℕ → ℕ) (l bound : ℕ) (two : TwoLeast)
    : Type 0 where
  pub most : two.next ≤ 16
  pub order : two.least ≤ two.next
  pub least_is : (two.least ≡ 16) ⊎ ((j : ℕ) × IsSeen n seen l j two.by two.least)
  pub next_is : (two.next ≡ 16) ⊎ ((j s : ℕ) × IsSeen n seen l j s two.next × (s ≢ two.by))
  pub below : (j s v : ℕ) → j < bound → IsSeen n seen l j s v → two.least ≤ v
  pub others : (j s v : ℕ) → j < bound → IsSeen n seen l j s v → s ≢ two.by → two.next ≤ v

-- each element of the list is of the link with its number
abbrev pub AreTwoLeastBefore : Network → (ℕ → ℕ → ℕ → ℕ) → ℕ → List TwoLeast → Type 0
AreTwoLeastBefore n seen bound links =
    (l : ℕ) (two : TwoLeast) → slice_get links l ≡ Some two → IsTwoLeast n seen l bound two

-- of all interfaces on the link
abbrev pub IsTwoLeastOfAll : Network → (ℕ → ℕ → ℕ → ℕ) → ℕ → TwoLeast → Type 0
IsTwoLeastOfAll n seen l two = IsTwoLeast n seen l (length n.interfaces) two

abbrev pub AreTwoLeast : Network → (ℕ → ℕ → ℕ → ℕ) → List TwoLeast → Type 0
AreTwoLeast n seen links =
    (l : ℕ) (two : TwoLeast) → slice_get links l ≡ Some two → IsTwoLeastOfAll n seen l two

-- the link is closed, which 255 says in the place of a router's number
abbrev pub IsClosed : TwoLeast → Type 0
IsClosed two = two.by ≡ 255

-- no link is closed
abbrev pub AreFree : List TwoLeast → Type 0
AreFree links = (l : ℕ) (two : TwoLeast) → slice_get links l ≡ Some two → IsClosed two → ⊥

-- this is of link l, for the prefix of this number: it is closed where it does not exchange the
-- prefix, and then has 16; if not, these are the two least metrics that are shown there
pub record IsLeastShown (n : Network) (shown : State) (p l : ℕ) (two : TwoLeast) : Type 0 where
  pub open_is : (IsClosed two → ⊥) → Exchanges n l (block_at shown.prefixes p)
      × IsTwoLeastOfAll (network_at n shown.prefixes p) (shown_of shown p) l two
  pub shut_is : IsClosed two → (Exchanges n l (block_at shown.prefixes p) → ⊥)
      × (two.least ≡ 16) × (two.next ≡ 16)

-- each element of the list is of the link with its number
pub record AreLeastShown (n : Network) (shown : State) (p : ℕ) (links : List TwoLeast) : Type 0 where
  pub size : length n.links ≤ length links
  pub each : (l : ℕ) (two : TwoLeast) → l < length n.links → slice_get links l ≡ Some two
      → IsLeastShown n shown p l two
