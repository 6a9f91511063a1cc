-- When a failure changes no least metric of a prefix but those of a router that has failed.
use Rattle.std.specs.Prelude.{◌≡◌, ℕ, ◌+◌, ◌<◌, ◌⊎◌, Some, length, true}
use Rattle.rip_plan.specs.Network.{Network}
use Rattle.rip_plan.specs.Relations.{Carries, HasCost, IsAttached, IsDirect, IsOn}
use Rattle.rip_check.specs.declared.failures.Failure.{Failure}
use Rattle.rip_check.specs.Failures.{is_link_up, is_router_up, left_to}
use Rattle.rip_check.specs.Networks.{network_at}
use Rattle.rip_check.specs.Paths.{IsLeast, MayHop}

-- over an interface of cost c to router s a least path of p from router r may begin: c and the
-- least metric there come to that of r
pub record IsStep (n : Network) (p r c s : ℕ) : Type 0 where
  pub own : ℕ
  pub next : ℕ
  pub small : own < 16
  pub here : IsLeast n p r own
  pub there : IsLeast n p s next
  pub sum : own ≡ c + next

-- after the failure router r still has a way of cost v, by the least metrics of before: the prefix
-- itself, or an interface and a neighbour there
abbrev pub HasWayLeft : Network → Failure → ℕ → ℕ → ℕ → Type 0
HasWayLeft n f p r v =
    IsDirect (left_to n (Some f) p) r p v
    ⊎ ((l s c w : ℕ) × HasCost (left_to n (Some f) p) r l c × MayHop (left_to n (Some f) p) p r l s
    × IsLeast (network_at n n.prefixes p) p s w × (v ≡ c + w))

-- so for its least metric of before, where that is below 16
abbrev pub KeepsWay : Network → Failure → ℕ → ℕ → Type 0
KeepsWay n f p r =
    (v : ℕ) → IsLeast (network_at n n.prefixes p) p r v → v < 16 → HasWayLeft n f p r v

-- router s and link l have not failed
pub record IsStepUp (f : Failure) (l s : ℕ) : Type 0 where
  pub link : is_link_up (Some f) l ≡ true
  pub router : is_router_up (Some f) s ≡ true

-- a router from which a least path begins over a failed link or to a failed router has another way;
-- no failed link carries the prefix, and no router has it attached to one
pub record IsUntouched (n : Network) (f : Failure) (p : ℕ) : Type 0 where
  pub steps : (r l c s : ℕ) → r < length n.routers → HasCost (network_at n n.prefixes p) r l c
      → IsOn (network_at n n.prefixes p) s l → IsStep (network_at n n.prefixes p) p r c s
      → IsStepUp f l s ⊎ KeepsWay n f p r
  pub carried : (l : ℕ) → Carries n l p → is_link_up (Some f) l ≡ true
  pub attached : (r l : ℕ) → IsAttached n r p l → is_link_up (Some f) l ≡ true
