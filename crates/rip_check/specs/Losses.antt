-- What a failure costs a network: which prefixes are gone, and which routers lose a prefix or go a
-- longer way to it.
use Rattle.std.specs.Prelude.{◌≡◌, ℕ, ◌<◌, Some, true, length}
use Rattle.rip_plan.specs.Network.{Network}
use Rattle.rip_plan.specs.Relations.{IsDirect}
use Rattle.rip_check.specs.declared.failures.Failure.{Failure}
use Rattle.rip_check.specs.Failures.{is_router_up, left_to, network_after}
use Rattle.rip_check.specs.Networks.{network_at}
use Rattle.rip_check.specs.Paths.{IsLeast}

-- prefix p is gone: some router has it directly before the failure, and none after it
pub record IsGone (n : Network) (f : Failure) (p : ℕ) : Type 0 where
  pub before : (r c : ℕ) × IsDirect n r p c
  pub after : (r c : ℕ) → IsDirect (network_after n f) r p c → ⊥

-- router r, which has not failed, has least metric v for prefix p before the failure, and w after
pub record IsMoved (n : Network) (f : Failure) (r p v w : ℕ) : Type 0 where
  pub alive : is_router_up (Some f) r ≡ true
  pub before : IsLeast (network_at n n.prefixes p) p r v
  pub after : IsLeast (left_to n (Some f) p) p r w

-- router r loses prefix p, which is not gone: its least metric is below 16 before the failure, and
-- 16 after it
pub record IsLost (n : Network) (f : Failure) (r p : ℕ) : Type 0 where
  pub metric : ℕ
  pub small : metric < 16
  pub moved : IsMoved n f r p metric 16
  pub there : IsGone n f p → ⊥

-- router r goes a longer way to prefix p: its least metric after the failure is w, which is greater
-- than before, and below 16
pub record IsLonger (n : Network) (f : Failure) (r p w : ℕ) : Type 0 where
  pub metric : ℕ
  pub greater : metric < w
  pub small : w < 16
  pub moved : IsMoved n f r p metric w

-- the failure loses something: some router of the plan loses some prefix
abbrev pub Loses : Network → Failure → Type 0
Loses n f =
    (r p : ℕ) × (r < length n.routers) × (p < length n.prefixes) × IsLost n f r p
