-- What holds of what a line tells.
use Rattle.std.specs.Prelude.{◌≡◌, ℕ, ◌<◌, ◌≤◌, length, Some, None}
use Rattle.rip_plan.specs.Network.{Network}
use Rattle.rip_plan.specs.Relations.{IsOn}
use Rattle.rip_routes.specs.declared.next_hop.NextHop.TheVariants.{Over}
use Rattle.rip_routes.specs.declared.told.Told.{Told}
use Rattle.rip_routes.specs.declared.told.Way.{Way}
use Rattle.rip_routes.specs.declared.told.Way.TheVariants.{To}

-- the router is one of the plan, the metric is one, and there is a way exactly where it is below
-- 16, over a link of the router if over one
pub record IsTold (n : Network) (told : Told) : Type 0 where
  pub router : told.router < length n.routers
  pub least : 1 ≤ told.metric
  pub most : told.metric ≤ 16
  pub way : told.metric < 16 → (way : Way) × (told.way ≡ Some way)
  pub unreachable : told.metric ≡ 16 → told.way ≡ None
  pub over : (l : ℕ) → told.way ≡ Some (To (Over l)) → IsOn n told.router l
