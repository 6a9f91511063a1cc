-- What neighbours offer by their own tables.
use Rattle.std.proofs.Common.{◌≡◌, ℕ, ◌+◌, ◌<◌, Option, None, Some, unwrap_or, min, length, refl, arith}
use Rattle.rip_plan.specs.Network.{Network}
use Rattle.rip_plan.specs.Relations.{HasCost, IsNeighbour}
use Rattle.rip_table.specs.State.{State}
use Rattle.rip_routes.specs.OwnTables.{OwnTables, route_at}
use Rattle.rip_check.specs.Metrics.{metric_at}
use Rattle.rip_check.specs.Networks.{network_at}
use Rattle.rip_check.specs.OwnTells.{IsMute, IsToldBy, TellsThere}
use Rattle.rip_check.specs.Tables.{Offers}

module _ (n : Network) (told : State) (t : OwnTables) (by : IsToldBy n t told) where
  -- the network of a prefix
  abbrev net : ℕ → Network
  net p = network_at n t.prefixes p

  -- an offer below 16 is of a neighbour that tells its metric
  pub own_offer_below : (r l s p v : ℕ) → s < length n.routers → p < length t.prefixes → (o : Offers (net p) told r l s p v) → v < 16 → (v ≡ o.cost + (route_at t s p).metric) × (IsMute (net p) t s l p → ⊥)
  own_offer_below r l s p v at known o small = below (metric_at told o.interface p) (by.tells o.interface s l o.its_cost p at known o.there) o.value
    where
      below : (x : Option ℕ) → TellsThere (net p) t s l p x → v ≡ min 16 (o.cost + unwrap_or x 16) → (v ≡ o.cost + (route_at t s p).metric) × (IsMute (net p) t s l p → ⊥)
      below None mute e = absurd (omega (arith, e, small))
      below (Some x) tells e = (omega (arith, e, small, tells.1), tells.0)

  -- a neighbour that tells its metric offers it with the cost
  pub own_offer_of : (r l s p c : ℕ) → s < length n.routers → p < length t.prefixes → IsNeighbour (net p) r l s → HasCost (net p) r l c → (IsMute (net p) t s l p → ⊥) →
      Offers (net p) told r l s p (min 16 (c + (route_at t s p).metric))
  own_offer_of r l s p c at known neighbour has loud = record {
    neighbour = neighbour;
    cost = c;
    here = has;
    interface = neighbour.there.1.0;
    its_cost = neighbour.there.0;
    there = neighbour.there.1.1;
    value = told_is (metric_at told neighbour.there.1.0 p) (by.tells neighbour.there.1.0 s l neighbour.there.0 p at known neighbour.there.1.1);
  }
    where
      told_is : (x : Option ℕ) → TellsThere (net p) t s l p x → min 16 (c + (route_at t s p).metric) ≡ min 16 (c + unwrap_or x 16)
      told_is None mute = absurd (loud mute)
      told_is (Some x) tells = rw tells.1 refl
