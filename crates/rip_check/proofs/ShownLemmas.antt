-- What is shown tells of the metric that is behind it.
use Rattle.std.proofs.Common.{◌≡◌, ℕ, ◌+◌, ◌<◌, ◌≤◌, inl, inr, Option, Some, unwrap_or, refl, arith, length}
use Rattle.rip_plan.specs.Network.{Network}
use Rattle.rip_plan.specs.PrefixNetworks.{IsNetwork}
use Rattle.rip_plan.specs.Relations.{IsAttached, IsKept, IsLawful}
use Rattle.rip_plan.proofs.PrefixNetworkLemmas.{prefix_network}
use Rattle.rip_table.specs.State.{State}
use Rattle.rip_check.specs.Networks.{block_at, network_at}
use Rattle.rip_check.specs.Tables.{Tables, Shows, MayShow, FitsWay, IsSilent, Offers}
use Rattle.rip_check.specs.declared.way.Way.{Way}
use Rattle.rip_check.specs.declared.way.Way.TheVariants.{Unreachable, Here, Over}
use Rattle.rip_check.specs.Metrics.{metric_at}
use Rattle.rip_check.proofs.PlanLemmas.{attached_kept}

-- silence counts as 16
pub silent_is_16 : (x : Option ℕ) → IsSilent x → unwrap_or x 16 ≡ 16
silent_is_16 x (inl e) = rw e
silent_is_16 x (inr e) = rw e

pub some_is : (x : Option ℕ) (m : ℕ) → x ≡ Some m → unwrap_or x 16 ≡ m
some_is x m e = rw e

-- what is shown below 16 is the metric
pub shown_below : (n : Network) (r l p m : ℕ) (w : Way) (x : Option ℕ) → MayShow n r l p m w x → unwrap_or x 16 < 16 → unwrap_or x 16 ≡ m
shown_below n r l p m Unreachable x h b = absurd (omega (arith, silent_is_16 x h, b))
shown_below n r l p m Here x (inl e) b = some_is x m e.1
shown_below n r l p m Here x (inr h) b = absurd (omega (arith, silent_is_16 x h.1, b))
shown_below n r l p m (Over k) x (inl h) b = absurd (omega (arith, some_is x 16 h.1, b))
shown_below n r l p m (Over k) x (inr h) b = some_is x m h.1

-- a metric is at most 16
pub metric_most : (n : Network) (r p m : ℕ) (w : Way) → FitsWay n r p m w → m ≤ 16
metric_most n r p m Unreachable h = omega arith
metric_most n r p m Here h = omega arith
metric_most n r p m (Over l) h = omega arith

-- and at least 1
pub metric_least : (n : Network) (r p m : ℕ) (w : Way) → FitsWay n r p m w → 1 ≤ m
metric_least n r p m Unreachable h = omega arith
metric_least n r p m Here h = omega arith
metric_least n r p m (Over l) h = omega arith

-- no route is shown on the link to which the prefix is attached, but one over another link
told_where : (n : Network) (r l p m : ℕ) (w : Way) (x : Option ℕ) → MayShow n r l p m w x → unwrap_or x 16 < 16 → ((k : ℕ) → w ≡ Over k → ⊥) → IsAttached n r p l → ⊥
told_where n r l p m Unreachable x h b stays at = omega (arith, silent_is_16 x h, b)
told_where n r l p m Here x (inl e) b stays at = e.0 at
told_where n r l p m Here x (inr h) b stays at = omega (arith, silent_is_16 x h.1, b)
told_where n r l p m (Over k) x h b stays at = stays k refl

module _ (n : Network) (shown : State) (T : Tables) (plan : IsLawful n) (shows : Shows n shown T) where
  -- the network of a prefix, and the laws that it keeps
  abbrev net : ℕ → Network
  net p = network_at n shown.prefixes p

  its : (p : ℕ) → IsNetwork (net p)
  its p = prefix_network n plan (block_at shown.prefixes p)

  -- an offer below 16 is the cost to the neighbour and the neighbour's metric
  pub offer_below : (r l s p v : ℕ) (o : Offers (net p) shown r l s p v) → r < length n.routers → p < length shown.prefixes → v < 16 → v ≡ o.cost + (T s p).metric
  offer_below r l s p v o at known b =
      let told = (shows.fits s p ((its p).neighbour_known r l s at o.neighbour) known).fits.told.as_told o.interface l o.its_cost o.there in
      let small : unwrap_or (metric_at shown o.interface p) 16 < 16 = omega (arith, o.value) in
      let e = shown_below (net p) s l p (T s p).metric (T s p).way (metric_at shown o.interface p) told small in
      omega (arith, o.value, e)

  -- and the neighbour does not have the prefix attached there, if it goes over no link then
  pub offer_tells : (r l s p v : ℕ) (o : Offers (net p) shown r l s p v) → r < length n.routers → p < length shown.prefixes → v < 16 → ((k : ℕ) → (T s p).way ≡ Over k → IsKept (net p) s p → ⊥) → IsAttached (net p) s p l → ⊥
  offer_tells r l s p v o beside known b stays at =
      let told = (shows.fits s p ((its p).neighbour_known r l s beside o.neighbour) known).fits.told.as_told o.interface l o.its_cost o.there in
      let small : unwrap_or (metric_at shown o.interface p) 16 < 16 = omega (arith, o.value) in
      told_where (net p) s l p (T s p).metric (T s p).way (metric_at shown o.interface p) told small (λ k is. stays k is (attached_kept (net p) s p l at)) at
