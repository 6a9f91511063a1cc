-- No neighbour is a better way, though it may show 16.
use Rattle.std.proofs.Common.{◌≡◌, ℕ, ◌+◌, ◌<◌, ◌≤◌, ◌⊎◌, inl, inr, min, unwrap_or, Option, Some, None, refl, sym, ap, subst, ◌∙◌, arith, length}
use Rattle.std.proofs.lemmas.Bool.{cases_eq}
use Rattle.rip_plan.specs.Network.{Network}
use Rattle.rip_plan.specs.PrefixNetworks.{IsNetwork}
use Rattle.rip_plan.specs.Relations.{IsAttached, IsLawful, IsDirect, IsInterface, IsKept, HasCost, IsNeighbour}
use Rattle.rip_plan.proofs.PrefixNetworkLemmas.{prefix_network}
use Rattle.rip_table.specs.State.{State}
use Rattle.rip_check.specs.Networks.{block_at, network_at}
use Rattle.rip_check.specs.Laws.{Case, GiversAreNear, IsGiver, IsNear, IsSettled, SilenceIsShared, net_of}
use Rattle.rip_check.specs.Paths.{MayHop}
use Rattle.rip_check.specs.Tables.{Tables, Shows, MayShow, FitsWay, IsSilent, Offers}
use Rattle.rip_check.specs.declared.way.Way.{Way}
use Rattle.rip_check.specs.declared.way.Way.TheVariants.{Unreachable, Here, Over}
use Rattle.rip_check.specs.Settled.{HoldsAll, IsGiven}
use Rattle.rip_check.proofs.PlanLemmas.{carried_direct}
use Rattle.rip_check.proofs.ShownLemmas.{some_is, metric_most, offer_below}
use Rattle.rip_check.specs.Metrics.{metric_at}

module _ (n : Network) (shown : State) (T : Tables) (plan : IsLawful n) (shows : Shows n shown T) (holds : HoldsAll n shown T) where
  -- the network of a prefix, and the laws that it keeps
  abbrev net : ℕ → Network
  net p = network_at n shown.prefixes p

  its : (p : ℕ) → IsNetwork (net p)
  its p = prefix_network n plan (block_at shown.prefixes p)

  -- the metric is at most what any neighbour shows makes it
  at_most_shown : (r l c s p j d : ℕ) → r < length n.routers → p < length shown.prefixes → (IsKept (net p) r p → ⊥) → HasCost (net p) r l c → IsNeighbour (net p) r l s → IsInterface (net p) j s l d →
      (T r p).metric ≤ c + unwrap_or (metric_at shown j p) 16
  at_most_shown r l c s p j d at known takes has near there =
      let o : Offers (net p) shown r l s p (min 16 (c + unwrap_or (metric_at shown j p) 16)) =
      record { neighbour = near; cost = c; here = has; interface = j; its_cost = d; there = there; value = refl } in
      let le = (holds r p at known).choice.least _ (inr (inr (takes, (l, s, o)))) in
      omega (arith, le)

  -- the same of its metric, whatever way it goes
  poison_cases : (r l c s p j d : ℕ) → r < length n.routers → p < length shown.prefixes → HasCost (net p) r l c → MayHop (net p) p r l s → IsInterface (net p) j s l d →
      (w : Way) → MayShow (net p) s l p (T s p).metric w (metric_at shown j p) → FitsWay (net p) s p (T s p).metric w → IsGiven (net p) shown s p (T s p).metric w →
      (T r p).metric ≤ c + (T s p).metric
  poison_cases r l c s p j d r_known known has hop there Unreachable told fits given =
      let most = metric_most (net p) r p (T r p).metric (T r p).way (shows.fits r p r_known known).fits.told.way_fits in
      omega (arith, most, fits)
  poison_cases r l c s p j d r_known known has hop there Here (inl e) fits given =
      omega (arith, at_most_shown r l c s p j d r_known known hop.goes_on has hop.neighbour there, some_is (metric_at shown j p) _ e.1)
  poison_cases r l c s p j d r_known known has hop there Here (inr (inr at, silent)) fits given = absurd (hop.tells at)
  poison_cases r l c s p j d r_known known has hop there Here (inr (inl on, silent)) fits given =
      let direct = carried_direct (net p) (its p) r l c p has on in
      let le = (holds r p r_known known).choice.least direct.0 (inr (inl direct.1)) in
      omega (arith, le, direct.2)
  poison_cases r l c s p j d r_known known has hop there (Over k) (inr h) fits given =
      omega (arith, at_most_shown r l c s p j d r_known known hop.goes_on has hop.neighbour there, some_is (metric_at shown j p) _ h.1)
  poison_cases r l c s p j d r_known known has hop there (Over k) (inl h) fits given =
      -- s goes over this very link: to r itself, or to one that is r's neighbour too
      let t = given.1.0 in
      let o = given.1.1 in
      let s_known = (its p).neighbour_known r l s r_known hop.neighbour in
      let e : (T s p).metric ≡ o.cost + (T t p).metric = offer_below n shown T plan shows s k t p (T s p).metric o s_known known fits.1 in
      let same : (t ≡ r) ⊎ (t ≡ r → ⊥) = cases_eq t r in
      elim same [
        | inl is ↦ omega (arith, e, ap (λ (x : ℕ). (T x p).metric) is)
        | inr not ↦
            let there_too : IsInterface (net p) o.interface t l o.its_cost = rw h.0 at o.there in
            let near_too : IsNeighbour (net p) r l t = record { other = not; here = hop.neighbour.here; there = (o.its_cost, (o.interface, there_too)) } in
            omega (arith, at_most_shown r l c t p o.interface o.its_cost r_known known hop.goes_on has near_too there_too, o.value, fits.1)
      ]

  pub poison : (r l c s p : ℕ) → r < length n.routers → p < length shown.prefixes → HasCost (net p) r l c → MayHop (net p) p r l s → (T r p).metric ≤ c + (T s p).metric
  poison r l c s p r_known known has hop =
      let on = hop.neighbour.there in
      let s_known = (its p).neighbour_known r l s r_known hop.neighbour in
      poison_cases r l c s p on.1.0 on.0 r_known known has hop on.1.1 (T s p).way
      ((shows.fits s p s_known known).fits.told.as_told on.1.0 l on.0 on.1.1) (shows.fits s p s_known known).fits.told.way_fits (holds s p s_known known).given

-- the laws of the network of a prefix
its_of : (k : Case) (p : ℕ) → IsNetwork (net_of k p)
its_of k p = prefix_network k.net k.plan (block_at k.shown.prefixes p)

-- whoever gives its metric to a neighbour over the link is near
near_giver : (k : Case) (r l c s t p : ℕ) → HasCost (net_of k p) r l c → IsNeighbour (net_of k p) r l s → (k.tables s p).metric < 16 → IsGiver k l s t p → IsNear k r l c s t p
near_giver k r l c s t p has near small o =
    let least = (its_of k p).cost_least o.here.0 s l o.cost o.here.1 in
    let near_or : (t ≡ r) ⊎ (t ≡ r → ⊥) = cases_eq t r in
    elim near_or [
      | inl is_r ↦ inl is_r
      | inr not ↦
          let v = min 16 (c + unwrap_or (metric_at k.shown o.interface p) 16) in
          let near_too : IsNeighbour (net_of k p) r l t = record { other = not; here = near.here; there = (o.its_cost, (o.interface, o.there)) } in
          let offer : Offers (net_of k p) k.shown r l t p v = record { neighbour = near_too; cost = c; here = has; interface = o.interface; its_cost = o.its_cost; there = o.there; value = refl } in
          inr (v, offer, omega (arith, o.value, small, least))
    ]

giver : (k : Case) (r l c s p : ℕ) → HasCost (net_of k p) r l c → IsNeighbour (net_of k p) r l s
    → (w : Way) → w ≡ Over l → FitsWay (net_of k p) s p (k.tables s p).metric w → IsGiven (net_of k p) k.shown s p (k.tables s p).metric w
    → ((t : ℕ) × IsGiver k l s t p) × ((t : ℕ) → IsGiver k l s t p → IsNear k r l c s t p)
giver k r l c s p has near Unreachable is fits given = absurd (cc is)
giver k r l c s p has near Here is fits given = absurd (cc is)
giver k r l c s p has near (Over m) is fits given =
    let same : m ≡ l = cc is in
    let gives : IsGiver k l s given.1.0 p = subst (λ x. Offers (net_of k p) k.shown s x given.1.0 p (k.tables s p).metric) same given.1.1 in
    ((given.1.0, gives), λ t o. near_giver k r l c s t p has near fits.1 o)

pub givers : (k : Case) → IsSettled k → GiversAreNear k
givers k settled r l c s p at known has near is =
    let s_known = (its_of k p).neighbour_known r l s at near in
    giver k r l c s p has near (k.tables s p).way is (k.shows.fits s p s_known known).fits.told.way_fits (settled s p s_known known).given

-- a direct route that is silent on a link is one of the link
direct_there : (k : Case) (r l c s p j : ℕ) → HasCost (net_of k p) r l c → (w : Way) → w ≡ Here → MayShow (net_of k p) s l p (k.tables s p).metric w (metric_at k.shown j p) →
    FitsWay (net_of k p) s p (k.tables s p).metric w
    → IsSilent (metric_at k.shown j p) → (IsAttached (net_of k p) s p l → ⊥) → (m : ℕ) × IsDirect (net_of k p) r p m × (m ≤ c)
direct_there k r l c s p j has Unreachable is told fits silent off = absurd (cc is)
direct_there k r l c s p j has (Over m) is told fits silent off = absurd (cc is)
direct_there k r l c s p j has Here is (inr (inl on, quiet)) fits silent off = carried_direct (net_of k p) (its_of k p) r l c p has on
direct_there k r l c s p j has Here is (inr (inr at, quiet)) fits silent off = absurd (off at)
direct_there k r l c s p j has Here is (inl e) fits (inl none) off = absurd (let clash : None ≡ Some (k.tables s p).metric = sym none ∙ e.1 in cc clash)
direct_there k r l c s p j has Here is (inl e) fits (inr poison) off =
    let sixteen : 16 ≡ (k.tables s p).metric = let clash : ◌≡◌ {A = Option ℕ} (Some 16) (Some (k.tables s p).metric) = sym poison ∙ e.1 in cc clash in
    absurd (omega (arith, sixteen, fits.1))

pub silence : (k : Case) → SilenceIsShared k
silence k r l c s p j d at known has near there is silent off =
    let s_known = (its_of k p).neighbour_known r l s at near in
    let fits = (k.shows.fits s p s_known known).fits.told in
    direct_there k r l c s p j has (k.tables s p).way is (fits.as_told j l d there) fits.way_fits silent off
