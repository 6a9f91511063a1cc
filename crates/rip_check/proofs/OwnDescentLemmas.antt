-- Where every place of the routers' own tables holds, the tables are right.
use Rattle.std.proofs.Common.{◌≡◌, ℕ, zero, suc, ◌+◌, ◌<◌, ◌≤◌, ◌⊎◌, inl, inr, Contains, Option, None, Some, List, [], ◌∷◌, length, ap, arith}
use Rattle.std.proofs.lemmas.Bool.{cases_eq, cases_lt}
use Rattle.rip_plan.specs.Network.{Network}
use Rattle.rip_plan.specs.Relations.{HasCost, IsAttached, IsKept, IsLawful, IsNeighbour, IsOn}
use Rattle.rip_plan.specs.PrefixNetworks.{IsNetwork}
use Rattle.rip_plan.proofs.PrefixNetworkLemmas.{prefix_network}
use Rattle.rip_table.specs.State.{State}
use Rattle.rip_routes.specs.OwnTables.{AreOwnTables, OwnTables, route_at}
use Rattle.rip_routes.specs.declared.next_hop.NextHop.{NextHop}
use Rattle.rip_routes.specs.declared.next_hop.NextHop.TheVariants.{Over, Via}
use Rattle.rip_check.specs.Metrics.{metric_at}
use Rattle.rip_check.specs.Networks.{block_at, network_at}
use Rattle.rip_check.specs.OwnTells.{IsMute, IsOver, IsToldBy, TellsThere}
use Rattle.rip_check.specs.OwnSettled.{HopGoesRight, IsHopGiven, OwnAllRight, OwnHoldsAll}
use Rattle.rip_check.specs.Paths.{Hop, IsPath, MayHop}
use Rattle.rip_check.specs.Settled.{IsChoice}
use Rattle.rip_check.specs.Tables.{Offers}
use Rattle.rip_check.proofs.OwnRouteLemmas.{route_is}
use Rattle.rip_check.proofs.OwnOfferLemmas.{own_offer_below, own_offer_of}

module _ (n : Network) (told : State) (t : OwnTables) (plan : IsLawful n) (are : AreOwnTables t) (by : IsToldBy n t told) (holds : OwnHoldsAll n told t) where
  -- the network of a prefix, and the laws that it keeps
  abbrev net : ℕ → Network
  net p = network_at n t.prefixes p

  its : (p : ℕ) → IsNetwork (net p)
  its p = prefix_network n plan (block_at t.prefixes p)

  -- a router that keeps the prefix has no next hop
  no_hop : (r p : ℕ) → r < length n.routers → p < length t.prefixes → IsKept (net p) r p → (h : NextHop) → Contains (route_at t r p).hops h → ⊥
  no_hop r p at known kept h listed = hop_case h ((holds r p at known).given.hops h listed)
    where
      hop_case : (h : NextHop) → IsHopGiven (net p) told r p (route_at t r p).metric h → ⊥
      hop_case (Over l) given = given.0 kept
      hop_case (Via a) given = given.takes kept

  -- a router is mute on the link to which it has the prefix attached
  mute_there : (s p l : ℕ) → s < length n.routers → p < length t.prefixes → (route_at t s p).metric < 16 → IsAttached (net p) s p l → IsMute (net p) t s l p
  mute_there s p l at known small attached =
      elim ((route_is t are s p).way small) [
        | inl here ↦ inr (inr (attached, here))
        | inr hop ↦ absurd (no_hop s p at known (inr (l, attached)) hop.0 hop.1)
      ]

  -- a path may go where an offer comes from
  offer_hop : (r l s p v : ℕ) → r < length n.routers → p < length t.prefixes → Offers (net p) told r l s p v → v < 16 → (IsKept (net p) r p → ⊥) → MayHop (net p) p r l s
  offer_hop r l s p v at known o small takes =
      let s_at = (its p).neighbour_known r l s at o.neighbour in
      let e = own_offer_below n told t by r l s p v s_at known o small in
      record {
        neighbour = o.neighbour;
        goes_on = takes;
        tells = λ attached. e.1 (mute_there s p l s_at known (omega (arith, e.0, small)) attached);
      }

  -- a choice below 16 has a path, where those that are less have one
  path_chosen : (r p : ℕ) → r < length n.routers → p < length t.prefixes → (route_at t r p).metric < 16 →
      ((s : ℕ) → s < length n.routers → (route_at t s p).metric < (route_at t r p).metric → (hops : List Hop) × IsPath (net p) p s hops (route_at t s p).metric) →
      IsChoice (net p) told r p (route_at t r p).metric → (hops : List Hop) × IsPath (net p) p r hops (route_at t r p).metric
  path_chosen r p at known small less (inl e) = absurd (omega (arith, e, small))
  path_chosen r p at known small less (inr (inl direct)) = ([], direct)
  path_chosen r p at known small less (inr (inr h)) =
      let l = h.1.0 in
      let s = h.1.1 in
      let o = h.1.2 in
      let s_at = (its p).neighbour_known r l s at o.neighbour in
      let e = own_offer_below n told t by r l s p (route_at t r p).metric s_at known o small in
      let cost = (its p).cost_least o.here.0 r l o.cost o.here.1 in
      let rest = less s s_at (omega (arith, e.0, cost)) in (
        record { link = l; to = s } ∷ rest.0,
        (o.cost, (route_at t s p).metric, o.here, offer_hop r l s p (route_at t r p).metric at known o small h.0, rest.1, e.0),
      )

  -- by descent on the metric
  path_below : (bound r p : ℕ) → r < length n.routers → p < length t.prefixes → (route_at t r p).metric < bound → (route_at t r p).metric < 16 →
      (hops : List Hop) × IsPath (net p) p r hops (route_at t r p).metric
  path_below zero r p at known less small = absurd (omega (arith, less))
  path_below (suc bound) r p at known less small =
      path_chosen r p at known small (λ s s_at falls. path_below bound s p s_at known (omega (arith, falls, less)) (omega (arith, falls, small)))
      (holds r p at known).choice.chosen

  path_of : (r p : ℕ) → r < length n.routers → p < length t.prefixes → (route_at t r p).metric < 16 → (hops : List Hop) × IsPath (net p) p r hops (route_at t r p).metric
  path_of r p at known small = path_below (suc (route_at t r p).metric) r p at known (omega arith) small

  -- the step to a neighbour that offers the metric begins a path of the metric
  path_by : (r l s p : ℕ) → r < length n.routers → p < length t.prefixes → (route_at t r p).metric < 16 → (IsKept (net p) r p → ⊥) → Offers (net p) told r l s p (route_at t r p).metric →
      (hops : List Hop) × IsPath (net p) p r (record { link = l; to = s } ∷ hops) (route_at t r p).metric
  path_by r l s p at known small takes o =
      let s_at = (its p).neighbour_known r l s at o.neighbour in
      let e = own_offer_below n told t by r l s p (route_at t r p).metric s_at known o small in
      let low : (route_at t s p).metric < 16 = omega (arith, e.0, small) in
      let rest = path_of s p s_at known low in
      (rest.0, (o.cost, (route_at t s p).metric, o.here, offer_hop r l s p (route_at t r p).metric at known o small takes, rest.1, e.0))

  hop_right : (r p : ℕ) → r < length n.routers → p < length t.prefixes → (route_at t r p).metric < 16 → (h : NextHop) → IsHopGiven (net p) told r p (route_at t r p).metric h →
      HopGoesRight (net p) p r (route_at t r p).metric h
  hop_right r p at known small (Over l) given =
      let path = path_by r l given.1.0 p at known small given.0 given.1.1 in
      (given.1.0, path.0, path.1)
  hop_right r p at known small (Via a) given = record {
    link = given.link;
    neighbour = given.neighbour;
    has = given.has;
    path = path_by r given.link given.neighbour p at known small given.takes given.offer;
    holders = λ l s holder.
        let (k, its, offer) = given.holders l s holder in
        (k, its, path_by r k s p at known small given.takes offer);
  }

  -- who gives a router its metric over a link over which it sends
  giver : (s l p : ℕ) (h : NextHop) → IsOver (net p) s p h l → IsHopGiven (net p) told s p (route_at t s p).metric h → (u : ℕ) × Offers (net p) told s l u p (route_at t s p).metric
  giver s l p (Over k) over given = rw over at given.1
  giver s l p (Via a) over given =
      let e : given.link ≡ l = over.1 given.link (given.neighbour, given.has) in
      (given.neighbour, rw e at given.offer)

  -- no neighbour to which a path may go is a better way, though it may tell nothing there
  near : (r l c s p : ℕ) → r < length n.routers → p < length t.prefixes → HasCost (net p) r l c → MayHop (net p) p r l s →
      (route_at t r p).metric ≤ c + (route_at t s p).metric
  near r l c s p at known has hop = tells_case (metric_at told on.1.0 p) (by.tells on.1.0 s l on.0 p s_at known on.1.1)
    where
      on : IsOn (net p) s l
      on = hop.neighbour.there

      s_at : s < length n.routers
      s_at = (its p).neighbour_known r l s at hop.neighbour

      most : (route_at t r p).metric ≤ 16
      most = (route_is t are r p).most

      offered : (u : ℕ) → IsNeighbour (net p) r l u → (IsMute (net p) t u l p → ⊥) → (route_at t r p).metric ≤ c + (route_at t u p).metric
      offered u neighbour loud =
          let le = (holds r p at known).choice.least _ (inr (inr (hop.goes_on, (l, u, own_offer_of n told t by r l u p c ((its p).neighbour_known r l u at neighbour) known neighbour has loud)))) in
          omega (arith, le)

      over_case : (h : NextHop) → IsOver (net p) s p h l → IsHopGiven (net p) told s p (route_at t s p).metric h → (route_at t r p).metric ≤ c + (route_at t s p).metric
      over_case h over given =
          let split : ((route_at t s p).metric < 16) ⊎ (16 ≤ (route_at t s p).metric) = cases_lt (route_at t s p).metric 16 in
          elim split [
            | inr big ↦ omega (arith, most, big)
            | inl small ↦
                let g = giver s l p h over given in
                let u = g.0 in
                let o = g.1 in
                let e = own_offer_below n told t by s l u p (route_at t s p).metric ((its p).neighbour_known s l u s_at o.neighbour) known o small in
                let same : (u ≡ r) ⊎ (u ≡ r → ⊥) = cases_eq u r in
                elim same [
                  | inl is ↦
                      let e' : (route_at t u p).metric ≡ (route_at t r p).metric = ap (λ (x : ℕ). (route_at t x p).metric) is in
                      omega (arith, e.0, e')
                  | inr not ↦
                      let le = offered u (record { other = not; here = hop.neighbour.here; there = o.neighbour.there }) e.1 in
                      omega (arith, e.0, le)
                ]
          ]

      tells_case : (x : Option ℕ) → TellsThere (net p) t s l p x → (route_at t r p).metric ≤ c + (route_at t s p).metric
      tells_case (Some x) tells = offered s hop.neighbour tells.0
      tells_case None (inl e) = omega (arith, most, e)
      tells_case None (inr (inr h)) = absurd (hop.tells h.0)
      tells_case None (inr (inl h)) = over_case h.0 h.2 ((holds s p s_at known).given.hops h.0 h.1)

  -- by induction on the path
  none_cheaper : (r p : ℕ) (hops : List Hop) (v : ℕ) → r < length n.routers → p < length t.prefixes → IsPath (net p) p r hops v → (route_at t r p).metric ≤ v
  none_cheaper r p [] v at known path = (holds r p at known).choice.least v (inr (inl path))
  none_cheaper r p (h ∷ hops) v at known path =
      let le = near r h.link path.0 h.to p at known path.2 path.3 in
      let ih = none_cheaper h.to p hops path.1 ((its p).neighbour_known r h.link h.to at path.3.neighbour) known path.4 in
      omega (arith, le, ih, path.5)

  pub own_right : OwnAllRight n t
  own_right r p at known =
      let is = route_is t are r p in
      let split : ((route_at t r p).metric < 16) ⊎ (16 ≤ (route_at t r p).metric) = cases_lt (route_at t r p).metric 16 in
      record {
        least = record {
          reached = elim split [
            | inl small ↦ inr (small, path_of r p at known small)
            | inr big ↦ inl (omega (arith, is.most, big))
          ];
          least = λ hops w path. none_cheaper r p hops w at known path;
        };
        here = (holds r p at known).given.here;
        hops = λ h listed. elim split [
          | inl small ↦ hop_right r p at known small h ((holds r p at known).given.hops h listed)
          | inr big ↦
              let none = (is.unreachable (omega (arith, is.most, big))).1 in
              let listed' : Contains [] h = rw none at listed in
              absurd (none_listed h listed')
        ];
      }
    where
      none_listed : (h : NextHop) → Contains [] h → ⊥
      none_listed h listed = omega (arith, listed.1)
