-- Where the routers' own tables are right, every place of them holds.
use Rattle.std.proofs.Common.{◌≡◌, ℕ, ◌+◌, ◌<◌, ◌≤◌, ◌⊎◌, inl, inr, min, Contains, List, [], ◌∷◌, length, refl, arith}
use Rattle.std.proofs.lemmas.Bool.{cases_eq, cases_lt}
use Rattle.rip_plan.specs.Network.{Network}
use Rattle.rip_plan.specs.Relations.{HasCost, IsAttached, IsKept, IsLawful}
use Rattle.rip_plan.specs.PrefixNetworks.{IsNetwork}
use Rattle.rip_plan.proofs.PrefixNetworkLemmas.{prefix_network}
use Rattle.rip_table.specs.State.{State}
use Rattle.rip_routes.specs.OwnTables.{AreOwnTables, OwnTables, route_at}
use Rattle.rip_routes.specs.declared.next_hop.NextHop.{NextHop}
use Rattle.rip_routes.specs.declared.next_hop.NextHop.TheVariants.{Over, Via}
use Rattle.rip_check.specs.Networks.{block_at, network_at}
use Rattle.rip_check.specs.OwnTells.{IsMute, IsOver, IsToldBy}
use Rattle.rip_check.specs.OwnSettled.{HopGoesRight, IsHopGiven, OwnAllRight, OwnHoldsAll}
use Rattle.rip_check.specs.Paths.{Hop, IsPath, MayHop}
use Rattle.rip_check.specs.Settled.{IsChoice}
use Rattle.rip_check.specs.Tables.{Offers}
use Rattle.rip_check.proofs.OwnRouteLemmas.{route_is}
use Rattle.rip_check.proofs.OwnOfferLemmas.{own_offer_below, own_offer_of}

module _ (n : Network) (told : State) (t : OwnTables) (plan : IsLawful n) (are : AreOwnTables t) (by : IsToldBy n t told) (right : OwnAllRight n t) where
  -- the network of a prefix, and the laws that it keeps
  abbrev net : ℕ → Network
  net p = network_at n t.prefixes p

  its : (p : ℕ) → IsNetwork (net p)
  its p = prefix_network n plan (block_at t.prefixes p)

  -- a metric below 16 has a path
  path_below : (r p : ℕ) → r < length n.routers → p < length t.prefixes → (route_at t r p).metric < 16 → (hops : List Hop) × IsPath (net p) p r hops (route_at t r p).metric
  path_below r p at known small =
      elim (right r p at known).least.reached [
        | inl e ↦ absurd (omega (arith, e, small))
        | inr h ↦ h.1
      ]

  -- the metric and the cost to a neighbour are no less than the metric
  step_least : (r l c s p : ℕ) → r < length n.routers → p < length t.prefixes → HasCost (net p) r l c → MayHop (net p) p r l s → (route_at t s p).metric < 16 →
      (route_at t r p).metric ≤ c + (route_at t s p).metric
  step_least r l c s p at known has hop small =
      let path = path_below s p ((its p).neighbour_known r l s at hop.neighbour) known small in
      (right r p at known).least.least (record { link = l; to = s } ∷ path.0) (c + (route_at t s p).metric)
      (c, (route_at t s p).metric, has, hop, path.1, refl)

  -- a router that keeps the prefix has no next hop
  no_hop : (r p : ℕ) → r < length n.routers → p < length t.prefixes → IsKept (net p) r p → (h : NextHop) → Contains (route_at t r p).hops h → ⊥
  no_hop r p at known kept h listed = hop_case h ((right r p at known).hops h listed)
    where
      hop_case : (h : NextHop) → HopGoesRight (net p) p r (route_at t r p).metric h → ⊥
      hop_case (Over l) goes = goes.2.3.goes_on kept
      hop_case (Via a) goes = goes.path.1.3.goes_on kept

  -- a router is mute on the link to which it has the prefix attached
  mute_there : (s p l : ℕ) → s < length n.routers → p < length t.prefixes → (route_at t s p).metric < 16 → IsAttached (net p) s p l → IsMute (net p) t s l p
  mute_there s p l at known small attached =
      elim ((route_is t are s p).way small) [
        | inl here ↦ inr (inr (attached, here))
        | inr hop ↦ absurd (no_hop s p at known (inr (l, attached)) hop.0 hop.1)
      ]

  -- no choice is less than the metric
  choice_least : (r p : ℕ) → r < length n.routers → p < length t.prefixes → (v : ℕ) → IsChoice (net p) told r p v → (route_at t r p).metric ≤ v
  choice_least r p at known v (inl e) = omega (arith, e, (route_is t are r p).most)
  choice_least r p at known v (inr (inl d)) = (right r p at known).least.least [] v d
  choice_least r p at known v (inr (inr h)) =
      let l = h.1.0 in
      let s = h.1.1 in
      let o = h.1.2 in
      let split : (v < 16) ⊎ (16 ≤ v) = cases_lt v 16 in
      elim split [
        | inl small ↦
            let s_at = (its p).neighbour_known r l s at o.neighbour in
            let e = own_offer_below n told t by r l s p v s_at known o small in
            let low : (route_at t s p).metric < 16 = omega (arith, e.0, small) in
            let hop : MayHop (net p) p r l s = record { neighbour = o.neighbour; goes_on = h.0; tells = λ attached. e.1 (mute_there s p l s_at known low attached) } in
            omega (arith, e.0, step_least r l o.cost s p at known o.here hop low)
        | inr big ↦ omega (arith, (route_is t are r p).most, big)
      ]

  -- where a router sends over a link, a path of its metric begins there
  path_over : (s p l : ℕ) (h : NextHop) → IsOver (net p) s p h l → HopGoesRight (net p) p s (route_at t s p).metric h →
      (u : ℕ) × (hops : List Hop) × IsPath (net p) p s (record { link = l; to = u } ∷ hops) (route_at t s p).metric
  path_over s p l (Over k) over goes = rw over at goes
  path_over s p l (Via a) over goes =
      let e : goes.link ≡ l = over.1 goes.link (goes.neighbour, goes.has) in
      (goes.neighbour, goes.path.0, rw e at goes.path.1)

  -- a router that is next on a least path is not mute on the link
  loud : (r l c s p : ℕ) → r < length n.routers → p < length t.prefixes → HasCost (net p) r l c → MayHop (net p) p r l s →
      (route_at t r p).metric ≡ c + (route_at t s p).metric → (route_at t r p).metric < 16 → IsMute (net p) t s l p → ⊥
  loud r l c s p at known has hop e small (inl mute) = omega (arith, e, small, mute)
  loud r l c s p at known has hop e small (inr (inr mute)) = hop.tells mute.0
  loud r l c s p at known has hop e small (inr (inl over)) =
      -- s goes over this very link: to r, or to one that is r's neighbour too; either way r has a cheaper path
      let s_at = (its p).neighbour_known r l s at hop.neighbour in
      let goes = path_over s p l over.0 over.2 ((right s p s_at known).hops over.0 over.1) in
      let u = goes.0 in
      let path = goes.2 in
      let same : (u ≡ r) ⊎ (u ≡ r → ⊥) = cases_eq u r in
      let cost = (its p).cost_least path.2.0 s l path.0 path.2.1 in
      elim same [
        | inl is ↦
            let from_r : IsPath (net p) p r goes.1 path.1 = rw is at path.4 in
            let le = (right r p at known).least.least goes.1 path.1 from_r in
            omega (arith, le, e, path.5, cost)
        | inr not ↦
            let near_too : MayHop (net p) p r l u =
            record { neighbour = record { other = not; here = hop.neighbour.here; there = path.3.neighbour.there }; goes_on = hop.goes_on; tells = path.3.tells } in
            let le = (right r p at known).least.least (record { link = l; to = u } ∷ goes.1) (c + path.1) (c, path.1, has, near_too, path.4, refl) in
            omega (arith, le, e, path.5, cost)
      ]

  -- who comes next on a least path offers the metric
  offered : (r l s p : ℕ) (hops : List Hop) → r < length n.routers → p < length t.prefixes → (route_at t r p).metric < 16 →
      IsPath (net p) p r (record { link = l; to = s } ∷ hops) (route_at t r p).metric → (IsKept (net p) r p → ⊥) × Offers (net p) told r l s p (route_at t r p).metric
  offered r l s p hops at known small path =
      let hop = path.3 in
      let s_at = (its p).neighbour_known r l s at hop.neighbour in
      let le = (right s p s_at known).least.least hops path.1 path.4 in
      let low : (route_at t s p).metric < 16 = omega (arith, le, path.5, small) in
      let up = step_least r l path.0 s p at known path.2 hop low in
      let e : (route_at t r p).metric ≡ path.0 + (route_at t s p).metric = omega (arith, le, up, path.5) in
      let o = own_offer_of n told t by r l s p path.0 s_at known hop.neighbour path.2 (loud r l path.0 s p at known path.2 hop e small) in
      let same : min 16 (path.0 + (route_at t s p).metric) ≡ (route_at t r p).metric = omega (arith, e, small) in
      (hop.goes_on, rw same at o)

  hop_given : (r p : ℕ) → r < length n.routers → p < length t.prefixes → (route_at t r p).metric < 16 → (h : NextHop) → HopGoesRight (net p) p r (route_at t r p).metric h →
      IsHopGiven (net p) told r p (route_at t r p).metric h
  hop_given r p at known small (Over l) goes =
      let o = offered r l goes.0 p goes.1 at known small goes.2 in
      (o.0, (goes.0, o.1))
  hop_given r p at known small (Via a) goes =
      let o = offered r goes.link goes.neighbour p goes.path.0 at known small goes.path.1 in
      record {
        takes = o.0;
        link = goes.link;
        neighbour = goes.neighbour;
        has = goes.has;
        offer = o.1;
        holders = λ l s holder.
            let (k, its, path) = goes.holders l s holder in
            (k, its, (offered r k s p path.0 at known small path.1).1);
      }

  -- the metric is a choice
  chosen : (r p : ℕ) → r < length n.routers → p < length t.prefixes → (route_at t r p).metric < 16 → (hops : List Hop) → IsPath (net p) p r hops (route_at t r p).metric →
      IsChoice (net p) told r p (route_at t r p).metric
  chosen r p at known small [] path = inr (inl path)
  chosen r p at known small (h ∷ hops) path =
      let o = offered r h.link h.to p hops at known small path in
      inr (inr (o.0, (h.link, h.to, o.1)))

  pub own_holds : OwnHoldsAll n told t
  own_holds r p at known =
      let is = route_is t are r p in
      let split : ((route_at t r p).metric < 16) ⊎ (16 ≤ (route_at t r p).metric) = cases_lt (route_at t r p).metric 16 in
      record {
        choice = record {
          chosen = elim split [
            | inl small ↦
                let path = path_below r p at known small in
                chosen r p at known small path.0 path.1
            | inr big ↦ inl (omega (arith, is.most, big))
          ];
          least = choice_least r p at known;
        };
        given = record {
          here = (right r p at known).here;
          hops = λ h listed. elim split [
            | inl small ↦ hop_given r p at known small h ((right r p at known).hops h listed)
            | inr big ↦
                let none = (is.unreachable (omega (arith, is.most, big))).1 in
                let listed' : Contains [] h = rw none at listed in
                absurd (none_listed h listed')
          ];
        };
      }
    where
      none_listed : (h : NextHop) → Contains [] h → ⊥
      none_listed h listed = omega (arith, listed.1)
