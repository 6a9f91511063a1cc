-- Expected routes, told as the routers' own, are right.
use Rattle.std.proofs.Common.{ℕ, List, sym, subst}
use Rattle.rip_wire.specs.Prefix.{Block}
use Rattle.rip_plan.specs.Network.{Network}
use Rattle.rip_plan.specs.Relations.{IsLawful}
use Rattle.rip_table.specs.State.{State}
use Rattle.rip_routes.specs.OwnTables.{AreOwnTables, OwnRoute, OwnTables, route_at}
use Rattle.rip_routes.specs.declared.next_hop.NextHop.{NextHop}
use Rattle.rip_check.specs.Networks.{network_at}
use Rattle.rip_check.specs.OwnLaws.{AreExpectedTables, IsExpectedOwn}
use Rattle.rip_check.specs.OwnSettled.{AreRightTables, EachOwnHolds, HopGoesRight, IsOwnRight}
use Rattle.rip_check.specs.OwnTells.{IsToldBy}
use Rattle.rip_check.proofs.OwnConverseLemmas.{own_holds}

expected_right : (n : Network) (r p : ℕ) (route : OwnRoute) → IsExpectedOwn n r p route → IsOwnRight n r p route
expected_right n r p route is = record {
  least = is.least;
  here = λ here. (is.here here).right.goes;
  hops = λ h listed.
      let hop = is.hops h listed in
      subst (λ (x : NextHop). HopGoesRight n p r route.metric x) (sym hop.1) hop.2.right.goes;
}

module _ (n : Network) (t : OwnTables) (are : AreExpectedTables n t) where
  pub expected_are_right : AreRightTables n t
  expected_are_right = record {
    listed = are.listed;
    right = λ r p at known.
        let right = expected_right (network_at n n.prefixes p) r p (route_at t r p) (are.routes r p at (rw are.prefixes at known)) in
        subst (λ (b : List Block). IsOwnRight (network_at n b p) r p (route_at t r p)) (sym are.prefixes) right;
  }

  pub expected_settle : (told : State) → IsLawful n → AreOwnTables t → IsToldBy n t told → EachOwnHolds n told t
  expected_settle told plan own by = record { listed = are.listed; places = own_holds n told t plan own by expected_are_right.right }
