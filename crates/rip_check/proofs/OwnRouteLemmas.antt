-- The route of a place, told or not.
use Rattle.std.proofs.Common.{◌≡◌, ℕ, Contains, Option, None, Some, unwrap_or, slice_get, refl, arith}
use Rattle.std.specs.Option.{option_map_or}
use Rattle.rip_wire.specs.Prefix.{Block}
use Rattle.rip_plan.specs.Network.{Network}
use Rattle.rip_plan.specs.Relations.{IsOn}
use Rattle.rip_routes.specs.OwnTables.{AreOwnTables, FitsOwn, IsOwnRoute, OwnRoute, OwnTables, no_route, route_at}
use Rattle.rip_routes.specs.declared.next_hop.NextHop.TheVariants.{Over}

pub no_route_is : IsOwnRoute no_route
no_route_is = record {
  least = omega arith;
  most = omega arith;
  way = λ small. absurd (omega (arith, small));
  unreachable = λ e. (refl, refl);
  once = λ i j h a b. cc a;
}

known_route : (o : Option OwnRoute) → ((route : OwnRoute) → o ≡ Some route → IsOwnRoute route) → IsOwnRoute (unwrap_or o no_route)
known_route None is = no_route_is
known_route (Some route) is = is route refl

pub route_is : (t : OwnTables) → AreOwnTables t → (r k : ℕ) → IsOwnRoute (route_at t r k)
route_is t are r k = at (slice_get t.prefixes k)
  where
    at : (o : Option Block) → IsOwnRoute (option_map_or (λ p. unwrap_or (t.routes r p) no_route) o no_route)
    at None = no_route_is
    at (Some p) = known_route (t.routes r p) (λ route is. (are.told r p route is).0)

-- a route goes over links of its router
pub goes_over : (n : Network) (t : OwnTables) → FitsOwn n t → (r k l : ℕ) → Contains (route_at t r k).hops (Over l) → IsOn n r l
goes_over n t fits r k l = at (slice_get t.prefixes k)
  where
    no_hop : Contains no_route.hops (Over l) → IsOn n r l
    no_hop listed = absurd (omega (arith, listed.1))

    known : (p : Block) (o : Option OwnRoute) → t.routes r p ≡ o → Contains (unwrap_or o no_route).hops (Over l) → IsOn n r l
    known p None is listed = no_hop listed
    known p (Some route) is listed = fits.over r l p route is listed

    at : (o : Option Block) → Contains (option_map_or (λ p. unwrap_or (t.routes r p) no_route) o no_route).hops (Over l) → IsOn n r l
    at None listed = no_hop listed
    at (Some p) listed = known p (t.routes r p) refl listed
