-- What a place that does not hold names is known.
use Rattle.std.proofs.Common.{◌≡◌, ℕ, ◌<◌, Option, length}
use Rattle.rip_plan.specs.Network.{Network}
use Rattle.rip_plan.specs.PrefixNetworks.{IsNetwork}
use Rattle.rip_plan.specs.Relations.{IsLawful}
use Rattle.rip_plan.proofs.PrefixNetworkLemmas.{prefix_network}
use Rattle.rip_check.specs.Networks.{block_at, network_at}
use Rattle.rip_table.specs.State.{State}
use Rattle.rip_check.specs.declared.verdict.Place2.{Place2}
use Rattle.rip_check.specs.declared.way.Way.{Way}
use Rattle.rip_check.specs.declared.way.Way.TheVariants.{Unreachable, Here, Over}
use Rattle.rip_check.specs.Tables.{FitsThere, FitsWay, Route}
use Rattle.rip_check.specs.Told.{told}
use Rattle.rip_check.specs.Verdicts.{IsFailing, IsNextUnsettled, its_route}
use Rattle.rip_report.specs.AuditText.{AreKnown}
use Rattle.rip_report.specs.Names.{IsKnownWay}

-- the place and its way are known
pub known_way : (n : Network) (r p m : ℕ) (way : Way) → IsNetwork n → FitsWay n r p m way → IsKnownWay n way
known_way n r p m (Over l) lawful fits =
    let on = fits.2 in
    lawful.link_known on.1.0 r l on.0 on.1.1
known_way n r p m Here lawful fits = tt
known_way n r p m Unreachable lawful fits = tt

-- and so is the way of a route that fits in the network of its prefix
pub there_known : (n : Network) (s : State) (r p : ℕ) (route : Route) → IsLawful n → FitsThere n (told n s) r p route → IsKnownWay n route.way
there_known n s r p route lawful there =
    known_way (network_at n s.prefixes p) r p route.metric route.way (prefix_network n lawful (block_at s.prefixes p)) there.fits.told.way_fits

pub known_place : (n : Network) (s : State) (after : Option (ℕ × ℕ)) (f : Place2) → IsLawful n → IsNextUnsettled n (told n s) after f → AreKnown n s f
known_place n s after f lawful next = record {
  router = next.first.router;
  prefix = next.first.prefix;
  way = there_known n s f.router f.prefix (its_route f) lawful next.values.fits;
}

-- a place that fails, by its router and its prefix
pub failing_place : (n : Network) (s : State) (r p : ℕ) (f : Place2) → IsLawful n → r < length n.routers → p < length s.prefixes → f.router ≡ r → f.prefix ≡ p → IsFailing n (told n s) f →
    AreKnown n s f
failing_place n s r p f lawful router prefix same_router same_prefix failing = record {
  router = rw same_router router;
  prefix = rw same_prefix prefix;
  way = there_known n s f.router f.prefix (its_route f) lawful failing.fits;
}
