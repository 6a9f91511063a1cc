-- Places that are settled one by one make right tables.
use Rattle.std.proofs.Common.{length}
use Rattle.rip_plan.specs.Network.{Network}
use Rattle.rip_plan.specs.Relations.{IsLawful}
use Rattle.rip_table.specs.State.{State}
use Rattle.rip_check.specs.Tables.{Shows, FitsThere}
use Rattle.rip_check.specs.Networks.{network_at}
use Rattle.rip_check.specs.Settled.{Holds}
use Rattle.rip_check.specs.Laws.{EachPlaceHolds, ShowsRightTables}
use Rattle.rip_check.proofs.DescentLemmas.{right}
use Rattle.rip_check.proofs.ConverseLemmas.{holds}
use Rattle.rip_check.proofs.RouteLemmas.{tables_of}

pub tables_are_right : (n : Network) (shown : State) → IsLawful n → EachPlaceHolds n shown → ShowsRightTables n shown
tables_are_right n shown plan settled =
    let made = tables_of (length n.routers) (length shown.prefixes) (λ r p t. FitsThere n shown r p t × Holds (network_at n shown.prefixes p) shown r p t)
    (λ r p at known. let h = settled.places r p at known in (h.0, (h.1, h.2))) in
    let T = made.0 in
    let shows : Shows n shown T = record { heard = settled.heard; fits = λ r p at known. (made.1 r p at known).0 } in
    (T, shows, right n shown T plan shows (λ r p at known. (made.1 r p at known).1))

pub places_are_settled : (n : Network) (shown : State) → IsLawful n → ShowsRightTables n shown → EachPlaceHolds n shown
places_are_settled n shown plan h =
    record {
      heard = h.1.heard;
      places = λ r p at known. (h.0 r p, h.1.fits r p at known, holds n shown h.0 plan h.1 h.2 r p at known);
    }
