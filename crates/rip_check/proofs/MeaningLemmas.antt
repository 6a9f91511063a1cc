-- What a verdict means, both ways.
use Rattle.std.proofs.Common.{◌≡◌, ℕ, ◌<◌, ◌↔◌, length, refl}
use Rattle.rip_plan.specs.Network.{Network}
use Rattle.rip_plan.specs.Relations.{IsLawful}
use Rattle.rip_table.specs.State.{State}
use Rattle.rip_check.specs.Tables.{Tables, Shows}
use Rattle.rip_check.specs.Laws.{ShowsRightTables, EachPlaceHolds}
use Rattle.rip_check.specs.Networks.{network_at}
use Rattle.rip_check.specs.Settled.{Holds}
use Rattle.rip_check.specs.Walks.{WalksArrive}
use Rattle.rip_check.proofs.ReadableLemmas.{one_there}
use Rattle.rip_check.proofs.JudgingLemmas.{places_are_settled, tables_are_right}
use Rattle.rip_check.proofs.WalkLemmas.{walks_end, walks_end_there, walks_go_on}
use Rattle.rip_check.specs.Metrics.{IsInRange}
use Rattle.rip_check.specs.declared.verdict.Unclear.{Unclear}
use Rattle.rip_check.specs.declared.verdict.Verdict.{Verdict}
use Rattle.rip_check.specs.declared.verdict.Verdict.TheVariants.{Settled, Unsettled, Unclear as IsUnclear}
use Rattle.rip_check.specs.Verdicts.{ShowsTables, IsVerdict}
use Rattle.rip_check.proofs.OneVerdictLemmas.{one_verdict, no_trouble}

module _ (n : Network) (shown : State) (plan : IsLawful n) (range : IsInRange n shown) where
  -- a verdict is given exactly where it is so
  pub exactly : (v w : Verdict) → IsVerdict n shown v → (v ≡ w) ↔ IsVerdict n shown w
  exactly v w is = (λ e. rw e at is, λ is'. one_verdict n shown plan range v w is is')

  pub settled_places_too : (v : Verdict) → IsVerdict n shown v → (v ≡ Settled) ↔ EachPlaceHolds n shown
  settled_places_too v is =
      let both = exactly v Settled is in
      (λ e. places_are_settled n shown plan (both.0 e), λ h. both.1 (tables_are_right n shown plan h))

  pub no_tables : (v : Verdict) → IsVerdict n shown v → ((u : Unclear) × (v ≡ IsUnclear u)) ↔ (ShowsTables n shown → ⊥)
  no_tables Settled is = (λ h. cc h.1, λ none. absurd (none (is.0, is.1)))
  no_tables (Unsettled f) is = (λ h. cc h.1, λ none. absurd (none is.0))
  no_tables (IsUnclear u) is = (λ h tables. no_trouble n shown plan range u tables is, λ none. (u, refl))

  pub arrive : ShowsRightTables n shown → (T : Tables) → Shows n shown T → WalksArrive n shown T
  arrive right T shows = record {
    short = walks_end n shown T plan shows;
    go_on = walks_go_on n shown T plan shows holds;
    there = walks_end_there n shown T plan shows holds;
  }
    where
      holds : (r p : ℕ) → r < length n.routers → p < length shown.prefixes → Holds (network_at n shown.prefixes p) shown r p (T r p)
      holds r p at known =
          let place = (places_are_settled n shown plan right).places r p at known in
          let e : place.0 ≡ T r p = one_there n plan shown r p place.0 (T r p) at place.1 (shows.fits r p at known) in
          rw e at place.2
