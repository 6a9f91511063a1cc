-- What is kept of all places that do not hold.
use Rattle.std.specs.Prelude.{◌≡◌, ℕ, ◌+◌, ◌*◌, ◌≤◌, ◌<◌, Option, None, IfNone, IfSome, List, length, slice_index_or}
use Rattle.rip_plan.specs.Network.{Network}
use Rattle.rip_table.specs.State.{State}
use Rattle.rip_routes.specs.OwnTables.{OwnTables}
use Rattle.rip_check.specs.Networks.{network_at}
use Rattle.rip_check.specs.OwnVerdicts.{IsOwnSound}
use Rattle.rip_check.specs.Tables.{Route, FitsThere}
use Rattle.rip_check.specs.Settled.{Holds, IsLeastChoice}
use Rattle.rip_check.specs.Verdicts.{IsSound}
use Rattle.rip_check.specs.declared.wrong_places.WrongPlaces.{WrongPlaces}
use Rattle.rip_check.specs.declared.unsettled.Unsettled.{Unsettled}

-- a route fits at the place and does not hold, and the equation there gives v
pub record FailsWith (n : Network) (shown : State) (r p v : ℕ) : Type 0 where
  pub route : Route
  pub fits : FitsThere n shown r p route
  pub fails : Holds (network_at n shown.prefixes p) shown r p route → ⊥
  pub equation : IsLeastChoice (network_at n shown.prefixes p) shown r p v

-- nothing where the place holds or can't be read, else what the equation gives
pub record IsMark (n : Network) (shown : State) (r p : ℕ) (mark : Option ℕ) : Type 0 where
  pub sound : IfNone mark (IsSound n shown r p)
  pub fails : IfSome mark (λ v. (1 ≤ v) × (v ≤ 16) × FailsWith n shown r p v)

-- there is a mark for each router and prefix of the table, router by router
pub record AreMarked
    (n : Network) (s : State) (Is : ℕ → ℕ → Option ℕ → Type 0) (marks : List (Option ℕ))
    : Type 0 where
  pub size : length marks ≡ length n.routers * length s.prefixes
  pub each : (r p : ℕ) → r < length n.routers → p < length s.prefixes
      → Is r p (slice_index_or marks (r * length s.prefixes + p) None)

-- these are the places of this plan and this table that do not hold
abbrev pub AreUnsettled : Network → State → Unsettled → Type 0
AreUnsettled n s unsettled = AreMarked n s (IsMark n s) unsettled.marks.items

-- the same of the routers' own tables: nothing where the place holds, else what the equation gives
pub record IsOwnMark (n : Network) (told : State) (t : OwnTables) (r p : ℕ) (mark : Option ℕ)
    : Type 0 where
  pub sound : IfNone mark (IsOwnSound n told t r p)
  pub fails : IfSome mark (λ v. (1 ≤ v) × (v ≤ 16)
      × IsLeastChoice (network_at n t.prefixes p) told r p v
      × (IsOwnSound n told t r p → ⊥))

-- these are the places of the routers' own tables that do not hold
abbrev pub AreWrong : Network → State → OwnTables → WrongPlaces → Type 0
AreWrong n told t wrong = AreMarked n told (IsOwnMark n told t) wrong.marks.items
