-- Verdicts.
use Rattle.std.specs.Prelude.{◌≡◌, ℕ, ◌≤◌, ◌<◌, ◌⊎◌, ◌↔◌, Decides, Option, None, Some, Result, Ok, Err, IsTrue, length}
use Rattle.rip_plan.specs.Network.{Network}
use Rattle.rip_plan.specs.Relations.{IsLeaf}
use Rattle.rip_table.specs.State.{State}
use Rattle.rip_check.specs.Tables.{Tables, Shows, Route, FitsShown, FitsThere, IsOff, IsOnlyRoute, IsSilent, MayHoldBack}
use Rattle.rip_check.specs.Settled.{Holds, IsLeastChoice}
use Rattle.rip_check.specs.Laws.{ShowsRightTables}
use Rattle.rip_check.specs.Firsts.{AreFine, CanBeRead, IsFirst, IsFirstAt, IsFirstTrouble}
use Rattle.rip_check.specs.declared.routes.ReadRoute.{ReadRoute}
use Rattle.rip_check.specs.declared.verdict.Place2.{Place2}
use Rattle.rip_check.specs.declared.verdict.Verdict.{Verdict}
use Rattle.rip_check.specs.declared.verdict.Verdict.TheVariants.{Settled, Unsettled, Unclear as IsUnclear}
use Rattle.rip_check.specs.Metrics.{metric_at}
use Rattle.rip_check.specs.Networks.{network_at}

-- the log shows tables
abbrev pub ShowsTables : Network → State → Type 0
ShowsTables n shown = (T : Tables) × Shows n shown T

-- the router's metric is not in what it shows: it has one interface, or none
abbrev pub IsHidden : Network → State → ℕ → ℕ → Type 0
IsHidden n shown r p =
    ((i l c : ℕ) × IsLeaf n r i l c
    × ((MayHoldBack n r p l × IsSilent (metric_at shown i p))
    ⊎ ((MayHoldBack n r p l → ⊥) × (metric_at shown i p ≡ Some 16))))
    ⊎ IsOff n r

-- each route that fits at the place holds
abbrev pub IsSound : Network → State → ℕ → ℕ → Type 0
IsSound n shown r p =
    (t : Route) → FitsThere n shown r p t → Holds (network_at n shown.prefixes p) shown r p t

-- the route of a place
abbrev pub its_route : Place2 → Route
its_route place = record { metric = place.metric; way = place.way }

-- the network of a place's prefix
abbrev pub its_network : Network → State → Place2 → Network
its_network n shown place = network_at n shown.prefixes place.prefix

-- the values of a place whose route fails
pub record IsFailing (n : Network) (shown : State) (place : Place2) : Type 0 where
  pub fits : FitsThere n shown place.router place.prefix (its_route place)
  pub fails : Holds (its_network n shown place) shown place.router place.prefix (its_route place)
      → ⊥
  pub equation : IsLeastChoice (its_network n shown place) shown place.router place.prefix
      place.equation
  pub hidden : IsTrue place.hidden
      ↔ IsHidden (its_network n shown place) shown place.router place.prefix

-- the first place after the given one, if one is given, that can be read and does not hold, with
-- its values
pub record IsNextUnsettled
    (n : Network) (shown : State) (after : Option (ℕ × ℕ)) (place : Place2)
    : Type 0 where
  pub first : IsFirst n (length shown.prefixes) after (IsSound n shown)
      place.router place.prefix
  pub values : IsFailing n shown place

-- what a verdict says
abbrev pub IsVerdict : Network → State → Verdict → Type 0
IsVerdict n shown Settled = ShowsRightTables n shown
IsVerdict n shown (Unsettled place) =
    ShowsTables n shown × IsNextUnsettled n shown None place
IsVerdict n shown (IsUnclear unclear) = IsFirstTrouble n shown unclear

-- of the first prefixes: a place is the first that can't be read, or each can be read, and the
-- first that does not hold is this, if there is one
abbrev pub IsFirstPlace : Network → State → ℕ → Result (Option (ℕ × ℕ)) (ℕ × ℕ) → Type 0
IsFirstPlace n shown count (Err a) = IsFirstAt n count (CanBeRead n shown) (Some a)
IsFirstPlace n shown count (Ok failing) =
    IsFirstAt n count (CanBeRead n shown) None × IsFirstAt n count (IsSound n shown) failing

-- the first failing place of router r from a prefix on
pub record IsRowFirst
    (n : Network) (shown : State) (r from : ℕ) (place : Place2)
    : Type 0 where
  pub router : place.router ≡ r
  pub from_on : from ≤ place.prefix
  pub below : place.prefix < length shown.prefixes
  pub before : (q : ℕ) → from ≤ q → q < place.prefix → IsSound n shown r q
  pub values : IsFailing n shown place

-- every place after the given one, if one is given, that can be read holds
abbrev pub HoldsAfter : Network → State → Option (ℕ × ℕ) → Type 0
HoldsAfter n shown after = AreFine n (length shown.prefixes) after (IsSound n shown)

-- the given place, if one is given, has a prefix of the table
abbrev pub IsKnownPlace : State → Option (ℕ × ℕ) → Type 0
IsKnownPlace shown None = Unit {0}
IsKnownPlace shown (Some a) = a.1 < length shown.prefixes

-- the route that was read
abbrev pub route_of : ReadRoute → Route
route_of t = record { metric = t.metric; way = t.way }

-- the route was read there: it fits what is shown, and is marked where the router's metric is not
-- in that; else no other route could be behind it
pub record IsRead (n : Network) (shown : State) (r p : ℕ) (read : ReadRoute) : Type 0 where
  pub most : read.metric ≤ 16
  pub fits : FitsShown n shown r p (route_of read)
  pub hidden : Decides read.hidden (IsHidden n shown r p)
  pub one : IsTrue read.hidden ⊎ IsOnlyRoute n shown r p (route_of read)
