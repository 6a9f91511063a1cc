-- The ways that were told.
use Rattle.std.specs.Prelude.{◌≡◌, ℕ, Bool, true, false, not, ◌≤◌, ◌==◌, ◌&&◌, if◌then◌else◌, List, [], length, Option, Some, None}
use Rattle.std.specs.List.{list_any}
use Rattle.std.specs.Option.{option_map_or}
use Rattle.rip_wire.specs.Prefix.{Block}
use Rattle.rip_plan.specs.Network.{number_of_prefix}
use Rattle.rip_table.specs.Rows.{Rows, cell, heads}
use Rattle.rip_routes.specs.OwnTables.{OwnRoute}
use Rattle.rip_routes.specs.Telling.{has_hop, same_hop}
use Rattle.rip_routes.specs.declared.next_hop.NextHop.{NextHop}
use Rattle.rip_routes.specs.declared.told.Way.{Way}
use Rattle.rip_routes.specs.declared.told.Way.TheVariants.{Here, To}

-- a router, the number of a prefix, and a next hop
abbrev pub WayKey : Type 0
WayKey = ℕ × ℕ × NextHop

abbrev pub same_way : WayKey → WayKey → Bool
same_way a b = (a.0 == b.0 && a.1 == b.1) && same_hop a.2 b.2

-- the way is among these
abbrev pub has_way : WayKey → List WayKey → Bool
has_way key ways = list_any (same_way key) ways

-- these ways are those with one more
abbrev pub IsWithWay : List WayKey → WayKey → List WayKey → Type 0
IsWithWay old key new =
    (other : WayKey) → has_way other new ≡ (if same_way key other then true else has_way other old)

-- whether the way that is told of a router and the prefix of a number is new, if it is a next hop
abbrev pub IsNewWay : List WayKey → ℕ → ℕ → Option Way → Bool → Type 0
IsNewWay ways r k None is_new = is_new ≡ false
IsNewWay ways r k (Some Here) is_new = is_new ≡ false
IsNewWay ways r k (Some (To hop)) is_new = is_new ≡ not (has_way (r, k, hop) ways)

-- it was noted
abbrev pub IsNoted : List WayKey → ℕ → ℕ → Option Way → List WayKey → Type 0
IsNoted old r k None new = new ≡ old
IsNoted old r k (Some Here) new = new ≡ old
IsNoted old r k (Some (To hop)) new = IsWithWay old (r, k, hop) new

-- the way is a next hop that is not among these
abbrev pub IsFreshWay : List WayKey → ℕ → ℕ → Option Way → Type 0
IsFreshWay ways r k way =
    (hop : NextHop) × (way ≡ Some (To hop)) × (has_way (r, k, hop) ways ≡ false)

-- the next hops of a place
abbrev pub hops_of : Option OwnRoute → List NextHop
hops_of o = option_map_or (λ route. route.hops) o []

-- these are the next hops of all places, each with its router and the number of its prefix
pub record AreWays (ways : List WayKey) (rows : Rows (Option OwnRoute)) : Type 0 where
  pub kept : (r k : ℕ) (p : Block) (hop : NextHop) → number_of_prefix p (heads rows) ≡ Some k
      → has_way (r, k, hop) ways ≡ has_hop hop (hops_of (cell None rows r p))
  pub others : (r k : ℕ) (hop : NextHop) → length (heads rows) ≤ k
      → has_way (r, k, hop) ways ≡ false
