-- What lines make of tables: the definitions that compute.
use Rattle.std.specs.Prelude.{ℕ, ◌+◌, ◌==◌, nat_le, nat_lt, Bool, true, false, ◌&&◌, not, if◌then◌else◌, List, [], ◌∷◌, ◌++◌, length, Option, Some, None, Result, Ok, Err, unwrap_or}
use Rattle.std.specs.List.{list_any}
use Rattle.std.specs.Io.BufRead.{strip_last}
use Rattle.rip_wire.specs.Prefix.{Block}
use Rattle.rip_plan.specs.Network.{Network}
use Rattle.rip_plan.specs.Passes.{same_prefix}
use Rattle.rip_log.specs.Lines.{lines_of}
use Rattle.rip_log.specs.declared.limits.TheConstants.{MOST_LINE_BYTES, MOST_LINES}
use Rattle.rip_table.specs.State.{is_among, with_prefix}
use Rattle.rip_table.specs.declared.limits.TheConstants.{MOST_PREFIXES}
use Rattle.rip_routes.specs.OwnTables.{OwnRoute, OwnTables}
use Rattle.rip_routes.specs.RouteLines.{told_by_bare}
use Rattle.rip_routes.specs.declared.error.RoutesCause.{RoutesCause}
use Rattle.rip_routes.specs.declared.error.RoutesCause.TheVariants as causes
use Rattle.rip_routes.specs.declared.error.RoutesError.{RoutesError}
use Rattle.rip_routes.specs.declared.next_hop.NextHop.{NextHop}
use Rattle.rip_routes.specs.declared.next_hop.NextHop.TheVariants.{Over, Via}
use Rattle.rip_routes.specs.declared.told.Told.{Told}
use Rattle.rip_routes.specs.declared.told.Way.{Way}
use Rattle.rip_routes.specs.declared.told.Way.TheVariants.{Here, To}

-- the tables of which nothing is told
abbrev pub new_tables : Network → OwnTables
new_tables n = record { prefixes = n.prefixes; listed = λ r. false; routes = λ r p. None }

-- ---- a route

abbrev pub same_hop : NextHop → NextHop → Bool
same_hop (Over l) (Over m) = l == m
same_hop (Over l) (Via b) = false
same_hop (Via a) (Over m) = false
same_hop (Via a) (Via b) = a == b

abbrev pub has_hop : NextHop → List NextHop → Bool
has_hop hop hops = list_any (same_hop hop) hops

-- one told again adds nothing
abbrev pub with_hop : NextHop → List NextHop → List NextHop
with_hop hop hops = if has_hop hop hops then hops else hops ++ hop ∷ []

abbrev pub with_way : OwnRoute → Option Way → OwnRoute
with_way route None = route
with_way route (Some Here) = record route { here = true }
with_way route (Some (To hop)) = record route { hops = with_hop hop route.hops }

-- a route of which no way is told yet
abbrev pub first_route : ℕ → OwnRoute
first_route m = record { metric = m; here = false; hops = [] }

abbrev pub route_with : Option OwnRoute → Told → OwnRoute
route_with known told = with_way (unwrap_or known (first_route told.metric)) told.way

-- ---- tables

-- with what a line tells of a place; a new prefix comes last in the list
abbrev pub with_told : OwnTables → Told → OwnTables
with_told t told = record {
  prefixes = with_prefix told.prefix t.prefixes;
  listed = λ r. if r == told.router then true else t.listed r;
  routes = λ r p.
      if (r == told.router) && same_prefix p told.prefix
      then Some (route_with (t.routes told.router told.prefix) told)
      else t.routes r p;
}

-- the prefix is new, and there are as many as there may be
abbrev pub is_full : OwnTables → Block → Bool
is_full t p = nat_le MOST_PREFIXES (length t.prefixes) && not (is_among p t.prefixes)

-- a line's route where this one, or none, was told of its place
abbrev pub tell_at : OwnTables → Told → Option OwnRoute → Result OwnTables RoutesCause
tell_at t told (Some route) =
    if route.metric == told.metric then Ok (with_told t told)
    else Err (causes.Changed told.prefix route.metric told.metric)
tell_at t told None =
    if is_full t told.prefix then Err causes.TooManyPrefixes else Ok (with_told t told)

abbrev pub tell : OwnTables → Told → Result OwnTables RoutesCause
tell t told = tell_at t told (t.routes told.router told.prefix)

-- ---- lines

abbrev pub tell_said : OwnTables → Result (Option Told) RoutesCause → Result OwnTables RoutesCause
tell_said t (Ok None) = Ok t
tell_said t (Ok (Some told)) = tell t told
tell_said t (Err cause) = Err cause

-- one line; that it is too long comes first
abbrev pub tell_line : Network → OwnTables → List ℕ → Result OwnTables RoutesCause
tell_line n t line =
    if nat_lt MOST_LINE_BYTES (length line) then Err causes.LongLine
    else tell_said t (told_by_bare n (strip_last 13 line))

-- what line k makes, and then these
abbrev pub then_tell : ℕ → Result OwnTables RoutesCause
    → (OwnTables → Result OwnTables RoutesError) → Result OwnTables RoutesError
then_tell k (Ok t) later = later t
then_tell k (Err cause) later = Err (record { line = k; cause = cause })

-- the lines after k others
abbrev pub tell_lines : Network → ℕ → List (List ℕ) → OwnTables → Result OwnTables RoutesError
tell_lines n k [] t = Ok t
tell_lines n k (line ∷ lines) t =
    if nat_le MOST_LINES k
    then Err (record { line = k + 1; cause = causes.TooManyLines })
    else then_tell (k + 1) (tell_line n t line) (tell_lines n (k + 1) lines)

-- what a text tells, or its first fault
abbrev pub tell_text : Network → List ℕ → Result OwnTables RoutesError
tell_text n text = tell_lines n 0 (lines_of text) (new_tables n)
