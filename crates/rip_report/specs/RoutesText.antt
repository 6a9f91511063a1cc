-- What `routes` prints.
use Rattle.std.specs.Prelude.{◌≡◌, ℕ, ◌⊎◌, ◌==◌, Bool, if◌then◌else◌, Decides, IsTrue, List, [], ◌++◌, length, codes, decimal, slice_get, Some}
use Rattle.rip_plan.specs.Network.{Network}
use Rattle.rip_plan.specs.declared.parts.Interface.{Interface}
use Rattle.rip_table.specs.State.{State}
use Rattle.rip_check.specs.Firsts.{AreHeardOf, CanBeRead, IsCause, IsFirstUnheardOf}
use Rattle.rip_check.specs.Networks.{network_at}
use Rattle.rip_check.specs.Paths.{IsLeast}
use Rattle.rip_check.specs.Tables.{FitsThere, IsOnlyRoute, Route}
use Rattle.rip_check.specs.Told.{told}
use Rattle.rip_check.specs.Verdicts.{IsHidden}
use Rattle.rip_check.specs.declared.verdict.Unclear.{Unclear}
use Rattle.rip_check.specs.declared.verdict.Unclear.TheVariants.{Missing}
use Rattle.rip_check.specs.declared.verdict.Route.{Route as ReadRoute}
use Rattle.rip_check.specs.declared.way.Way.TheVariants.{Unreachable}
use Rattle.rip_report.specs.Lines.{read_part, reason_part, unheard_line}
use Rattle.rip_report.specs.Listings.{TextsBelow, TextsOfPairs}
use Rattle.rip_report.specs.Names.{counts_part, name_of, prefix_name}
use Rattle.rip_report.specs.Written.{Written, line}
use Rattle.rip_report.specs.declared.status.Status.TheVariants.{Done}

-- `routes: 3 routers, 3 prefixes`
unfoldable pub routes_line : Network → State → List ℕ
routes_line n s =
    line (codes "routes: " ++ counts_part (length n.routers) (length s.prefixes))

-- `, least 2`, where the metric is not the least
abbrev pub least_part : ℕ → ℕ → List ℕ
least_part metric least = if metric == least then [] else codes ", least " ++ decimal least

-- `r1 10.2.0.0/16 `, by the numbers of router and prefix
abbrev pub pair_part : Network → State → ℕ → ℕ → List ℕ
pair_part n s r p = name_of n.routers r ++ codes " " ++ prefix_name s p ++ codes " "

-- `r1 10.2.0.0/16 3 over a, least 2`
unfoldable pub read_line : Network → State → ℕ → ℕ → Route → Bool → ℕ → List ℕ
read_line n s r p route hidden least =
    line (pair_part n s r p ++ read_part n route hidden ++ least_part route.metric least)

-- `r1 10.2.0.0/16 unclear: two ways`
unfoldable pub unread_line : Network → State → ℕ → ℕ → Unclear → List ℕ
unread_line n s r p trouble =
    line (pair_part n s r p ++ codes "unclear: " ++ reason_part n trouble)

-- the metric and the way that were read
abbrev pub route_of : ReadRoute → Route
route_of found = record { metric = found.metric; way = found.way }

-- the route that is read of what router r shows of prefix p, and whether it is that of a leaf which
-- cannot show it
pub record IsRead (n : Network) (s : State) (r p : ℕ) (route : Route) (hidden : Bool) : Type 0 where
  pub fits : FitsThere n (told n s) r p route
  pub one : IsTrue hidden ⊎ IsOnlyRoute (network_at n s.prefixes p) (told n s) r p route
  pub hides : Decides hidden (IsHidden (network_at n s.prefixes p) (told n s) r p)

-- the router need not show such a route on any link: it has none, or it is that of a leaf which
-- cannot show it
abbrev pub IsSilentRoute : Route → Bool → Type 0
IsSilentRoute route hidden = (route.way ≡ Unreachable) ⊎ IsTrue hidden

-- the line of a router and a prefix: the route that is read, and the least metric of the plan where
-- it is another; or why none can be read; or where a route that the router need not show is read
-- and an interface of it was not heard, that one
pub data RouteLine (n : Network) (s : State) (r p : ℕ) : List ℕ → Type 0 where
  a_route : (route : Route) (hidden : Bool) (least : ℕ) → IsRead n s r p route hidden
      → (IsSilentRoute route hidden → AreHeardOf (network_at n s.prefixes p) s r)
      → IsLeast (network_at n n.prefixes p) p r least
      → RouteLine n s r p (read_line n s r p route hidden least)
  unclear : (trouble : Unclear) → (CanBeRead n (told n s) r p → ⊥)
      → IsCause n (told n s) r p trouble
      → RouteLine n s r p (unread_line n s r p trouble)
  unheard : (route : Route) (hidden : Bool) (l : ℕ) → IsRead n s r p route hidden
      → IsSilentRoute route hidden → IsFirstUnheardOf (network_at n s.prefixes p) s r l
      → RouteLine n s r p (unread_line n s r p (Missing r p l))

-- the line of the interface of a number, where it was not heard
pub data UnheardLine (n : Network) (s : State) (i : ℕ) : List ℕ → Type 0 where
  unheard : (x : Interface) → slice_get n.interfaces i ≡ Some x → (IsTrue (s.heard i) → ⊥)
      → UnheardLine n s i (unheard_line n x)
  heard : IsTrue (s.heard i) → UnheardLine n s i []

-- the interfaces that were not heard, and the routes, router by router
pub data RoutesLines (n : Network) (s : State) : List ℕ → Type 0 where
  lines : (silent routes : List ℕ) → TextsBelow (UnheardLine n s) (length n.interfaces) silent
      → TextsOfPairs (RouteLine n s) (length n.routers) (length s.prefixes) routes
      → RoutesLines n s (silent ++ routes)

-- the counts, and these lines
pub data RoutesText (n : Network) (s : State) : Written → Type 0 where
  routes : (lines : List ℕ) → RoutesLines n s lines
      → RoutesText n s (record { text = routes_line n s ++ lines; status = Done })
