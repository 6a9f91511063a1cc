-- Walks: a packet that follows the routers' own tables, over any choice of their ways.
use Rattle.std.specs.Prelude.{◌≡◌, ℕ, ◌≤◌, ◌<◌, ◌⊎◌, true, Contains, List, [], ◌∷◌, ◌++◌, length}
use Rattle.rip_plan.specs.Network.{Network}
use Rattle.rip_plan.specs.Relations.{IsDirect}
use Rattle.rip_table.specs.State.{State}
use Rattle.rip_routes.specs.OwnTables.{OwnTables, route_at}
use Rattle.rip_routes.specs.declared.next_hop.NextHop.{NextHop}
use Rattle.rip_routes.specs.declared.next_hop.NextHop.TheVariants.{Over, Via}
use Rattle.rip_check.specs.Networks.{network_at}
use Rattle.rip_check.specs.OwnTells.{HasHop, IsHolder}
use Rattle.rip_check.specs.Tables.{Offers}

-- A packet of router r for prefix p can go to neighbour s by the next hop, where r has the metric:
-- over a link, to any neighbour there that offers the metric; by an address, to any neighbour whose
-- own it is, and to any that has it as gateway and offers the metric.
abbrev pub LeadsTo : Network → State → ℕ → ℕ → ℕ → NextHop → ℕ → Type 0
LeadsTo n told r p m (Over l) s = Offers n told r l s p m
LeadsTo n told r p m (Via a) s =
    ((l : ℕ) × IsHolder n r l s a)
    ⊎ ((l : ℕ) × HasHop n r l s p a × Offers n told r l s p m)

-- a packet for p can go from r to s by one of r's next hops
pub record OwnGoesTo (n : Network) (told : State) (t : OwnTables) (p r s : ℕ) : Type 0 where
  pub hop : NextHop
  pub listed : Contains (route_at t r p).hops hop
  pub leads : LeadsTo (network_at n t.prefixes p) told r p (route_at t r p).metric hop s

-- each router goes to the next
abbrev pub EachOwnGoesOn : Network → State → OwnTables → ℕ → ℕ → List ℕ → Type 0
EachOwnGoesOn n told t p r [] = Unit {0}
EachOwnGoesOn n told t p r (s ∷ rest) =
    OwnGoesTo n told t p r s × EachOwnGoesOn n told t p s rest

-- the walk has a router, the first has a metric below 16, and each goes to the next
abbrev pub IsOwnWalk : Network → State → OwnTables → ℕ → List ℕ → Type 0
IsOwnWalk n told t p [] = ⊥
IsOwnWalk n told t p (r ∷ rest) =
    (r < length n.routers) × ((route_at t r p).metric < 16) × EachOwnGoesOn n told t p r rest

-- a walk has at most as many routers as its first router's metric, and at most fifteen
abbrev pub EachOwnIsShort : Network → State → OwnTables → Type 0
EachOwnIsShort n told t =
    (p r : ℕ) (rest : List ℕ) → p < length t.prefixes → IsOwnWalk n told t p (r ∷ rest) →
    (length (r ∷ rest) ≤ (route_at t r p).metric) × (length (r ∷ rest) ≤ 15)

-- the last router of a walk is its own way, or has a next hop
abbrev pub EachOwnHasWay : Network → State → OwnTables → Type 0
EachOwnHasWay n told t =
    (p z : ℕ) (before : List ℕ) → p < length t.prefixes
    → IsOwnWalk n told t p (before ++ z ∷ [])
    → ((route_at t z p).here ≡ true) ⊎ ((h : NextHop) × Contains (route_at t z p).hops h)

-- a walk goes on by any next hop of its last router, to a neighbour to which that leads
abbrev pub EachOwnCanGoOn : Network → State → OwnTables → Type 0
EachOwnCanGoOn n told t =
    (p z : ℕ) (before : List ℕ) (h : NextHop) → p < length t.prefixes
    → IsOwnWalk n told t p (before ++ z ∷ []) → Contains (route_at t z p).hops h
    → (s : ℕ) × LeadsTo (network_at n t.prefixes p) told z p (route_at t z p).metric h s
    × IsOwnWalk n told t p (before ++ z ∷ s ∷ [])

-- where the last router of a walk is its own way, it is on a link of the prefix, or owns it
abbrev pub EachOwnEndsThere : Network → State → OwnTables → Type 0
EachOwnEndsThere n told t =
    (p z : ℕ) (before : List ℕ) → p < length t.prefixes
    → IsOwnWalk n told t p (before ++ z ∷ []) → (route_at t z p).here ≡ true →
    IsDirect (network_at n t.prefixes p) z p (route_at t z p).metric

-- whoever follows the tables from a metric below 16 arrives, over any choice of their ways, after
-- at most as many routers as the first one's metric, which are at most fifteen
pub record OwnPacketsArrive (n : Network) (told : State) (t : OwnTables) : Type 0 where
  pub short : EachOwnIsShort n told t
  pub has_way : EachOwnHasWay n told t
  pub go_on : EachOwnCanGoOn n told t
  pub there : EachOwnEndsThere n told t
