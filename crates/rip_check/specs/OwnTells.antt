-- What routers tell their neighbours, by their own tables: split horizon by link (RFC 2453, 3.4.3).
use Rattle.std.specs.Prelude.{◌≡◌, ℕ, ◌<◌, ◌⊎◌, true, false, Contains, Option, None, Some, length}
use Rattle.rip_plan.specs.Network.{Network}
use Rattle.rip_plan.specs.Relations.{Exchanges, HasAddress, IsAttached, IsGateway, IsInterface, IsNeighbour}
use Rattle.rip_table.specs.State.{State}
use Rattle.rip_routes.specs.OwnTables.{OwnTables, route_at}
use Rattle.rip_routes.specs.declared.next_hop.NextHop.{NextHop}
use Rattle.rip_routes.specs.declared.next_hop.NextHop.TheVariants.{Over, Via}
use Rattle.rip_check.specs.Metrics.{metric_at}
use Rattle.rip_check.specs.Networks.{block_at, network_at}

-- interface j, router s's on link l, has address a for prefix p: it is an address of it, or a
-- gateway that the router tells as next hop of its own prefix
abbrev pub HasHopAt : Network → ℕ → ℕ → ℕ → ℕ → ℕ → Type 0
HasHopAt n j s l p a =
    ((c : ℕ) × IsInterface n j s l c) × (HasAddress n j l a ⊎ IsGateway n s p a)

-- neighbour s of router r on link l has address a for prefix p
pub record HasHop (n : Network) (r l s p a : ℕ) : Type 0 where
  pub neighbour : IsNeighbour n r l s
  pub has : (j : ℕ) × HasHopAt n j s l p a

-- address a is neighbour s's own, of router r on link l: an address of its interface there
pub record IsHolder (n : Network) (r l s a : ℕ) : Type 0 where
  pub neighbour : IsNeighbour n r l s
  pub interface : ℕ
  pub cost : ℕ
  pub there : IsInterface n interface s l cost
  pub has : HasAddress n interface l a

-- a neighbour of router r on link l has address a for prefix p
abbrev pub IsHadOn : Network → ℕ → ℕ → ℕ → ℕ → Type 0
IsHadOn n r p a l = (s : ℕ) × HasHop n r l s p a

-- a next hop of router r for prefix p is over link l: it says so, or its address is had there alone
abbrev pub IsOver : Network → ℕ → ℕ → NextHop → ℕ → Type 0
IsOver n r p (Over k) l = k ≡ l
IsOver n r p (Via a) l = IsHadOn n r p a l × ((k : ℕ) → IsHadOn n r p a k → k ≡ l)

-- router s sends what is for prefix p over link l, by one of its ways
abbrev pub SendsOver : Network → OwnTables → ℕ → ℕ → ℕ → Type 0
SendsOver n t s l p = (h : NextHop) × Contains (route_at t s p).hops h × IsOver n s p h l

-- Router s tells nothing of prefix p on link l: it cannot reach the prefix, or sends over the link,
-- or has the prefix attached there and is its own way.
abbrev pub IsMute : Network → OwnTables → ℕ → ℕ → ℕ → Type 0
IsMute n t s l p =
    ((route_at t s p).metric ≡ 16)
    ⊎ (SendsOver n t s l p ⊎ (IsAttached n s p l × ((route_at t s p).here ≡ true)))

-- router s tells this of prefix p on link l: nothing, or its metric
abbrev pub TellsThere : Network → OwnTables → ℕ → ℕ → ℕ → Option ℕ → Type 0
TellsThere n t s l p None = IsMute n t s l p
TellsThere n t s l p (Some m) = (IsMute n t s l p → ⊥) × (m ≡ (route_at t s p).metric)

-- the table of what routers tell, by their own tables: each interface shows what its router tells
-- on its link, and nothing where that does not exchange the prefix
pub record IsToldBy (n : Network) (t : OwnTables) (told : State) : Type 0 where
  pub interfaces : told.interfaces ≡ length n.interfaces
  pub prefixes : told.prefixes ≡ t.prefixes
  pub unheard : (i : ℕ) → told.heard i ≡ false
  pub tells : (i s l c p : ℕ) → s < length n.routers → p < length t.prefixes
      → IsInterface (network_at n t.prefixes p) i s l c
      → TellsThere (network_at n t.prefixes p) t s l p (metric_at told i p)
  pub nothing : (i s l c p : ℕ) → p < length t.prefixes → IsInterface n i s l c
      → (Exchanges n l (block_at t.prefixes p) → ⊥) → metric_at told i p ≡ None
