-- When the routers' own tables agree, and when they are right.
use Rattle.std.specs.Prelude.{◌≡◌, ℕ, ◌<◌, true, Contains, List, ◌∷◌, length}
use Rattle.rip_plan.specs.Network.{Network}
use Rattle.rip_plan.specs.Relations.{IsDirect, IsKept}
use Rattle.rip_table.specs.State.{State}
use Rattle.rip_routes.specs.OwnTables.{OwnTables, OwnRoute, route_at}
use Rattle.rip_routes.specs.declared.next_hop.NextHop.{NextHop}
use Rattle.rip_routes.specs.declared.next_hop.NextHop.TheVariants.{Over, Via}
use Rattle.rip_check.specs.Networks.{network_at}
use Rattle.rip_check.specs.OwnTells.{HasHop, IsHolder}
use Rattle.rip_check.specs.Paths.{HasPathOver, Hop, IsLeast, IsPath}
use Rattle.rip_check.specs.Settled.{IsLeastChoice}
use Rattle.rip_check.specs.Tables.{Offers}

-- neighbour s offers router r the metric on a link on which address a is its own
abbrev pub OffersAsHolder : Network → State → ℕ → ℕ → ℕ → ℕ → ℕ → Type 0
OffersAsHolder n told r s p m a = (l : ℕ) × IsHolder n r l s a × Offers n told r l s p m

-- each neighbour whose own address a is offers router r the metric so
abbrev pub DoHoldersOffer : Network → State → ℕ → ℕ → ℕ → ℕ → Type 0
DoHoldersOffer n told r p m a =
    (l s : ℕ) → IsHolder n r l s a → OffersAsHolder n told r s p m a

-- Next hop a gives the metric: router r does not keep the prefix, a neighbour that has the address
-- offers it, and each neighbour whose own address it is does.
pub record IsAddressGiven (n : Network) (told : State) (r p m a : ℕ) : Type 0 where
  pub takes : IsKept n r p → ⊥
  pub link : ℕ
  pub neighbour : ℕ
  pub has : HasHop n r link neighbour p a
  pub offer : Offers n told r link neighbour p m
  pub holders : DoHoldersOffer n told r p m a

-- The next hop gives router r the metric: over a link, where the router does not keep the prefix
-- and a neighbour there offers it; or by an address.
abbrev pub IsHopGiven : Network → State → ℕ → ℕ → ℕ → NextHop → Type 0
IsHopGiven n told r p m (Over l) = (IsKept n r p → ⊥) × ((s : ℕ) × Offers n told r l s p m)
IsHopGiven n told r p m (Via a) = IsAddressGiven n told r p m a

-- each way of the route gives its metric
pub record IsEachGiven (n : Network) (told : State) (r p : ℕ) (route : OwnRoute) : Type 0 where
  pub here : route.here ≡ true → IsDirect n r p route.metric
  pub hops : (h : NextHop) → Contains route.hops h → IsHopGiven n told r p route.metric h

-- the place holds: the metric is the least choice, and each way gives it
pub record OwnHolds (n : Network) (told : State) (r p : ℕ) (route : OwnRoute) : Type 0 where
  pub choice : IsLeastChoice n told r p route.metric
  pub given : IsEachGiven n told r p route

-- a path of this cost begins with the step over link l to neighbour s
abbrev pub BeginsPath : Network → ℕ → ℕ → ℕ → ℕ → ℕ → Type 0
BeginsPath n p r l s m = (hops : List Hop) × IsPath n p r (record { link = l; to = s } ∷ hops) m

-- next hop a goes right: a path that costs the metric begins with the step to a neighbour that has
-- the address, and such a path to each whose own address it is, on a link on which it is
pub record AddressGoesRight (n : Network) (p r m a : ℕ) : Type 0 where
  pub link : ℕ
  pub neighbour : ℕ
  pub has : HasHop n r link neighbour p a
  pub path : BeginsPath n p r link neighbour m
  pub holders : (l s : ℕ) → IsHolder n r l s a
      → (k : ℕ) × IsHolder n r k s a × BeginsPath n p r k s m

-- the next hop goes right: over a link, where a path that costs the metric begins over it
abbrev pub HopGoesRight : Network → ℕ → ℕ → ℕ → NextHop → Type 0
HopGoesRight n p r m (Over l) = HasPathOver n p r l m
HopGoesRight n p r m (Via a) = AddressGoesRight n p r m a

-- the metric is the least cost of a path, or 16 where none costs less, and each way goes over a
-- path of that cost
pub record IsOwnRight (n : Network) (r p : ℕ) (route : OwnRoute) : Type 0 where
  pub least : IsLeast n p r route.metric
  pub here : route.here ≡ true → IsDirect n r p route.metric
  pub hops : (h : NextHop) → Contains route.hops h → HopGoesRight n p r route.metric h

-- something is told of each router
abbrev pub IsEachListed : Network → OwnTables → Type 0
IsEachListed n t = (r : ℕ) → r < length n.routers → t.listed r ≡ true

-- every place of the tables holds
abbrev pub OwnHoldsAll : Network → State → OwnTables → Type 0
OwnHoldsAll n told t =
    (r p : ℕ) → r < length n.routers → p < length t.prefixes
    → OwnHolds (network_at n t.prefixes p) told r p (route_at t r p)

-- every route of the tables is right
abbrev pub OwnAllRight : Network → OwnTables → Type 0
OwnAllRight n t =
    (r p : ℕ) → r < length n.routers → p < length t.prefixes
    → IsOwnRight (network_at n t.prefixes p) r p (route_at t r p)

-- each router tells its table, and the tables are right
pub record AreRightTables (n : Network) (t : OwnTables) : Type 0 where
  pub listed : IsEachListed n t
  pub right : OwnAllRight n t

-- each router tells its table, and each place holds
pub record EachOwnHolds (n : Network) (told : State) (t : OwnTables) : Type 0 where
  pub listed : IsEachListed n t
  pub places : OwnHoldsAll n told t
