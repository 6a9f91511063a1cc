-- Facts that tables carry.
use Rattle.std.specs.Prelude.{◌≡◌, ◌⊎◌, ◌<◌, ◌≤◌, ℕ, Bool, true, false, ◌||◌, List, [], ◌∷◌, Contains, length, Option, Some, None, is_some}
use Rattle.std.specs.List.{list_any}
use Rattle.std.proofs.Common.{arith, inl, inr, refl}
use Rattle.rip_wire.specs.Prefix.{Block}
use Rattle.rip_table.specs.State.{AreDistinct, is_among}
use Rattle.rip_table.specs.declared.limits.TheConstants.{MOST_PREFIXES}
use Rattle.rip_routes.specs.OwnTables.{AreHopsOnce, AreOwnTables, IsOwnRoute, OwnRoute, OwnTables}
use Rattle.rip_routes.specs.declared.next_hop.NextHop.{NextHop}

abbrev pub are_some : List NextHop → Bool
are_some [] = false
are_some (hop ∷ hops) = true

-- the route has a way
abbrev pub has_way : OwnRoute → Bool
has_way route = route.here || are_some route.hops

-- what `IsOwnRoute` says, as equations
pub record IsGoodRoute (route : OwnRoute) : Type 0 where
  pub least : 1 ≤ route.metric
  pub most : route.metric ≤ 16
  pub way : route.metric < 16 → has_way route ≡ true
  pub unreachable : route.metric ≡ 16 → has_way route ≡ false
  pub once : AreHopsOnce route.hops

-- what `AreOwnTables` says, as equations
pub record AreGood (t : OwnTables) : Type 0 where
  pub differ : AreDistinct t.prefixes
  pub few : length t.prefixes ≤ MOST_PREFIXES
  pub told : (r : ℕ) (p : Block) (route : OwnRoute) → t.routes r p ≡ Some route
      → IsGoodRoute route × (is_among p t.prefixes ≡ true)
  pub marked : (r : ℕ) (p : Block) (route : OwnRoute) → t.routes r p ≡ Some route
      → t.listed r ≡ true
  pub some : (r : ℕ) → t.listed r ≡ true
      → list_any (λ p. is_some (t.routes r p)) t.prefixes ≡ true

way_of : (here : Bool) (hops : List NextHop) → (here || are_some hops) ≡ true
    → (here ≡ true) ⊎ ((h : NextHop) × Contains hops h)
way_of true hops h = inl refl
way_of false [] h = absurd (cc h)
way_of false (hop ∷ hops) h = inr (hop, (0, omega arith, refl))

no_way_of : (here : Bool) (hops : List NextHop) → (here || are_some hops) ≡ false
    → (here ≡ false) × (hops ≡ [])
no_way_of true hops h = absurd (cc h)
no_way_of false [] h = (refl, refl)
no_way_of false (hop ∷ hops) h = absurd (cc h)

pub IsOwnRoute-good : (route : OwnRoute) → IsGoodRoute route → IsOwnRoute route
IsOwnRoute-good route h = record {
  least = h.least;
  most = h.most;
  way = λ lt. way_of route.here route.hops (h.way lt);
  unreachable = λ is. no_way_of route.here route.hops (h.unreachable is);
  once = h.once;
}

-- one of these is some route
abbrev IsSomeOf : (Block → Option OwnRoute) → Type 0
IsSomeOf f = (p : Block) × (route : OwnRoute) × (f p ≡ Some route)

first_or : (f : Block → Option OwnRoute) (p : Block) (rest : Bool) (o : Option OwnRoute) → f p ≡ o
    → (is_some o || rest) ≡ true → (rest ≡ true → IsSomeOf f) → IsSomeOf f
first_or f p rest (Some route) e h later = (p, route, e)
first_or f p rest None e h later = later h

some_of : (f : Block → Option OwnRoute) (ps : List Block) → list_any (λ p. is_some (f p)) ps ≡ true
    → IsSomeOf f
some_of f [] h = absurd (cc h)
some_of f (p ∷ ps) h =
    first_or f p (list_any (λ q. is_some (f q)) ps) (f p) refl h (λ rest. some_of f ps rest)

pub AreOwnTables-good : (t : OwnTables) → AreGood t → AreOwnTables t
AreOwnTables-good t h = record {
  differ = h.differ;
  few = h.few;
  told = λ r p route is.
      let both = h.told r p route is in (IsOwnRoute-good route both.0, both.1);
  listed = λ r. (
    λ is. some_of (t.routes r) t.prefixes (h.some r is),
    λ told. h.marked r told.0 told.1 told.2,
  );
}
