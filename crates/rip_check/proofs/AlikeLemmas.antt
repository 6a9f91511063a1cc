-- Only what is told asks which interfaces poison: plans that are alike but for it have the same paths, and
-- the same tables are shown.
use Rattle.std.proofs.Common.{◌≡◌, ◌↔◌, ◌⊎◌, ◌||◌, ℕ, ◌<◌, ◌+◌, inl, inr, Bool, true, false, not, Option, None, Some, List, [], ◌∷◌, length, map, min, unwrap_or, slice_get, option_map, refl, sym, ◌∙◌, ap, subst}
use Rattle.std.specs.Option.{option_map_or}
use Rattle.std.proofs.lemmas.Bool.{cases_Bool}
use Rattle.std.proofs.lemmas.Option.{none-some, same_Some, slice_get-map}
use Rattle.rip_wire.specs.Prefix.{Block}
use Rattle.rip_plan.specs.PrefixNetworks.{exchanges, interface_where, network_for}
use Rattle.rip_check.specs.Networks.{block_at, network_at}
use Rattle.rip_plan.specs.Network.{Network}
use Rattle.rip_plan.specs.declared.parts.Interface.{Interface}
use Rattle.rip_plan.specs.declared.parts.OwnPrefix.{OwnPrefix}
use Rattle.rip_plan.specs.declared.parts.Seat.{Seat}
use Rattle.rip_plan.specs.declared.parts.Seat.TheVariants.{Link}
use Rattle.rip_plan.specs.Relations.{Carries, Exchanges, HasCost, IsAttached, IsConnected, IsDirect, IsInterface, IsKept, IsLawful, IsLeaf, IsNeighbour, IsOn, IsOwnWith, IsPlace, Touches}
use Rattle.rip_table.specs.State.{State}
use Rattle.rip_check.specs.declared.way.Way.{Way}
use Rattle.rip_check.specs.declared.way.Way.TheVariants.{Unreachable, Here, Over}
use Rattle.rip_check.specs.Metrics.{metric_at}
use Rattle.rip_check.specs.Paths.{Hop, IsLeast, IsPath, MayHop}
use Rattle.rip_check.specs.Settled.{AllRight, GoesRight}
use Rattle.rip_check.specs.Tables.{FitsShown, FitsWay, IsHiddenRoute, IsLeastOffer, MayHoldBack, MayShow, Offers, Route, Shows, Tables}
use Rattle.rip_check.specs.Told.{AreAlike, HasLessPoison, poisoning, poisons, told}
use Rattle.rip_check.proofs.PlanLemmas.{own_moved}
use Rattle.rip_check.proofs.LessPoisonLemmas.{fewer_poison}
use Rattle.rip_check.proofs.ToldTableLemmas.{its_poison, mute, surely_poisons, told_offered}

-- ---- what paths and tables ask of two plans

pub record Same (n m : Network) : Type 0 where
  routers : length n.routers ≡ length m.routers
  places : n.places ≡ m.places
  to : (i r l c : ℕ) → IsInterface n i r l c → IsInterface m i r l c
  back : (i r l c : ℕ) → IsInterface m i r l c → IsInterface n i r l c
  connected_to : (i r l c : ℕ) → IsConnected n i r l c → IsConnected m i r l c
  connected_back : (i r l c : ℕ) → IsConnected m i r l c → IsConnected n i r l c

turned : (n m : Network) → Same n m → Same m n
turned n m e = record {
  routers = sym e.routers;
  places = sym e.places;
  to = e.back;
  back = e.to;
  connected_to = e.connected_back;
  connected_back = e.connected_to;
}

-- the interface of the other plan
pub other : (n m : Network) → AreAlike n m → (i : ℕ) (x : Interface) → slice_get n.interfaces i ≡ Some x → (b : Bool) × (slice_get m.interfaces i ≡ Some (record x { poison = b }))
other n m alike i x at = go (slice_get m.interfaces i) refl
  where
    both : option_map poisoning (slice_get m.interfaces i) ≡ Some (poisoning x)
    both =
        sym (slice_get-map poisoning m.interfaces i)
        ∙ sym (ap (λ (k : Network). slice_get k.interfaces i) alike)
        ∙ slice_get-map poisoning n.interfaces i
        ∙ ap (option_map poisoning) at

    go : (o : Option Interface) → slice_get m.interfaces i ≡ o → (b : Bool) × (slice_get m.interfaces i ≡ Some (record x { poison = b }))
    go None e = absurd (none-some (poisoning x) (sym (ap (option_map poisoning) e) ∙ both))
    go (Some y) e =
        let same : poisoning y ≡ poisoning x = same_Some (poisoning y) (poisoning x) (sym (ap (option_map poisoning) e) ∙ both) in
        (y.poison, e ∙ ap (λ (z : Interface). Some (record z { poison = y.poison })) same)

pub interface_to : (n m : Network) → AreAlike n m → (i r l c : ℕ) → IsInterface n i r l c → IsInterface m i r l c
interface_to n m alike i r l c its =
    let (poison, at) = other n m alike i its.interface its.listed in
    record { interface = record its.interface { poison = poison }; listed = at; router = its.router; link = its.link; cost = its.cost }

connected_to : (n m : Network) → AreAlike n m → (i r l c : ℕ) → IsConnected n i r l c → IsConnected m i r l c
connected_to n m alike i r l d its =
    let (poison, at) = other n m alike i its.interface its.listed in
    record { interface = record its.interface { poison = poison }; listed = at; router = its.router; link = its.link; direct = its.direct }

pub same : (n m : Network) → AreAlike n m → Same n m
same n m alike = record {
  routers = ap (λ (k : Network). length k.routers) alike;
  places = ap (λ (k : Network). k.places) alike;
  to = interface_to n m alike;
  back = interface_to m n (sym alike);
  connected_to = connected_to n m alike;
  connected_back = connected_to m n (sym alike);
}

-- ---- who is where

cost_to : (n m : Network) → Same n m → (r l c : ℕ) → HasCost n r l c → HasCost m r l c
cost_to n m e r l c (i, its) = (i, e.to i r l c its)

on_to : (n m : Network) → Same n m → (r l : ℕ) → IsOn n r l → IsOn m r l
on_to n m e r l (c, its) = (c, cost_to n m e r l c its)

neighbour_to : (n m : Network) → Same n m → (r l s : ℕ) → IsNeighbour n r l s → IsNeighbour m r l s
neighbour_to n m e r l s is = record {
  other = is.other;
  here = on_to n m e r l is.here;
  there = on_to n m e s l is.there;
}

leaf_to : (n m : Network) → Same n m → (r i l c : ℕ) → IsLeaf n r i l c → IsLeaf m r i l c
leaf_to n m e r i l c is = record {
  has = e.to i r l c is.has;
  only = λ j k d its. is.only j k d (e.back j r k d its);
}

place_to : (n m : Network) → Same n m → (k p : ℕ) (seat : Seat) → IsPlace n k p seat → IsPlace m k p seat
place_to n m e k p seat is = record { listed = sym (ap (λ qs. slice_get qs k) e.places) ∙ is.listed }

pub own_to : {Says : OwnPrefix → Type 0} (n m : Network) → Same n m → (k p r : ℕ) → IsOwnWith n k p r Says → IsOwnWith m k p r Says
own_to n m e k p r is = own_moved is (place_to n m e k p _ is.place)

attached_to : (n m : Network) → Same n m → (r p l : ℕ) → IsAttached n r p l → IsAttached m r p l
attached_to n m e r p l (k, is) = (k, own_to n m e k p r is)

kept_to : (n m : Network) → Same n m → (r p : ℕ) → IsKept n r p → IsKept m r p
kept_to n m e r p (inl (k, is)) = inl (k, own_to n m e k p r is)
kept_to n m e r p (inr (l, is)) = inr (l, attached_to n m e r p l is)

carries_to : (n m : Network) → Same n m → (l p : ℕ) → Carries n l p → Carries m l p
carries_to n m e l p (k, is) = (k, place_to n m e k p (Link l) is)

hold_to : (n m : Network) → Same n m → (r p l : ℕ) → MayHoldBack n r p l → MayHoldBack m r p l
hold_to n m e r p l (inl is) = inl (carries_to n m e l p is)
hold_to n m e r p l (inr is) = inr (attached_to n m e r p l is)

touches_to : (n m : Network) → Same n m → (k p r c : ℕ) → Touches n k p r c → Touches m k p r c
touches_to n m e k p r c (inl (l, at, its)) = inl (l, place_to n m e k p (Link l) at, (its.0, e.connected_to its.0 r l c its.1))
touches_to n m e k p r c (inr is) = inr (own_to n m e k p r is)

direct_to : (n m : Network) → Same n m → (r p c : ℕ) → IsDirect n r p c → IsDirect m r p c
direct_to n m e r p c (k, is) = (k, touches_to n m e k p r c is)

-- ---- right routes

may_hop_to : (n m : Network) → Same n m → (p r l s : ℕ) → MayHop n p r l s → MayHop m p r l s
may_hop_to n m e p r l s may = record {
  neighbour = neighbour_to n m e r l s may.neighbour;
  goes_on = λ is. may.goes_on (kept_to m n (turned n m e) r p is);
  tells = λ is. may.tells (attached_to m n (turned n m e) s p l is);
}

path_to : (n m : Network) → Same n m → (p r : ℕ) (hops : List Hop) (v : ℕ) → IsPath n p r hops v → IsPath m p r hops v
path_to n m e p r [] v is = direct_to n m e r p v is
path_to n m e p r (h ∷ hops) v (c, rest, cost, may, on, sum) =
    (c, rest, cost_to n m e r h.link c cost, may_hop_to n m e p r h.link h.to may, path_to n m e p h.to hops rest on, sum)

least_to : (n m : Network) → Same n m → (p r v : ℕ) → IsLeast n p r v → IsLeast m p r v
least_to n m e p r v is = record {
  reached = reached is.reached;
  least = λ hops w path. is.least hops w (path_to m n (turned n m e) p r hops w path);
}
  where
    reached : (v ≡ 16) ⊎ ((v < 16) × ((hops : List Hop) × IsPath n p r hops v)) → (v ≡ 16) ⊎ ((v < 16) × ((hops : List Hop) × IsPath m p r hops v))
    reached (inl none) = inl none
    reached (inr (low, path)) = inr (low, (path.0, path_to n m e p r path.0 v path.1))

goes_to : (n m : Network) → Same n m → (p r v : ℕ) (w : Way) → GoesRight n p r v w → GoesRight m p r v w
goes_to n m e p r v Unreachable goes = goes
goes_to n m e p r v Here goes = direct_to n m e r p v goes
goes_to n m e p r v (Over l) (s, hops, path) = (s, hops, path_to n m e p r (record { link = l; to = s } ∷ hops) v path)

-- plans that are alike have alike networks of a prefix
poison_for : (n : Network) (b : Block) → record (network_for n b) { interfaces = map poisoning (network_for n b).interfaces } ≡ network_for (record n { interfaces = map poisoning n.interfaces }) b
poison_for n b = ap (λ (is : List Interface). record (network_for n b) { interfaces = is }) (both n.interfaces)
  where
    one : (x : Interface) → poisoning (interface_where (exchanges n b) n x) ≡ interface_where (exchanges n b) n (poisoning x)
    one x = elim (cases_Bool (exchanges n b x.link)) [ inl e ↦ rw e refl | inr e ↦ rw e refl ]

    both : (xs : List Interface) → map poisoning (map (interface_where (exchanges n b) n) xs) ≡ map (interface_where (exchanges n b) n) (map poisoning xs)
    both [] = refl
    both (x ∷ xs) = rw (one x, both xs) refl

pub alike_at : (n m : Network) (b : Block) → AreAlike n m → AreAlike (network_for n b) (network_for m b)
alike_at n m b alike = poison_for n b ∙ ap (λ (k : Network). network_for k b) alike ∙ sym (poison_for m b)

right_to : (n m : Network) → AreAlike n m → (prefixes : List Block) (T : Tables) → AllRight n prefixes T → AllRight m prefixes T
right_to n m alike prefixes T right r p router lt =
    let is = right r p (subst (λ (k : ℕ). r < k) (sym (same n m alike).routers) router) lt in
    let e = same (network_at n prefixes p) (network_at m prefixes p) (alike_at n m (block_at prefixes p) alike) in
    record {
      least = least_to (network_at n prefixes p) (network_at m prefixes p) e p r (T r p).metric is.least;
      goes = goes_to (network_at n prefixes p) (network_at m prefixes p) e p r (T r p).metric (T r p).way is.goes;
    }

-- ---- tables

offers_to : (n m : Network) → Same n m → (s : State) (r l t p v : ℕ) → Offers n s r l t p v → Offers m s r l t p v
offers_to n m e s r l t p v o = record {
  neighbour = neighbour_to n m e r l t o.neighbour;
  cost = o.cost;
  here = cost_to n m e r l o.cost o.here;
  interface = o.interface;
  its_cost = o.its_cost;
  there = e.to o.interface t l o.its_cost o.there;
  value = o.value;
}

least_offer_to : (n m : Network) → Same n m → (s : State) (r p h : ℕ) → IsLeastOffer n s r p h → IsLeastOffer m s r p h
least_offer_to n m e s r p h is = record {
  reached = elim is.reached [ inl none ↦ inl none | inr o ↦ inr (o.0, o.1, offers_to n m e s r o.0 o.1 p h o.2) ];
  most = is.most;
  least = λ l t v o. is.least l t v (offers_to m n (turned n m e) s r l t p v o);
}

fits_way_to : (n m : Network) → Same n m → (r p v : ℕ) (w : Way) → FitsWay n r p v w → FitsWay m r p v w
fits_way_to n m e r p v Unreachable fits = fits
fits_way_to n m e r p v Here fits = fits
fits_way_to n m e r p v (Over l) (some, few, on, goes) = (some, few, on_to n m e r l on, λ held. goes (hold_to m n (turned n m e) r p l held))

may_show_to : (n m : Network) → Same n m → (r l p v : ℕ) (w : Way) (x : Option ℕ) → MayShow n r l p v w x → MayShow m r l p v w x
may_show_to n m e r l p v Unreachable x may = may
may_show_to n m e r l p v Here x (inl may) = inl (λ is. may.0 (attached_to m n (turned n m e) r p l is), may.1)
may_show_to n m e r l p v Here x (inr may) = inr (hold_to n m e r p l may.0, may.1)
may_show_to n m e r l p v (Over k) x may = may

hidden_to : (n m : Network) → Same n m → (s : State) (r i l p : ℕ) (route : Route) → IsHiddenRoute n s r i l p route → IsHiddenRoute m s r i l p route
hidden_to n m e s r i l p route is = record {
  held_back = λ held silent.
      let (here, direct) = is.held_back (hold_to m n (turned n m e) r p l held) silent in
      (here, direct_to n m e r p route.metric direct);
  learned = λ tells poison.
      let (least, low, high) = is.learned (λ held. tells (hold_to n m e r p l held)) poison in
      (least_offer_to n m e s r p route.metric least, low, high);
}

fits_to : (n m : Network) → Same n m → (s : State) (r p : ℕ) (route : Route) → FitsShown n s r p route → FitsShown m s r p route
fits_to n m e s r p route fits = record {
  told = record {
    way_fits = fits_way_to n m e r p route.metric route.way fits.told.way_fits;
    as_told = λ i l c its. may_show_to n m e r l p route.metric route.way (metric_at s i p) (fits.told.as_told i l c (e.back i r l c its));
  };
  hidden = λ i l c leaf. hidden_to n m e s r i l p route (fits.hidden i l c (leaf_to m n (turned n m e) r i l c leaf));
  lone = λ off.
      let is = fits.lone (λ i l c its. off i l c (e.to i r l c its)) in
      record {
        own = λ c direct. is.own c (direct_to m n (turned n m e) r p c direct);
        none = λ not. is.none (λ c direct. not c (direct_to n m e r p c direct));
      };
}

-- what is exchanged does not ask who poisons
exchanges_to : (n m : Network) → AreAlike n m → (l : ℕ) (b : Block) → Exchanges n l b → Exchanges m l b
exchanges_to n m alike l b (inl free) = inl (λ has. free (ap (λ (k : Network). slice_get k.lists l) alike ∙ has))
exchanges_to n m alike l b (inr (inl is)) =
    inr (inl (record { number = is.number; item = is.item; listed = sym (ap (λ (k : Network). slice_get k.listed is.number) alike) ∙ is.listed; link = is.link; prefix = is.prefix }))
exchanges_to n m alike l b (inr (inr (k, named, on))) =
    inr (inr (k, sym (ap (λ (x : Network). slice_get x.prefixes k) alike) ∙ named, carries_to n m (same n m alike) l k on))

shows_to : (n m : Network) → AreAlike n m → (s : State) (T : Tables) → Shows n s T → Shows m s T
shows_to n m alike s T shows =
    let e = same n m alike in
    record {
      heard = λ i r l c its. shows.heard i r l c (e.back i r l c its);
      fits = λ r p router lt.
          let is = shows.fits r p (subst (λ (k : ℕ). r < k) (sym e.routers) router) lt in
          record {
            quiet = λ i l c its closed. is.quiet i l c (e.back i r l c its) (λ free. closed (exchanges_to n m alike l (block_at s.prefixes p) free));
            fits = fits_to (network_at n s.prefixes p) (network_at m s.prefixes p)
                (same (network_at n s.prefixes p) (network_at m s.prefixes p) (alike_at n m (block_at s.prefixes p) alike)) s r p (T r p) is.fits;
          };
    }

-- ---- plans with less poison

less : (n m : Network) → HasLessPoison n m → (i : ℕ) → poisons m i ≡ true → poisons n i ≡ true
less n m has i on = go (slice_get n.interfaces i) refl
  where
    go : (o : Option Interface) → slice_get n.interfaces i ≡ o → poisons n i ≡ true
    go None at = ap (λ (o : Option Interface). option_map_or (λ x. x.poison) o true) at
    go (Some x) at =
        let its = other n m has.alike i x at in
        let y : Interface = record x { poison = its.0 } in
        surely_poisons n i (has.less i (record { interface = y; listed = its.1; poisons = sym (its_poison m i y its.1) ∙ on }))

still_mute : (a b h : Bool) → (a ≡ true → b ≡ true) → (a || not h) ≡ true → (b || not h) ≡ true
still_mute true b h then on = ap (λ (x : Bool). x || not h) (then refl)
still_mute false true h then on = refl
still_mute false false h then on = on

pub less_poison : (n m : Network) (s : State) (T : Tables) → IsLawful n → HasLessPoison n m → Shows n (told n s) T → AllRight n s.prefixes T → Shows m (told m s) T
less_poison n m s T plan has shows right =
    shows_to n m has.alike (told m s) T (fewer_poison n s (mute n s) (mute m s) T plan (λ i. still_mute (poisons m i) (poisons n i) (s.heard i) (less n m has i)) shows right)

pub still_right : (n m : Network) (prefixes : List Block) (T : Tables) → HasLessPoison n m → AllRight n prefixes T → AllRight m prefixes T
still_right n m prefixes T has = right_to n m has.alike prefixes T

-- ---- offers by what is told

told_value : (n : Network) (s t : State) (r l q p v : ℕ) → ((i : ℕ) → unwrap_or (metric_at s i p) 16 ≡ unwrap_or (metric_at t i p) 16) → Offers n s r l q p v → Offers n t r l q p v
told_value n s t r l q p v alike o = record {
  neighbour = o.neighbour;
  cost = o.cost;
  here = o.here;
  interface = o.interface;
  its_cost = o.its_cost;
  there = o.there;
  value = o.value ∙ ap (λ (k : ℕ). min 16 (o.cost + k)) (alike o.interface);
}

pub told_offers : (n : Network) (s : State) (r l t p v : ℕ) → p < length s.prefixes → Offers n (told n s) r l t p v ↔ Offers n s r l t p v
told_offers n s r l t p v lt = (
  told_value n (told n s) s r l t p v (λ i. told_offered (mute n s) s i p lt),
  told_value n s (told n s) r l t p v (λ i. sym (told_offered (mute n s) s i p lt)),
)
