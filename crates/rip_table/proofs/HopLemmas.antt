-- The next hops that an interface may tell: its own addresses, and gateways of its router.
use Rattle.std.proofs.Common.{◌≡◌, ℕ, zero, suc, ◌==◌, Bool, true, false, List, [], ◌∷◌, Option, Some, None, refl, sym, ap, subst, ◌∙◌, arith}
use Rattle.std.proofs.lemmas.Map.Keys.{any_passes_from_place}
use Rattle.std.specs.Prelude.{Contains, Decides}
use Rattle.std.specs.List.{list_any, slice_get}
use Rattle.std.specs.Option.{option_map_or}
use Rattle.std.proofs.lemmas.Bool.{and_parts, eq-eqb, eqb-true}
use Rattle.std.proofs.lemmas.Option.{slice_get-get_or}
use Rattle.rip_plan.proofs.NumberingLemmas.{same_is, same_self}
use Rattle.rip_plan.proofs.ItemLemmas.{any_finds}
use Rattle.rip_wire.specs.Prefix.{Block}
use Rattle.rip_plan.specs.Network.{Network}
use Rattle.rip_plan.specs.Passes.{same_prefix}
use Rattle.rip_plan.specs.Relations.{HasAddress, IsGateway, IsInterface, IsPrefix}
use Rattle.rip_plan.specs.declared.parts.Interface.{Interface}
use Rattle.rip_plan.specs.declared.parts.OwnPrefix.{OwnPrefix}
use Rattle.rip_plan.specs.declared.parts.Seat.{Seat}
use Rattle.rip_plan.specs.declared.parts.Seat.TheVariants.{Link, Own}
use Rattle.rip_table.specs.Joined.{has_gateway, holds_address, is_gateway, knows_gateway}
use Rattle.rip_table.specs.LogJoin.{KnowsGateway}

-- ---- addresses

contained : (xs : List ℕ) (k a : ℕ) → slice_get xs k ≡ Some a → Contains xs a
contained [] k a at = absurd (cc at)
contained (x ∷ xs) zero a at = let same : x ≡ a = cc at in (zero, omega arith, same)
contained (x ∷ xs) (suc k) a at = let (j, lt, is) = contained xs k a at in (suc j, omega arith, is)

pub address_held : (n : Network) (i l a : ℕ) → HasAddress n i l a → holds_address n i a ≡ true
address_held n i l a (all, has, (k, lt, is)) =
    let at : slice_get all k ≡ Some a = slice_get-get_or all k a lt ∙ ap (λ (b : ℕ). Some b) is in
    let here : slice_get (has.interface.address ∷ has.also) k ≡ Some a = ap (λ (xs : List ℕ). slice_get xs k) (sym has.all) ∙ at in
    let test = any_passes_from_place (λ b. b == a) (has.interface.address ∷ has.also) k a here (eq-eqb a a refl) in
    ap (λ (o : Option Interface). option_map_or (λ x. option_map_or (λ also. list_any (λ b. b == a) (x.address ∷ also)) (slice_get n.also i) false) o false) has.listed
    ∙ ap (λ (o : Option (List ℕ)). option_map_or (λ also. list_any (λ b. b == a) (has.interface.address ∷ also)) o false) has.further
    ∙ test

pub held_address : (n : Network) (i a : ℕ) → holds_address n i a ≡ true → (l : ℕ) × HasAddress n i l a
held_address n i a h = by (slice_get n.interfaces i) refl (slice_get n.also i) refl h
  where
    by : (o : Option Interface) → slice_get n.interfaces i ≡ o → (p : Option (List ℕ)) → slice_get n.also i ≡ p
        → option_map_or (λ x. option_map_or (λ also. list_any (λ b. b == a) (x.address ∷ also)) p false) o false ≡ true → (l : ℕ) × HasAddress n i l a
    by None e p f t = absurd (cc t)
    by (Some x) e None f t = absurd (cc t)
    by (Some x) e (Some also) f t =
        let (k, b, at, test) = any_finds (λ b. b == a) (x.address ∷ also) t in
        let same : b ≡ a = eqb-true b a test in
        (x.link, (x.address ∷ also, record { interface = x; listed = e; link = refl; also = also; further = f; all = refl }, contained (x.address ∷ also) k a (at ∙ ap (λ (c : ℕ). Some c) same)))

-- ---- gateways

gateway_seat : (r a : ℕ) (seat : Seat) → has_gateway r a seat ≡ true → (own : OwnPrefix) × (seat ≡ Own own) × (own.router ≡ r) × (own.via ≡ Some a)
gateway_seat r a (Link l) h = absurd (cc h)
gateway_seat r a (Own own) h =
    let parts = and_parts (own.router == r) _ h in
    (own, refl, eqb-true own.router r parts.0, gateway own.via parts.1)
  where
    gateway : (via : Option ℕ) → option_map_or (λ b. b == a) via false ≡ true → via ≡ Some a
    gateway None t = absurd (cc t)
    gateway (Some b) t = ap (λ (m : ℕ). Some m) (eqb-true b a t)

prefix_is : (p : Block) (o : Option Block) → option_map_or (same_prefix p) o false ≡ true → o ≡ Some p
prefix_is p None h = absurd (cc h)
prefix_is p (Some q) h = ap (λ (b : Block). Some b) (sym (same_is p q h))

pub gateway_known : (n : Network) (i : ℕ) (p : Block) (a : ℕ) → KnowsGateway n i p a → knows_gateway n i p a ≡ true
gateway_known n i p a (r, l, c, k, is, prefix, (j, has)) =
    let seat : has_gateway r a (Own has.own) ≡ true = rw (has.router, has.says, eq-eqb r r refl, eq-eqb a a refl) refl in
    let its : option_map_or (same_prefix p) (slice_get n.prefixes k) false ≡ true = ap (λ (o : Option Block). option_map_or (same_prefix p) o false) prefix ∙ same_self p in
    let test : is_gateway n r p a (record { prefix = k; seat = Own has.own }) ≡ true = rw (seat, its) refl in
    ap (λ (o : Option Interface). option_map_or (λ x. list_any (is_gateway n x.router p a) n.places) o false) is.listed
    ∙ ap (λ (m : ℕ). list_any (is_gateway n m p a) n.places) is.router
    ∙ any_passes_from_place (is_gateway n r p a) n.places j _ has.place.listed test

pub known_gateway : (n : Network) (i : ℕ) (p : Block) (a : ℕ) → knows_gateway n i p a ≡ true → KnowsGateway n i p a
known_gateway n i p a h = by (slice_get n.interfaces i) refl h
  where
    by : (o : Option Interface) → slice_get n.interfaces i ≡ o → option_map_or (λ x. list_any (is_gateway n x.router p a) n.places) o false ≡ true → KnowsGateway n i p a
    by None e t = absurd (cc t)
    by (Some x) e t =
        let (j, q, at, test) = any_finds (is_gateway n x.router p a) n.places t in
        let parts = and_parts (has_gateway x.router a q.seat) (option_map_or (same_prefix p) (slice_get n.prefixes q.prefix) false) test in
        let (own, seat, router, via) = gateway_seat x.router a q.seat parts.0 in
        let placed = at ∙ ap (λ (s : Seat). Some (record { prefix = q.prefix; seat = s })) seat in (
          x.router,
          x.link,
          x.cost,
          q.prefix,
          record { interface = x; listed = e; router = refl; link = refl; cost = refl },
          prefix_is p (slice_get n.prefixes q.prefix) parts.1,
          (j, record { own = own; place = record { listed = placed }; router = router; says = via }),
        )

-- ---- as the plan answers

pub decided : (b c : Bool) → (b ≡ true → c ≡ true) → (c ≡ true → b ≡ true) → b ≡ c
decided true c f g = sym (f refl)
decided false true f g = let clash : false ≡ true = g refl in absurd (cc clash)
decided false false f g = refl

pub address_decided : (n : Network) (i r l c a : ℕ) (b : Bool) → IsInterface n i r l c → Decides b (HasAddress n i l a) → b ≡ holds_address n i a
address_decided n i r l c a b is says = decided b (holds_address n i a) (λ h. address_held n i l a (says.0 h)) (λ h. says.1 (moved (held_address n i a h)))
  where
    moved : (l' : ℕ) × HasAddress n i l' a → HasAddress n i l a
    moved (l', (all, has, holds)) =
        let one : Some has.interface ≡ Some is.interface = sym has.listed ∙ is.listed in
        let same : has.interface ≡ is.interface = cc one in
        let link : has.interface.link ≡ l = ap (λ (x : Interface). x.link) same ∙ is.link in
        (all, record { interface = has.interface; listed = has.listed; link = link; also = has.also; further = has.further; all = has.all }, holds)

pub gateway_decided : (n : Network) (i r l c : ℕ) (p : Block) (a : ℕ) (b : Bool) → IsInterface n i r l c
    → ((k : ℕ) → IsPrefix n k p → Decides b (IsGateway n r k a)) → (((k : ℕ) → IsPrefix n k p → ⊥) → b ≡ false) → b ≡ knows_gateway n i p a
gateway_decided n i r l c p a b is planned unplanned = decided b (knows_gateway n i p a) forth back
  where
    router_of : {x y : Interface} → Some x ≡ Some y → x.router ≡ y.router
    router_of {x} {y} h = let same : x ≡ y = cc h in ap (λ (z : Interface). z.router) same

    of_router : (r' l' c' : ℕ) → IsInterface n i r' l' c' → r' ≡ r
    of_router r' l' c' its = sym its.router ∙ router_of (sym its.listed ∙ is.listed) ∙ is.router

    back : knows_gateway n i p a ≡ true → b ≡ true
    back h =
        let (r', l', c', k, its, prefix, gateway) = known_gateway n i p a h in
        (planned k prefix).1 (subst (λ (s : ℕ). IsGateway n s k a) (of_router r' l' c' its) gateway)

    forth : b ≡ true → knows_gateway n i p a ≡ true
    forth h = by (list_any (same_prefix p) n.prefixes) refl
      where
        by : (t : Bool) → list_any (same_prefix p) n.prefixes ≡ t → knows_gateway n i p a ≡ true
        by true t =
            let (k, q, at, same) = any_finds (same_prefix p) n.prefixes t in
            let prefix : IsPrefix n k p = at ∙ ap (λ (d : Block). Some d) (sym (same_is p q same)) in
            gateway_known n i p a (r, l, c, k, is, prefix, (planned k prefix).0 h)
        by false t =
            let none : b ≡ false = unplanned (λ k at. let there = any_passes_from_place (same_prefix p) n.prefixes k p at (same_self p) in let clash : true ≡ false = sym there ∙ t in cc clash) in
            let clash : true ≡ false = sym h ∙ none in absurd (cc clash)
