-- What the look-ups of a lawful plan find, in the words of its relations.
use Rattle.rip_plan.proofs.ClashLemmas.{find_gives, find_none}
use Rattle.std.proofs.Common.{◌≡◌, ℕ, zero, suc, ◌+◌, ◌⊎◌, ◌↔◌, inl, inr, List, [], ◌∷◌, Bool, true, ◌&&◌, Option, Some, None, refl, sym, ◌∙◌, ap, subst, arith}
use Rattle.std.proofs.lemmas.Bool.{and_parts, cases_Bool, eq-eqb, eqb-true}
use Rattle.std.specs.Prelude.{slice_get, ◌==◌, find}
use Rattle.std.specs.Option.{is_some, option_or}
use Rattle.std.specs.List.{Contains, position_from}
use Rattle.std.specs.Str.{bytes_eq}
use Rattle.std.proofs.lemmas.Option.{none-some, same_Some}
use Rattle.std.proofs.lemmas.Bool.Decides.{nat_tests}
use Rattle.std.proofs.lemmas.Slice.Eq.{bytes_eq-Decides}
use Rattle.rip_wire.specs.Prefix.{Block}
use Rattle.rip_plan.specs.declared.parts.Interface.{Interface}
use Rattle.rip_plan.specs.declared.parts.OwnPrefix.{OwnPrefix}
use Rattle.rip_plan.specs.declared.parts.Place.{Place}
use Rattle.rip_plan.specs.declared.parts.Seat.{Seat}
use Rattle.rip_plan.specs.declared.parts.Seat.TheVariants as seats
use Rattle.rip_plan.specs.Seats as seated
use Rattle.rip_plan.specs.Passes.{same_prefix}
use Rattle.rip_plan.specs.Addresses.{holder_at}
use Rattle.rip_plan.specs.Names.{number_of_name}
use Rattle.rip_plan.specs.Network.{Network, addresses_of, number_of_prefix, found_at, is_on, is_of, has_gateway, numbers_where, is_carrying, first_carrying, is_owned, own_seat, cost_on, cost_at, direct_at}
use Rattle.rip_plan.specs.Relations.{IsPrefix, IsInterface, IsConnected, HasAddress, HasOwnAddress, IsAt, IsInside, IsPlace, IsOwnWith, Carries, Touches, IsDirect, IsGatewayAt, IsLawful}
use Rattle.rip_plan.proofs.HeldAddressLemmas.{holder_gives, holder_none}
use Rattle.rip_plan.proofs.ItemLemmas.{cases_option, position_finds, position_none, none_at}
use Rattle.rip_plan.proofs.NumberingLemmas.{same_is, same_self}
use Rattle.rip_plan.proofs.BelowLemmas.{contains_at, at_contains, number_passes, passing_number}

-- an item stands at the number that was found, and passes
pub at_first : {A : Type 0} (test : A → Bool) (xs : List A) (k : ℕ) → position_from test 0 xs ≡ Some k → (y : A) × (slice_get xs k ≡ Some y) × (test y ≡ true)
at_first test xs k e = grind (arith, position_finds)

-- where an item passes, the first that passes is found
found : {A : Type 0} (test : A → Bool) (xs : List A) (i : ℕ) (x : A) → slice_get xs i ≡ Some x → test x ≡ true
    → (k : ℕ) × (y : A) × (position_from test 0 xs ≡ Some k) × (slice_get xs k ≡ Some y) × (test y ≡ true)
found test xs i x h t = grind (arith, at_first test xs, none_at test xs i x, position_none test 0 xs)

-- ---- prefixes

pub prefix_of_number : (n : Network) (p : Block) (k : ℕ) → number_of_prefix p n.prefixes ≡ Some k → IsPrefix n k p
prefix_of_number n p k h = grind (arith, at_first)

pub number_of_planned : (n : Network) → IsLawful n → (p : Block) (k : ℕ) → IsPrefix n k p → number_of_prefix p n.prefixes ≡ Some k
number_of_planned n laws p k h = let (j, q, e, at, same) = found (same_prefix p) n.prefixes k p h (same_self p) in grind (arith, same_is p q same, laws.prefixes_differ j k p)

-- ---- direct costs

-- an interface of the list with this router, this link and this direct metric
abbrev pub IsConnectedIn : List Interface → ℕ → ℕ → ℕ → ℕ → Type 0
IsConnectedIn is i r l d = (x : Interface) × (slice_get is i ≡ Some x) × (x.router ≡ r) × (x.link ≡ l) × (x.direct ≡ d)

pub cost_found : (r l d : ℕ) (is : List Interface) → cost_on r l is ≡ Some d → (i : ℕ) × IsConnectedIn is i r l d
cost_found r l d [] h = absurd (none-some d h)
cost_found r l d (x ∷ xs) h =
    elim (cases_Bool (x.router == r && x.link == l)) [
      | inl e ↦ (zero, (x, refl, grind arith, grind arith, grind arith))
      | inr e ↦ let (i, found) = cost_found r l d xs (rw e at h) in (suc i, found)
    ]

pub cost_there : (r l i : ℕ) (is : List Interface) (x : Interface) → slice_get is i ≡ Some x → x.router ≡ r → x.link ≡ l → cost_on r l is ≡ None → ⊥
cost_there r l i [] x h router link e = absurd (none-some x h)
cost_there r l zero (y ∷ ys) x h router link e = grind arith
cost_there r l (suc i) (y ∷ ys) x h router link e = grind (arith, cost_there r l i ys x h)

or_parts : {A : Type 0} (o p : Option A) (x : A) → option_or o p ≡ Some x → (o ≡ Some x) ⊎ (p ≡ Some x)
or_parts o p x h = grind arith

direct_found : (r k c : ℕ) (is : List Interface) (qs : List Place) → direct_at r k is qs ≡ Some c
    → (j : ℕ) × (seat : Seat) × (slice_get qs j ≡ Some (record { prefix = k; seat = seat })) × (cost_at r is seat ≡ Some c)
direct_found r k c is [] h = absurd (none-some c h)
direct_found r k c is (q ∷ qs) h =
    elim (cases_Bool (q.prefix == k)) [
      | inl e ↦
          elim (or_parts (cost_at r is q.seat) (direct_at r k is qs) c (rw e at h)) [
            | inl here ↦ (zero, q.seat, ap (λ (m : ℕ). Some (record { prefix = m; seat = q.seat })) (eqb-true q.prefix k e), here)
            | inr there ↦ let (j, seat, at, cost) = direct_found r k c is qs there in (suc j, seat, at, cost)
          ]
      | inr e ↦ let (j, seat, at, cost) = direct_found r k c is qs (rw e at h) in (suc j, seat, at, cost)
    ]

direct_there : (r k j : ℕ) (seat : Seat) (is : List Interface) (qs : List Place) → slice_get qs j ≡ Some (record { prefix = k; seat = seat }) → direct_at r k is qs ≡ None → cost_at r is seat ≡ None
direct_there r k j seat is [] h e = absurd (none-some _ h)
direct_there r k zero seat is (q ∷ qs) h e = grind arith
direct_there r k (suc j) seat is (q ∷ qs) h e = grind (arith, direct_there r k j seat is qs h)

cost_touches : (n : Network) (j k r c : ℕ) (seat : Seat) → IsPlace n j k seat → cost_at r n.interfaces seat ≡ Some c → Touches n j k r c
cost_touches n j k r c (seats.Link l) place h =
    let (i, (x, at, router, link, direct)) = cost_found r l c n.interfaces h in
    inl (l, place, (i, record { interface = x; listed = at; router = router; link = link; direct = direct }))
cost_touches n j k r c (seats.Own own) place h = grind arith

touch_costs : (n : Network) (j k r c : ℕ) → Touches n j k r c → (seat : Seat) × IsPlace n j k seat × (cost_at r n.interfaces seat ≡ None → ⊥)
touch_costs n j k r c (inl (l, place, (i, is))) = (seats.Link l, place, λ e. cost_there r l i n.interfaces is.interface is.listed is.router is.link e)
touch_costs n j k r c (inr h) = (seats.Own h.own, h.place, λ e. let same : (h.own.router == r) ≡ true = grind (arith, nat_tests, h.router) in none-some h.own.cost (sym (rw same at e)))

pub interface_of : (n : Network) (i r l d : ℕ) → (is : IsConnected n i r l d) → IsInterface n i r l is.interface.cost
interface_of n i r l d is = record { interface = is.interface; listed = is.listed; router = is.router; link = is.link; cost = refl }

-- own addresses are inside a prefix of their link, where the address of each interface is
pub own_inside : (n : Network) → ((i p : ℕ) (x : Interface) → slice_get n.interfaces i ≡ Some x → Carries n x.link p → IsInside n x.link x.address) → (i l a p : ℕ)
    → HasOwnAddress n i l a → Carries n l p → IsInside n l a
own_inside n each i l a p own carries =
    rw (← own.link, ← own.address) (each i p own.interface own.listed (subst (λ (m : ℕ). Carries n m p) (sym own.link) carries))

-- a place has one seat
pub one_seat : (n : Network) (j k : ℕ) (seat other : Seat) → IsPlace n j k seat → IsPlace n j k other → seat ≡ other
one_seat n j k seat other h h' = ap (λ (q : Place). q.seat) (same_Some _ _ (sym h.listed ∙ h'.listed))

-- a router has a prefix at one cost
pub direct_once : (n : Network) → ((k j p r c d : ℕ) → Touches n k p r c → Touches n j p r d → k ≡ j)
    → ((i j r l c d : ℕ) → IsInterface n i r l c → IsInterface n j r l d → i ≡ j) → (r k c d : ℕ) → IsDirect n r k c → IsDirect n r k d → c ≡ d
direct_once n touched_once one_on_link r k c d (j, h) (m, h') =
    let one : j ≡ m = touched_once j m k r c d h h' in
    same_touch h (subst (λ (p : ℕ). Touches n p k r d) (sym one) h')
  where
    same_touch : Touches n j k r c → Touches n j k r d → c ≡ d
    same_touch (inl (l, place, (i, is))) (inl (l', place', (i', is'))) =
        let seat : seats.Link l ≡ seats.Link l' = one_seat n j k _ _ place place' in
        let link : l ≡ l' = cc in
        let is'' : IsConnected n i' r l d = rw (← link) at is' in
        let same : i ≡ i' = one_on_link i i' r l is.interface.cost is''.interface.cost (interface_of n i r l c is) (interface_of n i' r l d is'') in
        let listed : slice_get n.interfaces i ≡ slice_get n.interfaces i' = ap (slice_get n.interfaces) same in
        sym is.direct ∙ ap (λ (x : Interface). x.direct) (same_Some _ _ (sym is.listed ∙ listed ∙ is''.listed)) ∙ is''.direct
    same_touch (inl (l, place, on)) (inr own) = let seat : seats.Link l ≡ seats.Own own.own = one_seat n j k _ _ place own.place in absurd cc
    same_touch (inr own) (inl (l', place', on)) = let seat : seats.Own own.own ≡ seats.Link l' = one_seat n j k _ _ own.place place' in absurd cc
    same_touch (inr own) (inr own') =
        let seat : seats.Own own.own ≡ seats.Own own'.own = one_seat n j k _ _ own.place own'.place in
        let one : own.own ≡ own'.own = cc in
        sym own.says ∙ ap (λ (o : OwnPrefix). o.cost) one ∙ own'.says

pub direct_gives : (n : Network) (r k c : ℕ) → direct_at r k n.interfaces n.places ≡ Some c → IsDirect n r k c
direct_gives n r k c h = grind (arith, direct_found, cost_touches)

pub direct_or_not : (n : Network) (r k : ℕ) → ((c : ℕ) × IsDirect n r k c) ⊎ ((c : ℕ) → IsDirect n r k c → ⊥)
direct_or_not n r k =
    elim (cases_option (direct_at r k n.interfaces n.places)) [
      | inl e ↦ inr (λ c (j, touch). let (seat, place, some) = touch_costs n j k r c touch in some (direct_there r k j seat n.interfaces n.places place.listed e))
      | inr (c, e) ↦ inl (c, direct_gives n r k c e)
    ]

pub direct_finds : (n : Network) → IsLawful n → (r k c : ℕ) → IsDirect n r k c → direct_at r k n.interfaces n.places ≡ Some c
direct_finds n laws r k c h =
    elim (cases_option (direct_at r k n.interfaces n.places)) [
      | inl e ↦ let (seat, place, some) = touch_costs n h.0 k r c h.1 in absurd (some (direct_there r k h.0 seat n.interfaces n.places place.listed e))
      | inr (d, e) ↦ e ∙ ap (λ (m : ℕ). Some m) (direct_once n laws.touched_once laws.one_on_link r k d c (direct_gives n r k d e) h)
    ]

-- ---- carriers

pub on_seat : (l : ℕ) (seat : Seat) → seated.is_on l seat ≡ true → seat ≡ seats.Link l
on_seat l seat h = grind arith

pub carrier_gives : (n : Network) (l k j : ℕ) → first_carrying l k 0 n.places ≡ Some j → Carries n l k
carrier_gives n l k j h = grind (arith, at_first, on_seat)

pub carrier_finds : (n : Network) (l k : ℕ) → Carries n l k → first_carrying l k 0 n.places ≡ None → ⊥
carrier_finds n l k (j, place) e = grind (arith, found (is_carrying l k) n.places j (record { prefix = k; seat = seats.Link l }) place.listed, nat_tests)

-- ---- a router's own prefixes

-- the first item that passes stands at the first number that passes
pub find_at : {A : Type 0} (test : A → Bool) (n : ℕ) (xs : List A) (k i : ℕ) → position_from test n xs ≡ Some k → k ≡ n + i → find test xs ≡ slice_get xs i
find_at test n [] k i h e = absurd (none-some k h)
find_at test n (x ∷ xs) k i h e = grind (arith, position_finds test (n + 1) xs k, find_at test (n + 1) xs k)

pub find_past : {A : Type 0} (test : A → Bool) (n : ℕ) (xs : List A) → position_from test n xs ≡ None → find test xs ≡ None
find_past test n [] h = refl
find_past test n (x ∷ xs) h = elim (cases_Bool (test x)) [ inl t ↦ absurd (none-some n (sym (rw t at h))) | inr t ↦ rw t (find_past test (n + 1) xs (rw t at h)) ]

-- the same of another thing that the plan says
abbrev pub own_says : {n : Network} {k p r : ℕ} {Says Other : OwnPrefix → Type 0} → (h : IsOwnWith n k p r Says) → Other h.own → IsOwnWith n k p r Other
own_says h other = record { own = h.own; place = h.place; router = h.router; says = other }

-- the seat of a router's own prefix
abbrev pub HasOwnSeat : Network → ℕ → ℕ → Seat → Type 0
HasOwnSeat n r p seat = (k : ℕ) × IsOwnWith n k p r (λ own. seat ≡ seats.Own own)

pub own_gives : (n : Network) (r p : ℕ) (seat : Seat) → own_seat r p n.places ≡ Some seat → HasOwnSeat n r p seat
own_gives n r p seat h = grind (arith, find_gives)

pub own_finds : {Says : OwnPrefix → Type 0} (n : Network) → IsLawful n → (k p r : ℕ) (h : IsOwnWith n k p r Says) → own_seat r p n.places ≡ Some (seats.Own h.own)
own_finds n laws k p r h =
    elim (cases_option (find (is_owned r p) n.places)) [
      | inl e ↦ absurd (find_none (is_owned r p) n.places k (record { prefix = p; seat = seats.Own h.own }) h.place.listed (grind (arith, nat_tests, h.router)) e)
      | inr (q, e) ↦
          let (j, has) = own_gives n r p q.seat (rw e refl) in
          let same : j ≡ k = laws.touched_once j k p r has.own.cost h.own.cost (inr (own_says has refl)) (inr (own_says h refl)) in
          let its : IsPlace n k p (seats.Own has.own) = rw same at has.place in
          rw e (ap (λ (s : Seat). Some s) (has.says ∙ one_seat n k p _ _ its h.place))
    ]

-- ---- interfaces on a link and of a router, and gateways for a prefix

-- the numbers of the items that pass
numbers_give : {A : Type 0} (test : A → Bool) (is : List A) (i : ℕ) → Contains (numbers_where test 0 is) i → (x : A) × (slice_get is i ≡ Some x) × (test x ≡ true)
numbers_give test is i h = let (k, at) = at_contains (numbers_where test 0 is) i h in grind (arith, number_passes test 0 is k i at)

numbers_find : {A : Type 0} (test : A → Bool) (is : List A) (i : ℕ) (x : A) → slice_get is i ≡ Some x → test x ≡ true → Contains (numbers_where test 0 is) i
numbers_find test is i x h passes = let (k, at) = passing_number test 0 is i x h passes in grind (arith, contains_at (numbers_where test 0 is) k i)

pub on_link_gives : (n : Network) (l i : ℕ) → Contains (numbers_where (is_on l) 0 n.interfaces) i → (r c : ℕ) × IsInterface n i r l c
on_link_gives n l i h =
    let (x, at, test) = numbers_give (is_on l) n.interfaces i h in
    (x.router, x.cost, record { interface = x; listed = at; router = refl; link = eqb-true x.link l test; cost = refl })

pub on_link_finds : (n : Network) (l i r c : ℕ) → IsInterface n i r l c → Contains (numbers_where (is_on l) 0 n.interfaces) i
on_link_finds n l i r c h = numbers_find (is_on l) n.interfaces i h.interface h.listed (eq-eqb h.interface.link l h.link)

pub of_router_gives : (n : Network) (r i : ℕ) → Contains (numbers_where (is_of r) 0 n.interfaces) i → (l c : ℕ) × IsInterface n i r l c
of_router_gives n r i h =
    let (x, at, test) = numbers_give (is_of r) n.interfaces i h in
    (x.link, x.cost, record { interface = x; listed = at; router = eqb-true x.router r test; link = refl; cost = refl })

pub of_router_finds : (n : Network) (r i l c : ℕ) → IsInterface n i r l c → Contains (numbers_where (is_of r) 0 n.interfaces) i
of_router_finds n r i l c h = numbers_find (is_of r) n.interfaces i h.interface h.listed (eq-eqb h.interface.router r h.router)

-- a place that passes is a router's own prefix with a gateway
gateway_there : (n : Network) (p k : ℕ) (q : Place) → slice_get n.places k ≡ Some q → has_gateway p q ≡ true → (r a : ℕ) × IsGatewayAt n k p r a
gateway_there n p k q at test =
    let parts = and_parts (q.prefix == p) (is_some (seated.gateway_of q.seat)) test in
    go (eqb-true q.prefix p parts.0) q.seat refl parts.1
  where
    go : q.prefix ≡ p → (seat : Seat) → q.seat ≡ seat → is_some (seated.gateway_of seat) ≡ true → (r a : ℕ) × IsGatewayAt n k p r a
    go same (seats.Link l) e some = absurd cc
    go same (seats.Own own) e some =
        let is : slice_get n.places k ≡ Some (record { prefix = p; seat = seats.Own own }) =
        at ∙ ap (λ (m : ℕ). Some (record { prefix = m; seat = q.seat })) same ∙ ap (λ (s : Seat). Some (record { prefix = p; seat = s })) e in
        elim (cases_option own.via) [
          | inl f ↦ let clash = rw f at some in absurd cc
          | inr (a, f) ↦ (own.router, a, record { own = own; place = record { listed = is }; router = refl; says = f })
        ]

gateway_passes : (n : Network) (p k r a : ℕ) → IsGatewayAt n k p r a → Contains (numbers_where (has_gateway p) 0 n.places) k
gateway_passes n p k r a h = numbers_find (has_gateway p) n.places k (record { prefix = p; seat = seats.Own h.own }) h.place.listed (grind (arith, nat_tests, h.says))

pub gateways_exact : (n : Network) (p : ℕ) (numbers : List ℕ) → numbers ≡ numbers_where (has_gateway p) 0 n.places → (k : ℕ) → Contains numbers k ↔ ((r a : ℕ) × IsGatewayAt n k p r a)
gateways_exact n p numbers e k = rw e (
  λ h. let (q, at, test) = numbers_give (has_gateway p) n.places k h in gateway_there n p k q at test,
  λ h. gateway_passes n p k h.0 h.1 h.2,
)

-- ---- an interface by the name of its link and its address

pub name_same : (a : List ℕ) → bytes_eq a a ≡ true
name_same a = (bytes_eq-Decides a a).1 refl

-- the item of a list of names that differ which is this one
pub named_exact : (names : List (List ℕ)) → ((j k : ℕ) (name : List ℕ) → slice_get names j ≡ Some name → slice_get names k ≡ Some name → j ≡ k) → (name : List ℕ) (o : Option ℕ)
    → o ≡ number_of_name name names → (k : ℕ) → (o ≡ Some k) ↔ (slice_get names k ≡ Some name)
named_exact names differ name o e k = (
  λ h. let (other, at, same) = at_first (λ m. bytes_eq m name) names k (sym e ∙ h) in grind (arith, bytes_eq-Decides other name),
  λ h. let (j, other, found_at, at, same) = found (λ m. bytes_eq m name) names k name h ((bytes_eq-Decides name name).1 refl) in grind (arith, bytes_eq-Decides other name, differ j k name),
)

-- the interface that has an address on a link
pub holder_finds : (n : Network) → IsLawful n → (i l a : ℕ) → HasAddress n i l a → holder_at l a (addresses_of n) ≡ Some i
holder_finds n laws i l a has =
    elim (cases_option (holder_at l a (addresses_of n))) [
      | inl e ↦ absurd (holder_none n i l a has e)
      | inr (j, e) ↦ e ∙ ap (λ (m : ℕ). Some m) (laws.addresses_differ j i l a (holder_gives n j l a e) has)
    ]

pub holder_exact : (n : Network) → IsLawful n → (l a : ℕ) (o : Option ℕ) → o ≡ holder_at l a (addresses_of n) → (i : ℕ) → (o ≡ Some i) ↔ HasAddress n i l a
holder_exact n laws l a o e i = (λ h. holder_gives n i l a (sym e ∙ h), λ h. e ∙ holder_finds n laws i l a h)

pub found_gives : (n : Network) (name : List ℕ) (a i : ℕ) → found_at n name a ≡ Some i → IsAt n name a i
found_gives n name a i h = grind (arith, at_first (λ m. bytes_eq m name) n.links, bytes_eq-Decides, holder_gives n i)

pub found_finds : (n : Network) → IsLawful n → (name : List ℕ) (a i : ℕ) → IsAt n name a i → found_at n name a ≡ Some i
found_finds n laws name a i (l, named, here) =
    let (k, other, e, at, same) = found (λ m. bytes_eq m name) n.links l name named ((bytes_eq-Decides name name).1 refl) in
    grind (arith, bytes_eq-Decides other name, laws.link_names_differ k l name, holder_finds n laws i l a here)
