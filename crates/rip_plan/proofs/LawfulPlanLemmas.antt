-- A plan without a fault keeps the laws.
use Rattle.std.proofs.Common.{◌≡◌, ℕ, zero, suc, ◌+◌, ◌^◌, ◌<◌, ◌≤◌, ◌⊎◌, inl, inr, List, [], ◌∷◌, ◌++◌, length, map, Bool, true, false, ◌&&◌, Some, Ok, refl, sym, ◌∙◌, ap, subst, arith}
use Rattle.std.specs.Prelude.{◌==◌, slice_get, codes as codes_of}
use Rattle.std.specs.List.{IsDistinct, list_any}
use Rattle.std.proofs.lemmas.Bool.{and_parts, cases_lt, both_ways, cases_Bool, eq-eqb, eqb-true}
use Rattle.std.proofs.lemmas.Bool.Decides.{nat_tests}
use Rattle.std.proofs.lemmas.Option.{none-some, same_Some, slice_get_within}
use Rattle.toml.specs.Data.{Data, Members, get, string, table}
use Rattle.rip_wire.specs.Name.{IsName}
use Rattle.rip_wire.specs.Prefix.{Block, IsBlock}
use Rattle.rip_plan.specs.declared.error.PlanCode.{PlanCode}
use Rattle.rip_plan.specs.declared.error.PlanCode.TheVariants as codes
use Rattle.rip_plan.specs.declared.error.PlanError.{PlanError}
use Rattle.rip_plan.specs.declared.error.At.{At}
use Rattle.rip_plan.specs.declared.error.At.TheVariants.{Text, Link, LinkOnly, LinkPrefix, Router, RouterInterface, RouterOwn}
use Rattle.rip_plan.specs.declared.parts.Interface.{Interface}
use Rattle.rip_plan.specs.declared.parts.OwnPrefix.{OwnPrefix}
use Rattle.rip_plan.specs.declared.parts.Seat.{Seat}
use Rattle.rip_plan.specs.declared.parts.Seat.TheVariants as seats
use Rattle.rip_plan.specs.DocumentTables.{Has, IsSomeList}
use Rattle.rip_plan.specs.Draft.{Sketch, has_address}
use Rattle.rip_plan.specs.Fault.{fault}
use Rattle.rip_plan.specs.Fields.{list_of}
use Rattle.rip_plan.specs.Network.{Network, cost_on, is_of, network_of_sketch}
use Rattle.rip_plan.specs.Passes.{same_prefix}
use Rattle.rip_plan.specs.Seats.{is_on}
use Rattle.rip_plan.specs.PlanFaults.{AreTwice, DoMeet, HasTables, HasWrongCost, HasWrongDirect, HaveOneAddress, IsAstray, IsClash, IsFault, IsMisnamed, IsText, TableFault, also_spots, interface_spots, listed_spots, pass_of, place_spots}
use Rattle.rip_plan.specs.PlanOf.{AreAlsoOf, HasItems, IsAddressOf, IsCostOf, IsDirectOf, IsInterfaceOf, IsListOf, IsListedOf, IsNameOf, IsPlaceOf, IsPlanOfText, Matched, Placement, PlanOf, each_once, items_in, items_under}
use Rattle.rip_plan.specs.PlanText.{sketch_of}
use Rattle.rip_plan.specs.Relations.{Carries, HasAddress, HasAddresses, HasList, IsAttached, IsConnected, IsEachOnce, IsGateway, IsGatewayOfNeighbour, IsInside, IsInterface, IsLawful, IsListed, IsOn, IsOwnAt, IsPlace, IsPrefix}
use Rattle.rip_plan.proofs.DocumentTableLemmas.{by_root}
use Rattle.rip_plan.proofs.SpotLemmas.{also_spot, interface_spot, place_spot, spot_under, under_item}
use Rattle.rip_plan.proofs.ItemLemmas.{all_at, all_here, any_finds, cases_option, distinct_at, get_left, get_seen, get_some, get_split, none_at}
use Rattle.rip_plan.proofs.LookupLemmas.{cost_found, cost_there, interface_of, on_seat, own_inside}
use Rattle.rip_plan.proofs.MatchingLemmas.{matched_left, matched_length, matched_right}
use Rattle.rip_plan.proofs.NumberingLemmas.{once_distinct, once_kept, same_self}
use Rattle.rip_plan.proofs.BelowLemmas.{at_contains}
use Rattle.rip_plan.proofs.OnePlanLemmas.{items_same}
use Rattle.rip_plan.proofs.PlanMatchLemmas.{matches}
use Rattle.rip_plan.proofs.PlanPartLemmas.{apart, names_differ, also_counted, carrier_has, prefix_place, interface_table, interfaces_count, listed_count, its_place, own_table, places_count}
use Rattle.rip_plan.proofs.TextFaultLemmas.{faultless, read_or_told, whole_fault}
use Rattle.rip_plan.proofs.TextLemmas.{TextLaws, one_prefix}

-- ---- names

names_good : (laws : TextLaws) (names : List (List ℕ)) (ds : List Data) → Matched IsNameOf names ds → ((i : ℕ) → IsMisnamed ds i → ⊥) → (k : ℕ) (name : List ℕ) → slice_get names k ≡ Some name
    → IsName name
names_good laws names ds named none k name h =
    let (d, at, its) = matched_left IsNameOf names ds k name named h in
    grind (arith, laws.name name, none (suc k))

-- ---- costs

cost_good : (d : Data) (c : ℕ) → IsCostOf d c → (HasWrongCost d → ⊥) → (1 ≤ c) × (c ≤ 15)
cost_good d c h k = grind arith

direct_good : (d : Data) (c e : ℕ) → IsCostOf d c → (1 ≤ c) × (c ≤ 15) → IsDirectOf d c e → (HasWrongDirect d → ⊥) → (1 ≤ e) × (e ≤ c)
direct_good d c e h k g w = grind arith

-- ---- lists

few_spots : (spots : List At) → ((k : ℕ) (a : At) → slice_get spots k ≡ Some a → 1024 ≤ k → ⊥) → length spots ≤ 1024
few_spots spots none = elim (cases_lt 1024 (length spots)) [ inl more ↦ let (a, at) = get_some spots 1024 more in absurd (none 1024 a at (omega arith)) | inr few ↦ few ]

some_items : (d : Data) (key : List ℕ) (ds : List Data) → Has key d IsSomeList → HasItems key d ds → 1 ≤ length ds
some_items d key ds (value, is, (items, array_of, some)) has = by_list ds (items_same key d ds (list_of items) has (items, is ∙ ap (λ (x : Data). Some x) array_of, refl))
  where
    by_list : (xs : List Data) → xs ≡ list_of items → 1 ≤ length xs
    by_list [] e = absurd (some (sym e))
    by_list (x ∷ xs) e = omega arith

-- ---- the laws

module _ (laws : TextLaws) (bytes : List ℕ) (document : Members) (n : Network) (plan : PlanOf document n) (has : HasTables bytes document plan.links plan.routers)
    (none : (e : PlanError) → IsFault bytes e → ⊥) where
  not : (c : PlanCode) (place : At) → TableFault document plan.links plan.routers c place → ⊥
  not c place f = none (fault c place) (pass_of c, inl (whole_fault bytes document plan.links plan.routers has c place f, refl))

  prefix_known : (k p : ℕ) (seat : Seat) → IsPlace n k p seat → p < length n.prefixes
  prefix_known k p seat h = let (q, at, of) = matched_left (IsPlaceOf n) n.places (plan.on_links ++ plan.owned) k _ plan.places h.listed in slice_get_within n.prefixes p q.prefix of.prefix

  -- ---- interfaces

  its_spot : (k : ℕ) → k < length n.interfaces → (r j : ℕ) × (slice_get (interface_spots plan.routers) k ≡ Some (RouterInterface r j))
  its_spot k within =
      let (a, at) = get_some (interface_spots plan.routers) k (omega (arith, interfaces_count document n plan)) in
      grind (arith, interface_spot plan.routers k a at)

  -- two interfaces that clash where none does are one
  one_of : (c : PlanCode) (Clash : Network → ℕ → ℕ → Type 0)
      → ((r j : ℕ) → IsClash (Clash n) (interface_spots plan.routers) (RouterInterface r j) → TableFault document plan.links plan.routers c (RouterInterface r j))
      → (i j : ℕ) → i < length n.interfaces → j < length n.interfaces → Clash n i j → Clash n j i → i ≡ j
  one_of c Clash told i j here there forth back =
      apart i j (λ less. let (r, m, at) = its_spot j there in not c (RouterInterface r m) (told r m (i, j, at, less, forth)))
      (λ more. let (r, m, at) = its_spot i here in not c (RouterInterface r m) (told r m (j, i, at, more, back)))

  costs_good : (i r l c : ℕ) → IsInterface n i r l c → (1 ≤ c) × (c ≤ 15)
  costs_good i r l c h =
      let t = interface_table document n plan i h.interface h.listed in
      rw (← h.cost) (cost_good t.x h.interface.cost t.of.cost (λ bad. not codes.Cost (RouterInterface (suc t.r) (suc t.j)) (t.x, t.item, inl bad)))

  directs_good : (i r l d : ℕ) → (h : IsConnected n i r l d) → (1 ≤ d) × (d ≤ h.interface.cost)
  directs_good i r l d h =
      let t = interface_table document n plan i h.interface h.listed in
      rw (← h.direct)
      (direct_good t.x h.interface.cost h.interface.direct t.of.cost (costs_good i r l h.interface.cost (interface_of n i r l d h)) t.of.direct
      (λ bad. not codes.Cost (RouterInterface (suc t.r) (suc t.j)) (t.x, t.item, inr bad)))

  direct_most : (i r l c d : ℕ) → IsInterface n i r l c → IsConnected n i r l d → d ≤ c
  direct_most i r l c d h k = grind (arith, directs_good i r l d k)

  router_known : (i r l c : ℕ) → IsInterface n i r l c → r < length n.routers
  router_known i r l c h =
      let t = interface_table document n plan i h.interface h.listed in
      grind (arith, slice_get_within plan.routers t.r t.item.0 t.item.1, matched_length IsNameOf n.routers plan.routers plan.router_names)

  link_known : (i r l c : ℕ) → IsInterface n i r l c → l < length n.links
  link_known i r l c h =
      let t = interface_table document n plan i h.interface h.listed in
      rw (← h.link) (slice_get_within n.links h.interface.link t.of.link_name t.of.link.0)

  one_interface : (r : ℕ) → r < length n.routers → (i l c : ℕ) × IsInterface n i r l c
  one_interface r less =
      elim (cases_Bool (list_any (is_of r) n.interfaces)) [
        | inl e ↦
            let (i, x, at, test) = any_finds (is_of r) n.interfaces e in
            (i, x.link, x.cost, record { interface = x; listed = at; router = eqb-true x.router r test; link = refl; cost = refl })
        | inr e ↦
            let none : (i l c : ℕ) → IsInterface n i r l c → ⊥ =
            λ i l c is. both_ways (is.interface.router == r) (none_at (is_of r) n.interfaces i is.interface e is.listed) (eq-eqb is.interface.router r is.router) in
            absurd (not codes.NoInterface (Router (r + 1)) (n, plan, (r, refl, less, none)))
      ]

  one_on_link : (i j r l c d : ℕ) → IsInterface n i r l c → IsInterface n j r l d → i ≡ j
  one_on_link i j r l c d h k =
      one_of codes.TwiceOnLink AreTwice (λ q m clash. (n, plan, clash)) i j (slice_get_within n.interfaces i _ h.listed) (slice_get_within n.interfaces j _ k.listed) (r, l, c, d, h, k)
      (r, l, d, c, k, h)

  -- ---- addresses

  address_known : (i l a : ℕ) → HasAddress n i l a → a < 2 ^ 32
  address_known i l a (all, its, holds) = let (j, at) = at_contains all a holds in by_number j (ap (λ (xs : List ℕ). slice_get xs j) (sym its.all) ∙ at)
    where
      by_number : (j : ℕ) → slice_get (its.interface.address ∷ its.also) j ≡ Some a → a < 2 ^ 32
      by_number zero e =
          let t = interface_table document n plan i its.interface its.listed in
          subst (λ (b : ℕ). b < 2 ^ 32) (same_Some its.interface.address a e) t.of.address.0
      by_number (suc j) e =
          let (at, listed, of) = matched_left AreAlsoOf n.also (items_under (codes_of "interface") 0 plan.routers) i its.also plan.also its.further in
          let (d, is, read) = matched_left IsAddressOf its.also (items_in (get (codes_of "also") at.1)) j a of e in
          read.2.0

  addresses_differ : (i j l a : ℕ) → HasAddress n i l a → HasAddress n j l a → i ≡ j
  addresses_differ i j l a h k =
      one_of codes.DuplicateAddress HaveOneAddress (λ q m clash. (n, plan, inl clash)) i j (slice_get_within n.interfaces i _ h.1.listed) (slice_get_within n.interfaces j _ k.1.listed) (l, a, h, k)
      (l, a, k, h)

  addresses_once : (i l : ℕ) (addresses : List ℕ) → HasAddresses n i l addresses → IsEachOnce addresses
  addresses_once i l addresses its j k a h g =
      let (r, m, spot) = its_spot i (slice_get_within n.interfaces i _ its.listed) in
      apart j k (λ less. not codes.DuplicateAddress (RouterInterface r m) (n, plan, inr (i, spot, (l, addresses, its, (j, k, a, less, h, g)))))
      (λ more. not codes.DuplicateAddress (RouterInterface r m) (n, plan, inr (i, spot, (l, addresses, its, (k, j, a, more, g, h)))))

  -- the address of an interface is inside a prefix of its link
  inside : (i p : ℕ) (x : Interface) → slice_get n.interfaces i ≡ Some x → Carries n x.link p → IsInside n x.link x.address
  inside i p x at (k, place) = by_test (list_any test plan.on_links) refl
    where
      test : Placement → Bool
      test q = is_on x.link q.seat && has_address q.prefix x.address

      by_test : (b : Bool) → list_any test plan.on_links ≡ b → IsInside n x.link x.address
      by_test true e =
          let (m, q, at, tests) = any_finds test plan.on_links e in
          let (on, holds) = and_parts (is_on x.link q.seat) (has_address q.prefix x.address) tests in
          let (number, its, prefix) = its_place document n plan m q (get_left plan.on_links plan.owned m q at) in
          (number, q.prefix, (m, subst (IsPlace n m number) (on_seat x.link q.seat on) its), prefix, grind (arith, nat_tests))
      by_test false e =
          let t = interface_table document n plan i x at in
          let (d, listed, named) = matched_left IsNameOf n.links plan.links x.link t.of.link_name plan.link_names t.of.link.0 in
          let (block, prefix) = get_some n.prefixes p (prefix_known k p (seats.Link x.link) place) in
          absurd (not codes.OutsidePrefix (RouterInterface (suc t.r) (suc t.j)) (
            t.x,
            t.item,
            record {
              text = t.of.text;
              has_address = t.of.has_address;
              address = x.address;
              spelled = t.of.address;
              name = t.of.link_name;
              has_link = t.of.has_link;
              link = x.link;
              link_table = d;
              listed = listed;
              named = named;
              some = (block, carrier_has document n plan x.link p block (k, place) prefix);
              none = λ block its holds.
                  let (m, q, at, seat, (text, read, same)) = prefix_place plan.links plan.on_links plan.link_prefixes x.link block its in
                  let off = none_at test plan.on_links m q e at in
                  grind (arith, nat_tests, one_prefix laws text text q.prefix block refl read same, off);
            },
          ))

  -- ---- prefixes

  -- a prefix of the plan is that of a placement
  abbrev IsPlaced : Block → Type 0
  IsPlaced b = (k : ℕ) × (q : Placement) × (slice_get (plan.on_links ++ plan.owned) k ≡ Some q) × (q.prefix ≡ b)

  placed : (p : ℕ) (b : Block) → IsPrefix n p b → IsPlaced b
  placed p b h =
      let blocks = map (λ (q : Placement). q.prefix) (plan.on_links ++ plan.owned) in
      let seen = all_here IsPlaced blocks (λ k c at. grind (arith, get_seen (λ (q : Placement). q.prefix) (plan.on_links ++ plan.owned) k c at)) in
      all_at IsPlaced (each_once blocks) p b (once_kept IsPlaced blocks seen) (rw plan.prefixes at h)

  prefix_is : (p : ℕ) (b : Block) → IsPrefix n p b → IsBlock b
  prefix_is p b h = grind (arith, placed, get_split, matched_left)

  prefixes_differ : (p q : ℕ) (b : Block) → IsPrefix n p b → IsPrefix n q b → p ≡ q
  prefixes_differ p q b h k =
      distinct_at same_prefix n.prefixes p q b b (subst (IsDistinct same_prefix) (sym plan.prefixes) (once_distinct (map (λ (x : Placement). x.prefix) (plan.on_links ++ plan.owned)))) h k
      (same_self b) (same_self b)

  one_place : (p : ℕ) → p < length n.prefixes → (k : ℕ) × (seat : Seat) × IsPlace n k p seat
  one_place p less =
      let (b, h) = get_some n.prefixes p less in
      let (k, q, at, same) = placed p b h in
      let (m, place, prefix) = its_place document n plan k q at in
      (k, q.seat, subst (λ (i : ℕ). IsPlace n k i q.seat) (prefixes_differ m p b (prefix ∙ ap (λ (x : Block). Some x) same) h) place)

  -- ---- lists

  listed_item : (l : ℕ) (b : Block) (h : IsListed n l b) → (at : ℕ × Data) × (slice_get (items_under (codes_of "only") 0 plan.links) h.number ≡ Some at) × IsListedOf h.item at
  listed_item l b h = matched_left IsListedOf n.listed (items_under (codes_of "only") 0 plan.links) h.number h.item plan.listed h.listed

  listed_is : (l : ℕ) (b : Block) → IsListed n l b → IsBlock b
  listed_is l b h = let (at, is, of) = listed_item l b h in subst IsBlock h.prefix of.prefix.0

  listed_known : (l : ℕ) (b : Block) → IsListed n l b → HasList n l
  listed_known l b h =
      let (at, is, of) = listed_item l b h in
      let u = under_item (codes_of "only") LinkOnly 1 0 plan.links h.number at.0 at.1 is in
      let (d, there, item) = u.item in
      let (flag, stands, list) = matched_right IsListOf n.lists plan.links u.t d plan.lists there in
      let number : u.t ≡ l = omega (arith, u.number, of.link, h.link) in
      by_flag d u.j at.1 item flag list (subst (λ (t : ℕ). slice_get n.lists t ≡ Some flag) number stands)
    where
      by_flag : (d : Data) (j : ℕ) (x : Data) → slice_get (items_in (get (codes_of "only") d)) j ≡ Some x → (flag : Bool) → IsListOf flag d → slice_get n.lists l ≡ Some flag → HasList n l
      by_flag d j x item true list at = at
      by_flag d j x item false list at = absurd (none-some x (rw list at item))

  -- ---- places

  seat_known : (k p l : ℕ) → IsPlace n k p (seats.Link l) → l < length n.links
  seat_known k p l h =
      let (block, prefix) = get_some n.prefixes p (prefix_known k p (seats.Link l) h) in
      let (m, text, at, read) = carrier_has document n plan l p block (k, h) prefix in
      let u = under_item (codes_of "prefixes") LinkPrefix 1 0 plan.links m l (string text) at in
      omega (arith, u.number, slice_get_within plan.links u.t u.item.0 u.item.1, matched_length IsNameOf n.links plan.links plan.link_names)

  owner_known : (k p r c : ℕ) → IsOwnAt n k p r c → r < length n.routers
  owner_known k p r c h =
      let t = own_table document n plan k p h.own h.place in
      grind (arith, slice_get_within plan.routers t.r t.item.0 t.item.1, matched_length IsNameOf n.routers plan.routers plan.router_names)

  own_costs_good : (k p r c : ℕ) → IsOwnAt n k p r c → (1 ≤ c) × (c ≤ 15)
  own_costs_good k p r c h =
      let t = own_table document n plan k p h.own h.place in
      cost_good t.x c (subst (IsCostOf t.x) (ap (λ (o : OwnPrefix). o.cost) t.is ∙ h.says) t.of.cost) (λ bad. not codes.Cost (RouterOwn (suc t.r) (suc t.j)) (t.x, t.item, bad))

  gateway_known : (r p a : ℕ) → IsGateway n r p a → a < 2 ^ 32
  gateway_known r p a (k, h) = grind (arith, (own_table document n plan k p h.own h.place).of.via)

  gateway_no_neighbour : (k : ℕ) → IsGatewayOfNeighbour n k → ⊥
  gateway_no_neighbour k g =
      let t = own_table document n plan k g.prefix g.own.own g.own.place in
      none (fault codes.DuplicateAddress (RouterOwn (1 + t.r) (suc t.j))) (4, inr (inl ((document, plan.links, plan.routers, has, (n, plan, (k, t.spot, g))), refl, refl)))

  attached_there : (r p l : ℕ) → IsAttached n r p l → IsOn n r l
  attached_there r p l (k, h) =
      elim (cases_option (cost_on r l n.interfaces)) [
        | inl e ↦
            let t = own_table document n plan k p h.own h.place in
            let astray : IsAstray n k = (p, r, l, h, λ (c, (i, on)). cost_there r l i n.interfaces on.interface on.listed on.router on.link e) in
            absurd (none (fault codes.UnknownLink (RouterOwn (1 + t.r) (suc t.j))) (6, inr (inr ((document, plan.links, plan.routers, has, (n, plan, (k, t.spot, astray))), refl, refl))))
        | inr (d, e) ↦
            let (i, (x, at, router, link, direct)) = cost_found r l d n.interfaces e in
            (x.cost, (i, record { interface = x; listed = at; router = router; link = link; cost = refl }))
      ]

  meet_within : (j k : ℕ) → DoMeet n j k → k < length n.places
  meet_within j k (p, inl (l, h, h')) = slice_get_within n.places k _ h'.listed
  meet_within j k (p, inr (r, c, d, h, inl (l, place, on))) = slice_get_within n.places k _ place.listed
  meet_within j k (p, inr (r, c, d, h, inr own)) = slice_get_within n.places k _ own.place.listed

  no_meeting : (j k : ℕ) → DoMeet n j k → j < k → ⊥
  no_meeting j k meet less =
      let (a, at) = get_some (place_spots plan.links plan.routers) k (omega (arith, meet_within j k meet, places_count document n plan)) in
      elim (place_spot plan.links plan.routers k a at) [
        | inl s ↦ not codes.DuplicatePrefix (LinkPrefix (1 + s.n) (suc s.j)) (n, plan, (j, k, at ∙ ap (λ (x : At). Some x) s.is, less, meet))
        | inr s ↦ not codes.DuplicatePrefix (RouterOwn (1 + s.n) (suc s.j)) (n, plan, (j, k, at ∙ ap (λ (x : At). Some x) s.is, less, meet))
      ]

  -- ---- all

  few_interfaces : length (interface_spots plan.routers) ≤ 1024
  few_interfaces =
      few_spots (interface_spots plan.routers) (λ k a at past.
      let s = interface_spot plan.routers k a at in
      not codes.Limit (RouterInterface (1 + s.n) (suc s.j)) (inl (k, grind arith, past)))

  few_also : length (also_spots plan.routers) ≤ 1024
  few_also =
      few_spots (also_spots plan.routers) (λ k a at past.
      let s = also_spot 1 plan.routers k a at in
      not codes.Limit (RouterInterface (1 + s.n) (suc s.j)) (inr (k, grind arith, past)))

  few_listed : length (listed_spots plan.links) ≤ 1024
  few_listed =
      few_spots (listed_spots plan.links) (λ k a at past.
      let s = spot_under (codes_of "only") LinkOnly 1 plan.links k a at in
      not codes.Limit (LinkOnly (1 + s.n) (suc s.j)) (k, at ∙ ap (λ (x : At). Some x) s.is, past))

  few_places : length (place_spots plan.links plan.routers) ≤ 1024
  few_places =
      few_spots (place_spots plan.links plan.routers)
      (λ k a at past.
      elim (place_spot plan.links plan.routers k a at) [
        | inl s ↦ not codes.Limit (LinkPrefix (1 + s.n) (suc s.j)) (k, at ∙ ap (λ (x : At). Some x) s.is, past)
        | inr s ↦ not codes.Limit (RouterOwn (1 + s.n) (suc s.j)) (k, at ∙ ap (λ (x : At). Some x) s.is, past)
      ])

  few_tables : (length plan.links ≤ 512) × (length plan.routers ≤ 128)
  few_tables =
      let over : (512 < length plan.links) ⊎ (128 < length plan.routers) → ⊥ = λ more. none (fault codes.Limit Text) (0, inl (inr (document, plan.links, plan.routers, has, more), refl)) in (
        elim (cases_lt 512 (length plan.links)) [ inl more ↦ absurd (over (inl more)) | inr few ↦ few ],
        elim (cases_lt 128 (length plan.routers)) [ inl more ↦ absurd (over (inr more)) | inr few ↦ few ],
      )

  pub lawful_plan : IsLawful n
  lawful_plan =
      let root = by_root document (λ lacks. none (fault codes.Key Text) (0, inl ((document, has.text, lacks), refl))) in
      let links = matched_length IsNameOf n.links plan.links plan.link_names in
      let routers = matched_length IsNameOf n.routers plan.routers plan.router_names in
      record {
        some_link = omega (arith, links, some_items (table document) (codes_of "link") plan.links root.link plan.has_links);
        few_links = omega (arith, links, few_tables.0);
        some_router = omega (arith, routers, some_items (table document) (codes_of "router") plan.routers root.router plan.has_routers);
        few_routers = omega (arith, routers, few_tables.1);
        few_interfaces = omega (arith, few_interfaces, interfaces_count document n plan);
        few_also = omega (arith, few_also, also_counted document n plan);
        few_places = omega (arith, few_places, places_count document n plan);
        few_listed = omega (arith, few_listed, listed_count document n plan);
        link_named = names_good laws n.links plan.links plan.link_names (λ i bad. not codes.Name (Link i) bad);
        router_named = names_good laws n.routers plan.routers plan.router_names (λ r bad. not codes.Name (Router r) bad);
        link_names_differ = names_differ n.links plan.links plan.link_names (λ i bad. not codes.DuplicateName (Link i) bad);
        router_names_differ = names_differ n.routers plan.routers plan.router_names (λ r bad. not codes.DuplicateName (Router r) bad);
        list_of_each = matched_length IsListOf n.lists plan.links plan.lists ∙ sym links;
        listed_known = listed_known;
        listed_is = listed_is;
        router_known = router_known;
        link_known = link_known;
        cost_least = λ i r l c h. (costs_good i r l c h).0;
        cost_most = λ i r l c h. (costs_good i r l c h).1;
        one_interface = one_interface;
        one_on_link = one_on_link;
        direct_least = λ i r l d h. (directs_good i r l d h).0;
        direct_most = direct_most;
        also_listed = matched_length AreAlsoOf n.also (items_under (codes_of "interface") 0 plan.routers) plan.also
            ∙ sym (matched_length (IsInterfaceOf n.links plan.poison) n.interfaces (items_under (codes_of "interface") 0 plan.routers) plan.interfaces);
        address_known = address_known;
        addresses_differ = addresses_differ;
        addresses_once = addresses_once;
        inside = own_inside n inside;
        prefix_is = prefix_is;
        prefixes_differ = prefixes_differ;
        one_place = one_place;
        prefix_known = prefix_known;
        seat_known = seat_known;
        owner_known = owner_known;
        own_cost_least = λ k p r c h. (own_costs_good k p r c h).0;
        own_cost_most = λ k p r c h. (own_costs_good k p r c h).1;
        attached_there = attached_there;
        gateway_known = gateway_known;
        gateway_no_neighbour = gateway_no_neighbour;
        carried_once = λ k j p l h h'. apart k j (no_meeting k j (p, inl (l, h, h'))) (no_meeting j k (p, inl (l, h', h)));
        touched_once = λ k j p r c d h h'. apart k j (no_meeting k j (p, inr (r, c, d, h, h'))) (no_meeting j k (p, inr (r, d, c, h', h)));
      }

-- ---- bytes without a fault

pub not_long : (bytes : List ℕ) → ((e : PlanError) → IsFault bytes e → ⊥) → length bytes ≤ 1048576
not_long bytes none = elim (cases_lt 1048576 (length bytes)) [ inl more ↦ absurd (none (fault codes.Limit Text) (0, inl (inl more, refl))) | inr few ↦ few ]

pub lawful : (laws : TextLaws) (bytes : List ℕ) (s : Sketch) → sketch_of bytes ≡ Ok s → IsLawful (network_of_sketch s)
lawful laws bytes s h =
    let is = matches laws bytes s h in
    let none = faultless laws bytes s h in
    let text : IsText bytes is.document = record { short = not_long bytes none; reads = is.reads } in
    lawful_plan laws bytes is.document (network_of_sketch s) is.plan (record { text = text; has_links = is.plan.has_links; has_routers = is.plan.has_routers }) none

pub plan_stands : (laws : TextLaws) (bytes : List ℕ) → ((e : PlanError) → IsFault bytes e → ⊥) → (n : Network) × IsPlanOfText bytes n × IsLawful n
plan_stands laws bytes none =
    elim (read_or_told laws bytes) [
      | inl (s, h) ↦ (network_of_sketch s, matches laws bytes s h, lawful laws bytes s h)
      | inr (d, h, told) ↦ absurd (none d (told.pass, told.found))
    ]
