-- What the later passes find of the faults of a plan.
use Rattle.std.proofs.Common.{◌≡◌, ◌↔◌, ℕ, ◌+◌, ◌<◌, ◌≤◌, ◌⊎◌, inl, inr, suc, List, [], ◌∷◌, ◌++◌, length, true, false, ◌||◌, Option, Some, None, Result, Ok, Err, refl, sym, ap, subst, ◌∙◌, arith, Bool, zero, map}
use Rattle.std.specs.Prelude.{slice_get, find, option_map, unwrap_or, ◌==◌}
use Rattle.std.specs.List.{IsDistinct, list_any, range_with_len}
use Rattle.std.proofs.lemmas.Option.{same_Some, slice_get_within, get_or_from_slice_get, slice_get-get_or}
use Rattle.std.proofs.lemmas.List.FromFn.{length-range_with_len, get_or-range_with_len}
use Rattle.std.proofs.lemmas.Bool.{eqb-true, cases_lt, true_from_ne_false, and_parts, or_cases, or_right, not-false, both_ways, false_from_ne_true}
use Rattle.std.proofs.lemmas.Bool.Decides.{nat_tests}
use Rattle.toml.specs.Data.{Data, Members}
use Rattle.rip_plan.specs.declared.error.PlanCode.{PlanCode}
use Rattle.rip_plan.specs.declared.error.PlanCode.TheVariants as codes
use Rattle.rip_plan.specs.declared.error.PlanError.{PlanError}
use Rattle.rip_plan.specs.declared.error.At.{At}
use Rattle.rip_plan.specs.declared.error.At.TheVariants.{LinkPrefix, Router, RouterInterface, RouterOwn, Text}
use Rattle.rip_plan.specs.declared.addresses.Held.{Held}
use Rattle.rip_plan.specs.declared.draft.DraftPlace.{DraftPlace}
use Rattle.rip_plan.specs.declared.draft.DraftInterface.{DraftInterface}
use Rattle.rip_plan.specs.declared.parts.Interface.{Interface}
use Rattle.rip_plan.specs.declared.parts.OwnPrefix.{OwnPrefix}
use Rattle.rip_plan.specs.declared.parts.Seat.{Seat}
use Rattle.rip_plan.specs.declared.parts.Seat.TheVariants as seats
use Rattle.rip_plan.specs.Codes.{number_of_code}
use Rattle.rip_plan.specs.Fault.{fault, ◌>>=◌}
use Rattle.rip_plan.specs.Draft.{Sketch}
use Rattle.rip_plan.specs.Passes.{first_clash, touched, touching, same_prefix, do_meet, is_same_link, have_common, are_twice, is_astray, is_bare, is_there, none_found, second_passes, spot_of, duplicate_in, twice_in, taken_address_in, bare_in, astray_in, first_bare, has_neighbours_gateway, held, is_neighbours, neighbours_gateway_in}
use Rattle.rip_plan.specs.Addresses.{have_one_address}
use Rattle.rip_plan.specs.Network.{Network, network_of_sketch}
use Rattle.rip_plan.specs.Relations.{HasAddress, IsAttachedAt, IsGatewayOfNeighbour, IsInterface, IsPlace}
use Rattle.rip_plan.specs.PlanOf.{PlanOf}
use Rattle.rip_plan.specs.PlanFaults.{pass_of, TableFault, IsAstray, IsClash, IsBare, IsSo, DoMeet, AreTwice, HasOneTwice, HaveOneAddress, Before, rank, position, place_spots, interface_spots}
use Rattle.rip_plan.proofs.SketchPlanLemmas.{as_interface, interface_as, interface_in, place_in, place_from, touch, touches, there_on, on_there}
use Rattle.rip_plan.proofs.FindingLemmas.{Found, Finds, bind_finds, before_trans, before_not, ranked}
use Rattle.rip_plan.proofs.FaultRowLemmas.{IsAstrayAt, IsGatewayTakenAt, IsOfTables, IsTold, told_finds, code_rows, pass_apart, later_rows, pass_rows}
use Rattle.rip_plan.proofs.HeldAddressLemmas.{address_held, first_held, held_address, held_at, held_order, held_in}
use Rattle.rip_plan.proofs.OnePlanLemmas.{one_plan}
use Rattle.rip_plan.proofs.PlanPartLemmas.{own_table}
use Rattle.rip_plan.proofs.SpotLemmas.{place_ahead, interface_ahead, place_spot, interface_spot}
use Rattle.rip_plan.proofs.PlanMatchLemmas.{place_ats, interface_ats}
use Rattle.rip_plan.proofs.ItemLemmas.{cases_option, any_at, any_finds, distinct_at, get_seen, see_got, get_some}
use Rattle.rip_plan.proofs.NumberingLemmas.{numbered_once, once_distinct, same_is, same_from}
use Rattle.rip_plan.proofs.ClashLemmas.{Clashes, FirstSo, Passes, first_clashing, first_passing, meeting_seen}
use Rattle.rip_plan.proofs.TextLemmas.{TextLaws}

-- ---- an address stands at an interface

held_spot : (interfaces : List DraftInterface) (also : List (List ℕ)) (k : ℕ) (h : Held) → slice_get (held interfaces also) k ≡ Some h
    → (d : DraftInterface) × (slice_get interfaces h.interface ≡ Some d)
held_spot interfaces also k h at =
    let c = held_in (map (λ (i : DraftInterface). i.interface) interfaces) also k h at in
    let (d, there, same) = get_seen (λ (i : DraftInterface). i.interface) interfaces h.interface c.u.x.0 c.listed in
    (d, there)

-- where an address stands in the text
abbrev address_spot : List DraftInterface → Held → At
address_spot interfaces h = unwrap_or (spot_of interfaces h.interface) Text

taken_address : (interfaces : List DraftInterface) (also : List (List ℕ))
    → taken_address_in interfaces also ≡ option_map (address_spot interfaces) (first_clash have_one_address [] (held interfaces also))
taken_address interfaces also = grind (arith, cases_option, first_clashing, held_spot)

-- ---- each router has an interface

abbrev number_at : (n m r : ℕ) → slice_get (range_with_len 0 n) m ≡ Some r → (r ≡ m) × (m < n)
number_at n m r h =
    let within : m < n = omega (arith, slice_get_within (range_with_len 0 n) m r h, length-range_with_len 0 n) in
    (omega (arith, get_or_from_slice_get (range_with_len 0 n) m r 0 h, get_or-range_with_len 0 n m 0 within), within)

at_number : (n m : ℕ) → m < n → slice_get (range_with_len 0 n) m ≡ Some m
at_number n m h = slice_get-get_or (range_with_len 0 n) m 0 (omega (arith, length-range_with_len 0 n)) ∙ ap (λ (r : ℕ). Some r) (omega (arith, get_or-range_with_len 0 n m 0 h))

bare_found : (is : List DraftInterface) (k n : ℕ) → first_bare is k n ≡ find (is_bare is) (range_with_len k n)
bare_found is k zero = refl
bare_found is k (suc n) = rw (bare_found is (k + 1) n) refl

-- ---- one pass

before_more : (xs ys us vs : List ℕ) → Before xs ys → Before (xs ++ us) (ys ++ vs)
before_more (x ∷ xs) (y ∷ ys) us vs (inl h) = inl h
before_more (x ∷ xs) (y ∷ ys) us vs (inr h) = inr (h.0, before_more xs ys us vs h.1)
before_more xs ys us vs h = absurd h

-- an item that is so, and where it stands
record Stood {A : Type 0} (Is : ℕ → A → Type 0) (see : A → At) (xs : List A) (place : At) : Type 0 where
  k : ℕ
  x : A
  at : slice_get xs k ≡ Some x
  so : Is k x
  stands : see x ≡ place

-- later items stand later, or at the same place
abbrev InOrder : {A : Type 0} → (A → At) → List A → Type 0
InOrder {A} see xs = (k m : ℕ) (x y : A) → k < m → slice_get xs k ≡ Some x → slice_get xs m ≡ Some y → (see x ≡ see y) ⊎ Before (position (see x)) (position (see y))

-- what one pass finds, with its number
abbrev in_pass : ℕ → PlanCode → At → Found
in_pass n c place = record { pass = n; error = fault c place }

-- what a pass finds is its first item that is so, where no later item stands before it
pass_finds : {A : Type 0} (F : Found → Type 0) (n : ℕ) (c : PlanCode) (Is : ℕ → A → Type 0) (see : A → At) (xs : List A) (r : Option A) → FirstSo Is xs r → InOrder see xs
    → ((place : At) → Stood Is see xs place → F (in_pass n c place)) → ((place : At) → F (in_pass n c place) → Stood Is see xs place)
    → Finds F (code_rows n c) (none_found c (option_map see r))
pass_finds {A} F n c Is see xs r first ahead told clear = by_search r first
  where
    its : (o : Found) → code_rows n c o → o ≡ in_pass n c o.error.place
    its o row = grind arith

    -- no later item stands before an item
    not_before : (k m : ℕ) (x y : A) → k ≤ m → slice_get xs k ≡ Some x → slice_get xs m ≡ Some y → Before (rank n (fault c (see y))) (rank n (fault c (see x))) → ⊥
    not_before k m x y le h g before =
        let here = rank n (fault c (see x)) in
        let there = rank n (fault c (see y)) in
        grind (arith, ahead k m x y, before_not here, before_trans here there here, before_more (position (see x)) (position (see y)) (number_of_code c ∷ []) (number_of_code c ∷ []))

    by_search : (q : Option A) → FirstSo Is xs q → Finds F (code_rows n c) (none_found c (option_map see q))
    by_search None none = λ o row f. let h = clear o.error.place (subst F (its o row) f) in none h.k h.x h.at h.so
    by_search (Some x) (k, at, is, first) = (
      n,
      told (see x) (record { k = k; x = x; at = at; so = is; stands = refl }),
      (refl, refl),
      λ o row f before.
          let h = clear o.error.place (subst F (its o row) f) in
          let same : o ≡ in_pass n c (see h.x) = its o row ∙ ap (in_pass n c) (sym h.stands) in
          elim (cases_lt h.k k) [
            | inl sooner ↦ first h.k h.x sooner h.at h.so
            | inr le ↦ not_before k h.k x h.x le at h.at (subst (λ (e : Found). Before (ranked e) (ranked (in_pass n c (see x)))) same before)
          ],
    )

-- the same of an item that clashes with an earlier one, where the items stand at spots
clash_finds : {A : Type 0} (F : Found → Type 0) (n : ℕ) (c : PlanCode) (see : A → At) (xs : List A) (spots : List At) → map see xs ≡ spots
    → ((k m : ℕ) (a b : At) → k < m → slice_get spots k ≡ Some a → slice_get spots m ≡ Some b → Before (position a) (position b))
    → (clash : A → A → Bool) (Clash : ℕ → ℕ → Type 0)
    → ((j k : ℕ) (y x : A) → slice_get xs j ≡ Some y → slice_get xs k ≡ Some x → clash y x ≡ true → Clash j k)
    → ((j k : ℕ) (y x : A) → slice_get xs j ≡ Some y → slice_get xs k ≡ Some x → Clash j k → clash y x ≡ true)
    → ((place : At) → IsClash Clash spots place ↔ F (in_pass n c place))
    → Finds F (code_rows n c) (none_found c (option_map see (first_clash clash [] xs)))
clash_finds {A} F n c see xs spots stand ahead clash Clash gives takes same =
    pass_finds F n c (Clashes clash xs) see xs (first_clash clash [] xs) (first_clashing clash xs)
    (λ k m x y less h g. inr (ahead k m (see x) (see y) less (spot k x h) (spot m y g)))
    (λ place t.
    let (j, y, less, there, meets) = t.so in
    (same place).0 (j, t.k, spot t.k t.x t.at ∙ ap (λ (p : At). Some p) t.stands, less, gives j t.k y t.x there t.at meets))
    (λ place f.
    let (j, k, at, less, meet) = (same place).1 f in
    let (x, here, stands) = get_seen see xs k place (ap (λ (l : List At). slice_get l k) stand ∙ at) in
    let (y, there) = get_some xs j (omega (arith, less, slice_get_within xs k x here)) in
    record { k = k; x = x; at = here; so = (j, y, less, there, takes j k y x there here meet); stands = stands })
  where
    spot : (k : ℕ) (x : A) → slice_get xs k ≡ Some x → slice_get spots k ≡ Some (see x)
    spot k x h = ap (λ (l : List At). slice_get l k) (sym stand) ∙ see_got see xs k x h

-- ---- two places that meet

-- two seats touch a router
common : (rs ss : List ℕ) (r : ℕ) → list_any (λ s. s == r) rs ≡ true → list_any (λ s. s == r) ss ≡ true → have_common rs ss ≡ true
common rs ss r h k = grind (arith, nat_tests, any_finds, any_at)

module _ (s : Sketch) where
  on_one : (seat other : Seat) → is_same_link seat other ≡ true → (l : ℕ) × (seat ≡ seats.Link l) × (other ≡ seats.Link l)
  on_one seat other h = grind arith

  meet_gives : (j k : ℕ) (y x : DraftPlace) → slice_get s.places j ≡ Some y → slice_get s.places k ≡ Some x → do_meet (touching s.interfaces y) (touching s.interfaces x) ≡ true
      → DoMeet (network_of_sketch s) j k
  meet_gives j k y x at there h =
      let (same, meet) = and_parts (same_prefix y.prefix x.prefix) (is_same_link y.seat x.seat || have_common (touched s.interfaces y.seat) (touched s.interfaces x.seat)) h in
      let (p, place, prefix) = place_from s j y at in
      let (q, its, block) = place_from s k x there in
      let one : y.prefix ≡ x.prefix = same_is y.prefix x.prefix same in
      let prefixes = (network_of_sketch s).prefixes in
      let once : IsDistinct same_prefix prefixes = subst (IsDistinct same_prefix) (sym (numbered_once s.places)) (once_distinct (map (λ d. d.prefix) s.places)) in
      let number : q ≡ p = distinct_at same_prefix prefixes q p x.prefix y.prefix once block prefix (same_from x.prefix y.prefix (sym one)) (same_from y.prefix x.prefix one) in
      let here : IsPlace (network_of_sketch s) k p x.seat = subst (λ (m : ℕ). IsPlace (network_of_sketch s) k m x.seat) number its in
      elim (or_cases (is_same_link y.seat x.seat) (have_common (touched s.interfaces y.seat) (touched s.interfaces x.seat)) meet) [
        | inl link ↦
            let (l, one_seat, other_seat) = on_one y.seat x.seat link in
            (p, inl (l, subst (IsPlace (network_of_sketch s) j p) one_seat place, subst (IsPlace (network_of_sketch s) k p) other_seat here))
        | inr shared ↦
            let (n, r, listed, test) = any_finds (λ m. list_any (λ t. t == m) (touched s.interfaces y.seat)) (touched s.interfaces x.seat) shared in
            let (c, one_touch) = touches s j p r y.seat place test in
            let (d, other_touch) = touches s k p r x.seat here (any_at (λ m. m == r) (touched s.interfaces x.seat) n r listed (grind (arith, nat_tests))) in
            (p, inr (r, c, d, one_touch, other_touch))
      ]

  met : (j k p : ℕ) (seat other : Seat) (y x : DraftPlace) → slice_get s.places j ≡ Some y → slice_get s.places k ≡ Some x → IsPlace (network_of_sketch s) j p seat
      → IsPlace (network_of_sketch s) k p other
      → (is_same_link seat other || have_common (touched s.interfaces seat) (touched s.interfaces other)) ≡ true → do_meet (touching s.interfaces y) (touching s.interfaces x) ≡ true
  met j k p seat other y x at there h h' meet =
      let (d, its, prefix, same) = place_in s j p seat h in
      let (e, theirs, block, is) = place_in s k p other h' in
      grind (arith, same_from y.prefix x.prefix)

  meet_takes : (j k : ℕ) (y x : DraftPlace) → slice_get s.places j ≡ Some y → slice_get s.places k ≡ Some x → DoMeet (network_of_sketch s) j k
      → do_meet (touching s.interfaces y) (touching s.interfaces x) ≡ true
  meet_takes j k y x at there (p, inl (l, h, h')) =
      met j k p (seats.Link l) (seats.Link l) y x at there h h' (grind (arith, nat_tests))
  meet_takes j k y x at there (p, inr (r, c, d, h, h')) =
      let (seat, place, here) = touch s j p r c h in
      let (other, its, also) = touch s k p r d h' in
      met j k p seat other y x at there place its (or_right (is_same_link seat other) _ (common (touched s.interfaces seat) (touched s.interfaces other) r here also))

  twice_gives : (j k : ℕ) (y x : DraftInterface) → slice_get s.interfaces j ≡ Some y → slice_get s.interfaces k ≡ Some x → are_twice y x ≡ true → AreTwice (network_of_sketch s) j k
  twice_gives j k y x at there h =
      let its = interface_as s k x y.interface.router y.interface.link there (grind (arith, nat_tests)) (grind (arith, nat_tests)) in
      (y.interface.router, y.interface.link, y.interface.cost, x.interface.cost, interface_as s j y y.interface.router y.interface.link at refl refl, its)

  twice_takes : (j k : ℕ) (y x : DraftInterface) → slice_get s.interfaces j ≡ Some y → slice_get s.interfaces k ≡ Some x → AreTwice (network_of_sketch s) j k → are_twice y x ≡ true
  twice_takes j k y x at there (r, l, c, d, h, h') =
      let (y', its, router, link) = as_interface s j r l c h in
      let (x', theirs, other, same) = as_interface s k r l d h' in
      rw (← same_Some y' y (sym its ∙ at), ← same_Some x' x (sym theirs ∙ there)) (grind (arith, nat_tests))

  -- two addresses that are one, on one link
  address_gives : (j k : ℕ) (y x : Held) → j < k → slice_get (held s.interfaces s.also) j ≡ Some y → slice_get (held s.interfaces s.also) k ≡ Some x → have_one_address y x ≡ true
      → ((i : ℕ) × (i < x.interface) × HaveOneAddress (network_of_sketch s) i x.interface) ⊎ HasOneTwice (network_of_sketch s) x.interface
  address_gives j k y x less at there h =
      let link : y.link ≡ x.link = grind (arith, nat_tests) in
      let address : y.address ≡ x.address = grind (arith, nat_tests) in
      let n = network_of_sketch s in
      elim (held_order n j k y x less at there) [
        | inl ahead ↦
            let same : y ≡ record { interface = y.interface; link = x.link; address = x.address } = rw (← link, ← address) refl in
            inl (y.interface, ahead, (x.link, x.address, held_address n y.interface x.link x.address j (at ∙ ap (λ (h : Held). Some h) same), held_address n x.interface x.link x.address k there))
        | inr one ↦ inr (x.link, one.addresses, one.has, (one.j, one.k, x.address, one.less, one.before ∙ ap (λ (a : ℕ). Some a) address, one.after))
      ]

  -- an address that an earlier one is, on the link of the interface
  abbrev IsTaken : ℕ → Type 0
  IsTaken i = (k : ℕ) × (x : Held) × (slice_get (held s.interfaces s.also) k ≡ Some x) × Clashes have_one_address (held s.interfaces s.also) k x × (x.interface ≡ i)

  taken_of : (i l a j k m : ℕ) → j < k → slice_get (held s.interfaces s.also) j ≡ Some (record { interface = m; link = l; address = a })
      → slice_get (held s.interfaces s.also) k ≡ Some (record { interface = i; link = l; address = a }) → IsTaken i
  taken_of i l a j k m less there at = grind arith

  address_takes : (m i : ℕ) → m < i → HaveOneAddress (network_of_sketch s) m i → IsTaken i
  address_takes m i ahead (l, a, h, g) =
      let n = network_of_sketch s in
      let (j, there) = address_held n m l a h in
      let (k, at) = address_held n i l a g in
      let one : Held = record { interface = m; link = l; address = a } in
      let two : Held = record { interface = i; link = l; address = a } in
      grind (arith, taken_of i l a j k m, held_order n k j two one)

  twice_taken : (i : ℕ) → HasOneTwice (network_of_sketch s) i → IsTaken i
  twice_taken i (l, addresses, has, (j, k, a, less, one, two)) =
      let n = network_of_sketch s in
      taken_of i l a (first_held n i + j) (first_held n i + k) i (omega arith) (held_at n i l addresses has j a one) (held_at n i l addresses has k a two)

  -- an own prefix whose router is not on its link
  astray_own : (seat : Seat) → is_astray s.interfaces seat ≡ true → (own : OwnPrefix) × (l : ℕ) × (seat ≡ seats.Own own) × (own.link ≡ Some l) × (is_there s.interfaces own.router l ≡ false)
  astray_own seat h = grind arith

  astray_gives : (k : ℕ) (d : DraftPlace) → slice_get s.places k ≡ Some d → is_astray s.interfaces d.seat ≡ true → IsAstray (network_of_sketch s) k
  astray_gives k d at h =
      let (p, place, prefix) = place_from s k d at in
      let (own, l, seat, is, off) = astray_own d.seat h in
      let its : IsAttachedAt (network_of_sketch s) k p own.router l = record { own = own; place = subst (IsPlace (network_of_sketch s) k p) seat place; router = refl; says = is } in
      (p, own.router, l, its, λ on. both_ways (is_there s.interfaces own.router l) off (on_there s own.router l on))

  astray_takes : (k : ℕ) → IsAstray (network_of_sketch s) k → (d : DraftPlace) × (slice_get s.places k ≡ Some d) × (is_astray s.interfaces d.seat ≡ true)
  astray_takes k (p, r, l, h, none) =
      let (d, at, prefix, same) = place_in s k p (seats.Own h.own) h.place in
      let off : is_there s.interfaces r l ≡ false = false_from_ne_true (is_there s.interfaces r l) (λ there. none (there_on s r l there)) in
      (d, at, ap (is_astray s.interfaces) (sym same) ∙ rw (h.says, h.router, off) refl)

  -- an own prefix whose gateway is a neighbour's address
  gateway_own : (seat : Seat) → has_neighbours_gateway s.interfaces (held s.interfaces s.also) seat ≡ true
      → (own : OwnPrefix) × (a : ℕ) × (seat ≡ seats.Own own) × (own.via ≡ Some a) × (list_any (is_neighbours s.interfaces own.router a) (held s.interfaces s.also) ≡ true)
  gateway_own seat h = grind arith

  gateway_gives : (k : ℕ) (d : DraftPlace) → slice_get s.places k ≡ Some d → has_neighbours_gateway s.interfaces (held s.interfaces s.also) d.seat ≡ true → IsGatewayOfNeighbour (network_of_sketch s) k
  gateway_gives k d at h =
      let n = network_of_sketch s in
      let (p, place, prefix) = place_from s k d at in
      let (own, a, seat, via, some) = gateway_own d.seat h in
      let (m, x, there, test) = any_finds (is_neighbours s.interfaces own.router a) (held s.interfaces s.also) some in
      let (same, rest) = and_parts (x.address == a) _ test in
      let (other, here) = and_parts _ (is_there s.interfaces own.router x.link) rest in
      let has : HasAddress n x.interface x.link x.address = held_address n x.interface x.link x.address m there in
      let (draft, its, is) = interface_in s x.interface has.1.interface has.1.listed in
      record {
        prefix = p;
        router = own.router;
        gateway = a;
        own = record { own = own; place = subst (IsPlace n k p) seat place; router = refl; says = via };
        link = x.link;
        here = there_on s own.router x.link here;
        neighbour = draft.interface.router;
        other = grind (arith, nat_tests);
        interface = x.interface;
        cost = draft.interface.cost;
        there = interface_as s x.interface draft draft.interface.router x.link its refl (ap (λ (i : Interface). i.link) is ∙ has.1.link);
        has = subst (HasAddress n x.interface x.link) (eqb-true x.address a same) has;
      }

  gateway_takes : (k : ℕ) → IsGatewayOfNeighbour (network_of_sketch s) k
      → (d : DraftPlace) × (slice_get s.places k ≡ Some d) × (has_neighbours_gateway s.interfaces (held s.interfaces s.also) d.seat ≡ true)
  gateway_takes k g =
      let n = network_of_sketch s in
      let (d, at, prefix, same) = place_in s k g.prefix (seats.Own g.own.own) g.own.place in
      let (m, there) = address_held n g.interface g.link g.gateway g.has in
      let (x, its, router, link) = as_interface s g.interface g.neighbour g.link g.cost g.there in
      let here = on_there s g.router g.link g.here in
      let taken : is_neighbours s.interfaces g.router g.gateway (record { interface = g.interface; link = g.link; address = g.gateway }) ≡ true = grind (arith, nat_tests, g.other) in
      let some = any_at (is_neighbours s.interfaces g.router g.gateway) (held s.interfaces s.also) m _ there taken in
      (d, at, ap (has_neighbours_gateway s.interfaces (held s.interfaces s.also)) (sym same) ∙ rw (g.own.says, g.own.router) some)

  bare_gives : (k : ℕ) → is_bare s.interfaces k ≡ true → (i l c : ℕ) → IsInterface (network_of_sketch s) i k l c → ⊥
  bare_gives k h i l c is =
      let (x, at, router, link) = as_interface s i k l c is in
      grind (arith, nat_tests, any_at (λ (y : DraftInterface). y.interface.router == k) s.interfaces i x at)

  bare_takes : (k : ℕ) → is_bare s.interfaces k ≡ false → ((i l c : ℕ) → IsInterface (network_of_sketch s) i k l c → ⊥) → ⊥
  bare_takes k h none =
      let (i, x, at, test) = any_finds (λ (y : DraftInterface). y.interface.router == k) s.interfaces (not-false (list_any (λ (y : DraftInterface). y.interface.router == k) s.interfaces) h) in
      none i x.interface.link x.interface.cost (interface_as s i x k x.interface.link at (eqb-true x.interface.router k test) refl)

-- ---- all later passes

module _ (laws : TextLaws) (document : Members) (links routers : List Data) (s : Sketch) (plan : PlanOf document (network_of_sketch s)) (placed : place_ats s.places ≡ place_spots links routers)
    (listed : interface_ats s.interfaces ≡ interface_spots routers) (spots : place_spots plan.links plan.routers ≡ place_spots links routers) where
  place_at : (k : ℕ) (d : DraftPlace) → slice_get s.places k ≡ Some d → slice_get (place_spots links routers) k ≡ Some d.at
  place_at k d h = ap (λ (l : List At). slice_get l k) (sym placed) ∙ see_got (λ (p : DraftPlace). p.at) s.places k d h

  interface_at : (k : ℕ) (d : DraftInterface) → slice_get s.interfaces k ≡ Some d → slice_get (interface_spots routers) k ≡ Some d.at
  interface_at k d h = ap (λ (l : List At). slice_get l k) (sym listed) ∙ see_got (λ (i : DraftInterface). i.at) s.interfaces k d h

  at_place : (k : ℕ) (a : At) → slice_get (place_spots links routers) k ≡ Some a → (d : DraftPlace) × (slice_get s.places k ≡ Some d) × (d.at ≡ a)
  at_place k a h = get_seen (λ (p : DraftPlace). p.at) s.places k a (ap (λ (l : List At). slice_get l k) placed ∙ h)

  -- what is so in the plan is so in a network that is the plan
  in_plan : (P : Network → Type 0) → P (network_of_sketch s) ↔ ((n : Network) × PlanOf document n × P n)
  in_plan P = (λ h. (network_of_sketch s, plan, h), λ (n, its, h). subst P (one_plan laws document n (network_of_sketch s) its plan) h)

  -- prefixes
  duplicate_same : (place : At) → IsClash (DoMeet (network_of_sketch s)) (place_spots links routers) place ↔ TableFault document links routers codes.DuplicatePrefix place
  duplicate_same (LinkPrefix i j) = in_plan (λ n. IsClash (DoMeet n) (place_spots links routers) (LinkPrefix i j))
  duplicate_same (RouterOwn r j) = in_plan (λ n. IsClash (DoMeet n) (place_spots links routers) (RouterOwn r j))
  duplicate_same place = (λ c. elim (place_spot links routers c.1 place c.2) [ inl t ↦ let is = t.is in absurd cc | inr t ↦ let is = t.is in absurd cc ], λ f. absurd f)

  duplicates_find : Finds (IsTold document links routers) (code_rows 1 codes.DuplicatePrefix) (none_found codes.DuplicatePrefix (duplicate_in s.interfaces s.places))
  duplicates_find =
      rw (← meeting_seen s.interfaces s.places)
      (clash_finds (IsTold document links routers) 1 codes.DuplicatePrefix (λ (p : DraftPlace). p.at) s.places (place_spots links routers) placed (place_ahead links routers)
      (λ p q. do_meet (touching s.interfaces p) (touching s.interfaces q)) (DoMeet (network_of_sketch s)) (meet_gives s) (meet_takes s) duplicate_same)

  -- interfaces
  twice_same : (place : At) → IsClash (AreTwice (network_of_sketch s)) (interface_spots routers) place ↔ TableFault document links routers codes.TwiceOnLink place
  twice_same (RouterInterface r j) = in_plan (λ n. IsClash (AreTwice n) (interface_spots routers) (RouterInterface r j))
  twice_same place = (λ c. let is = (interface_spot routers c.1 place c.2).is in absurd cc, λ f. absurd f)

  twice_find : Finds (IsTold document links routers) (code_rows 2 codes.TwiceOnLink) (none_found codes.TwiceOnLink (twice_in s.interfaces))
  twice_find =
      clash_finds (IsTold document links routers) 2 codes.TwiceOnLink (λ (i : DraftInterface). i.at) s.interfaces (interface_spots routers) listed (interface_ahead routers) are_twice
      (AreTwice (network_of_sketch s)) (twice_gives s) (twice_takes s) twice_same

  -- addresses
  abbrev IsAddressClash : Network → At → Type 0
  IsAddressClash n place = IsClash (HaveOneAddress n) (interface_spots routers) place ⊎ IsSo (HasOneTwice n) (interface_spots routers) place

  address_same : (place : At) → IsAddressClash (network_of_sketch s) place ↔ TableFault document links routers codes.DuplicateAddress place
  address_same (RouterInterface r j) = in_plan (λ n. IsAddressClash n (RouterInterface r j))
  address_same place = (
    λ c. elim c [
      | inl (j, k, at, less, one) ↦ let is = (interface_spot routers k place at).is in absurd cc
      | inr (k, at, twice) ↦ let is = (interface_spot routers k place at).is in absurd cc
    ],
    λ f. absurd f,
  )

  -- where an address stands
  address_at : (k : ℕ) (h : Held) → slice_get (held s.interfaces s.also) k ≡ Some h → (d : DraftInterface) × (slice_get s.interfaces h.interface ≡ Some d) × (address_spot s.interfaces h ≡ d.at)
  address_at k h at = let (d, there) = held_spot s.interfaces s.also k h at in (d, there, rw there refl)

  addresses_ahead : InOrder (address_spot s.interfaces) (held s.interfaces s.also)
  addresses_ahead k m x y less h g =
      let (a, at, one) = address_at k x h in
      let (b, there, two) = address_at m y g in
      elim (held_order (network_of_sketch s) k m x y less h g) [
        | inl ahead ↦ inr (rw (one, two) (interface_ahead routers x.interface y.interface a.at b.at ahead (interface_at x.interface a at) (interface_at y.interface b there)))
        | inr same ↦ inl (ap (λ (i : ℕ). unwrap_or (spot_of s.interfaces i) Text) same.one)
      ]

  addresses_find : Finds (IsTold document links routers) (code_rows 3 codes.DuplicateAddress) (none_found codes.DuplicateAddress (taken_address_in s.interfaces s.also))
  addresses_find =
      let items : List Held = held s.interfaces s.also in
      rw (taken_address s.interfaces s.also)
      (pass_finds (IsTold document links routers) 3 codes.DuplicateAddress (Clashes have_one_address items) (address_spot s.interfaces) items (first_clash have_one_address [] items)
      (first_clashing have_one_address items)
      addresses_ahead
      (λ place c.
      let (j, y, less, there, meets) = c.so in
      let (d, at, seen) = address_at c.k c.x c.at in
      let spot : slice_get (interface_spots routers) c.x.interface ≡ Some place = interface_at c.x.interface d at ∙ ap (λ (p : At). Some p) (sym seen ∙ c.stands) in
      (address_same place).0 (elim (address_gives s j c.k y c.x less there c.at meets) [
        | inl (i, ahead, one) ↦ inl (i, c.x.interface, spot, ahead, one)
        | inr twice ↦ inr (c.x.interface, spot, twice)
      ]))
      (λ place f.
      elim ((address_same place).1 f) [
        | inl (m, i, spot, less, one) ↦ taken_at place i spot (address_takes s m i less one)
        | inr (i, spot, twice) ↦ taken_at place i spot (twice_taken s i twice)
      ]))
    where
      taken_at : (place : At) (i : ℕ) → slice_get (interface_spots routers) i ≡ Some place → IsTaken s i
          → Stood (Clashes have_one_address (held s.interfaces s.also)) (address_spot s.interfaces) (held s.interfaces s.also) place
      taken_at place i spot (k, x, at, clashes, number) =
          let (d, there, seen) = address_at k x at in
          let (e, its, stands) = get_seen (λ (y : DraftInterface). y.at) s.interfaces i place (ap (λ (l : List At). slice_get l i) listed ∙ spot) in
          let same : d ≡ e = same_Some d e (sym there ∙ ap (slice_get s.interfaces) number ∙ its) in
          record { k = k; x = x; at = at; so = clashes; stands = seen ∙ ap (λ (y : DraftInterface). y.at) same ∙ stands }

  -- own prefixes
  own_spot : (place : At) (k p : ℕ) (own : OwnPrefix) → IsPlace (network_of_sketch s) k p (seats.Own own) → slice_get (place_spots links routers) k ≡ Some place → (r j : ℕ) × (place ≡ RouterOwn r j)
  own_spot place k p own its at =
      let t = own_table document (network_of_sketch s) plan k p own its in
      (1 + t.r, suc t.j, same_Some place (RouterOwn (1 + t.r) (suc t.j)) (sym at ∙ ap (λ (l : List At). slice_get l k) (sym spots) ∙ t.spot))

  astray_same : (place : At) → IsSo (IsAstray (network_of_sketch s)) (place_spots links routers) place ↔ IsAstrayAt document links routers place
  astray_same (RouterOwn r j) = in_plan (λ n. IsSo (IsAstray n) (place_spots links routers) (RouterOwn r j))
  astray_same place = (λ (k, at, (p, r, l, h, none)). absurd (let is = (own_spot place k p h.own h.place at).2 in cc), λ f. absurd f)

  -- what one pass over the own prefixes finds
  owns_find : (F : Found → Type 0) (n : ℕ) (c : PlanCode) (test : DraftPlace → Bool) (Is : ℕ → Type 0)
      → ((k : ℕ) (d : DraftPlace) → slice_get s.places k ≡ Some d → test d ≡ true → Is k)
      → ((k : ℕ) → Is k → (d : DraftPlace) × (slice_get s.places k ≡ Some d) × (test d ≡ true))
      → ((place : At) → IsSo Is (place_spots links routers) place ↔ F (in_pass n c place))
      → Finds F (code_rows n c) (none_found c (option_map (λ (p : DraftPlace). p.at) (find test s.places)))
  owns_find F n c test Is gives takes same =
      pass_finds F n c (Passes test) (λ (p : DraftPlace). p.at) s.places (find test s.places) (first_passing test s.places)
      (λ k m x y less h g. inr (place_ahead links routers k m x.at y.at less (place_at k x h) (place_at m y g)))
      (λ place stood. (same place).0 (stood.k, place_at stood.k stood.x stood.at ∙ ap (λ (p : At). Some p) stood.stands, gives stood.k stood.x stood.at stood.so))
      (λ place f.
      let (k, spot, its) = (same place).1 f in
      let (d, at, stands) = at_place k place spot in
      let (e, there, passes) = takes k its in
      let one : e ≡ d = same_Some e d (sym there ∙ at) in
      record { k = k; x = d; at = at; so = ap test (sym one) ∙ passes; stands = stands })

  gateway_same : (place : At) → IsSo (IsGatewayOfNeighbour (network_of_sketch s)) (place_spots links routers) place ↔ IsGatewayTakenAt document links routers place
  gateway_same (RouterOwn r j) = in_plan (λ n. IsSo (IsGatewayOfNeighbour n) (place_spots links routers) (RouterOwn r j))
  gateway_same place = (λ (k, at, g). absurd (let is = (own_spot place k g.prefix g.own.own g.own.place at).2 in cc), λ f. absurd f)

  gateways_find : Finds (IsOfTables document links routers) (code_rows 4 codes.DuplicateAddress) (none_found codes.DuplicateAddress (neighbours_gateway_in s.interfaces s.also s.places))
  gateways_find =
      owns_find (IsOfTables document links routers) 4 codes.DuplicateAddress (λ (p : DraftPlace). has_neighbours_gateway s.interfaces (held s.interfaces s.also) p.seat)
      (IsGatewayOfNeighbour (network_of_sketch s)) (gateway_gives s) (gateway_takes s)
      (λ place. (λ so. inr (inl ((gateway_same place).0 so, refl, refl)), λ f. (gateway_same place).1 (taken_of_tables place f)))
    where
      taken_of_tables : (place : At) → IsOfTables document links routers (in_pass 4 codes.DuplicateAddress place) → IsGatewayTakenAt document links routers place
      taken_of_tables place f = grind arith

  astrays_find : Finds (IsOfTables document links routers) (code_rows 6 codes.UnknownLink) (none_found codes.UnknownLink (astray_in s.interfaces s.places))
  astrays_find =
      owns_find (IsOfTables document links routers) 6 codes.UnknownLink (λ (p : DraftPlace). is_astray s.interfaces p.seat)
      (IsAstray (network_of_sketch s)) (astray_gives s) (astray_takes s)
      (λ place. (λ so. inr (inr ((astray_same place).0 so, refl, refl)), λ f. (astray_same place).1 (astray_of_tables place f)))
    where
      astray_of_tables : (place : At) → IsOfTables document links routers (in_pass 6 codes.UnknownLink place) → IsAstrayAt document links routers place
      astray_of_tables place f = grind arith

  -- routers
  bare_clear : (place : At) → TableFault document links routers codes.NoInterface place → (r : ℕ) × (place ≡ Router r) × IsBare (network_of_sketch s) r
  bare_clear (Router r) f = (r, refl, (in_plan (λ n. IsBare n r)).1 f)
  bare_clear place f = absurd f

  bare_finds : Finds (IsTold document links routers) (code_rows 5 codes.NoInterface) (none_found codes.NoInterface (bare_in s.interfaces (length s.routers)))
  bare_finds =
      let test = is_bare s.interfaces in
      let numbers : List ℕ = range_with_len 0 (length s.routers) in
      rw (bare_found s.interfaces 0 (length s.routers))
      (pass_finds (IsTold document links routers) 5 codes.NoInterface (Passes test) (λ (r : ℕ). Router (r + 1)) numbers (find test numbers) (first_passing test numbers)
      (λ k m x y less h g. inr (inr (refl, inl (omega (arith, (number_at (length s.routers) k x h).0, (number_at (length s.routers) m y g).0)))))
      (λ place t.
      let (number, within) = number_at (length s.routers) t.k t.x t.at in
      subst (TableFault document links routers codes.NoInterface) t.stands (network_of_sketch s, plan, (t.x, refl, omega arith, bare_gives s t.x t.so)))
      (λ place f.
      let (r, is, (k, number, within, none)) = bare_clear place f in
      let bare = true_from_ne_false (test k) (λ off. bare_takes s k off none) in
      record { k = k; x = k; at = at_number (length s.routers) k within; so = bare; stands = ap Router (sym number) ∙ sym is }))

  -- one pass, and then those after it
  then_passes : {A B : Type 0} (n : ℕ) (c : PlanCode) (passes : List (ℕ × PlanCode)) (r : Result A PlanError) (f : A → Result B PlanError) → ((o : Found) → later_rows passes o → n < o.pass)
      → Finds (IsOfTables document links routers) (code_rows n c) r → ((x : A) → Finds (IsOfTables document links routers) (later_rows passes) (f x))
      → Finds (IsOfTables document links routers) (later_rows ((n, c) ∷ passes)) (r >>= f)
  then_passes n c passes r f later h rest =
      bind_finds (IsOfTables document links routers) (code_rows n c) (later_rows passes) r f (λ e o row next. pass_apart e o (omega (arith, row.0, later o next))) h (λ x is. rest x)

  -- what a pass finds that is the one of its code
  told : {A : Type 0} (c : PlanCode) (r : Result A PlanError) → Finds (IsTold document links routers) (code_rows (pass_of c) c) r → Finds (IsOfTables document links routers) (code_rows (pass_of c) c) r
  told c r h = told_finds document links routers (code_rows (pass_of c) c) r (λ o row. row.0 ∙ ap pass_of (sym row.1)) h

  -- two passes as one
  then_both : {A B C : Type 0} (F R : Found → Type 0) (r : Result A PlanError) (f : A → Result B PlanError) (h : B → Result C PlanError) → Finds F R (r >>= (λ x. f x >>= h)) → Finds F R (r >>= f >>= h)
  then_both F R (Ok x) f h finds = finds
  then_both F R (Err e) f h finds = finds

  pub passes_find : Finds (IsOfTables document links routers) pass_rows (second_passes s)
  unfolding second_passes
  passes_find =
      then_passes 1 codes.DuplicatePrefix ((2, codes.TwiceOnLink) ∷ (3, codes.DuplicateAddress) ∷ (4, codes.DuplicateAddress) ∷ (5, codes.NoInterface) ∷ []) _ _ (λ o next. grind arith)
      (told codes.DuplicatePrefix _ duplicates_find) (λ a.
      then_passes 2 codes.TwiceOnLink ((3, codes.DuplicateAddress) ∷ (4, codes.DuplicateAddress) ∷ (5, codes.NoInterface) ∷ []) _ _ (λ o next. grind arith) (told codes.TwiceOnLink _ twice_find) (λ b.
      then_both (IsOfTables document links routers) (later_rows ((3, codes.DuplicateAddress) ∷ (4, codes.DuplicateAddress) ∷ (5, codes.NoInterface) ∷ []))
      (none_found codes.DuplicateAddress (taken_address_in s.interfaces s.also)) (λ _. none_found codes.DuplicateAddress (neighbours_gateway_in s.interfaces s.also s.places))
      (λ _. none_found codes.NoInterface (bare_in s.interfaces (length s.routers)) >>= (λ _. none_found codes.UnknownLink (astray_in s.interfaces s.places)))
      (then_passes 3 codes.DuplicateAddress ((4, codes.DuplicateAddress) ∷ (5, codes.NoInterface) ∷ []) _ _ (λ o next. grind arith) (told codes.DuplicateAddress _ addresses_find) (λ c.
      then_passes 4 codes.DuplicateAddress ((5, codes.NoInterface) ∷ []) _ _ (λ o next. grind arith) gateways_find (λ d.
      then_passes 5 codes.NoInterface [] _ _ (λ o next. grind arith) (told codes.NoInterface _ bare_finds) (λ e. astrays_find))))))
