-- What each item of a document is in its plan, and what each part of the plan is in the document.
use Rattle.std.proofs.Common.{◌≡◌, ℕ, zero, suc, ◌+◌, inl, inr, List, [], ◌∷◌, ◌++◌, map, length, length-append, sum, ◌<◌, Some, refl, sym, ◌∙◌, ap, subst, arith, Option, None}
use Rattle.std.specs.Prelude.{slice_get, codes as codes_of}
use Rattle.std.specs.List.{sum_by}
use Rattle.std.proofs.lemmas.List.Sums.{sum-map, sum_by-cons}
use Rattle.std.proofs.lemmas.Option.{none-some}
use Rattle.std.proofs.lemmas.Bool.{cases_lt}
use Rattle.toml.specs.Data.{Data, Members, get, string}
use Rattle.rip_wire.specs.Prefix.{Block, ContainsAddress}
use Rattle.rip_plan.specs.declared.error.At.TheVariants.{LinkPrefix, RouterInterface, RouterOwn}
use Rattle.rip_plan.specs.declared.parts.Interface.{Interface}
use Rattle.rip_plan.specs.declared.parts.OwnPrefix.{OwnPrefix}
use Rattle.rip_plan.specs.declared.parts.Seat.TheVariants as seats
use Rattle.rip_plan.specs.Network.{Network}
use Rattle.rip_plan.specs.PlanFaults.{HasPrefix, IsItem, IsNamedAgain, IsOutside, NamesNoLink, also_spots, interface_spots, listed_spots, nth, place_spots, spots_under}
use Rattle.rip_plan.specs.PlanOf.{AreAlsoOf, HasText, IsLinkOf, IsAddressOf, IsInterfaceOf, IsNameOf, IsOnLink, IsOwned, IsPlaceOf, Matched, Placement, PlanOf, items_in, items_under}
use Rattle.rip_plan.specs.Relations.{Carries, IsPlace, IsPrefix}
use Rattle.rip_plan.specs.Texts.{IsAddressText, IsPrefixText}
use Rattle.rip_plan.proofs.FlatLemmas.{count_ahead, in_flat}
use Rattle.rip_plan.proofs.SpotLemmas.{also_count, also_in, also_items, also_under, items_flat, numbered_items, spots_count, under_item, with_number}
use Rattle.rip_plan.proofs.ItemLemmas.{get_split, see_got, get_past}
use Rattle.rip_plan.proofs.MatchingLemmas.{matched_left, matched_length, matched_right}
use Rattle.rip_plan.proofs.OnePlanLemmas.{text_same}
use Rattle.rip_plan.proofs.TextLemmas.{TextLaws, one_address}

-- ---- items of the document

-- where an item of a table stands in the lists at a key
pub record StandsUnder (key : List ℕ) (ds : List Data) (i : ℕ) (x : Data) : Type 0 where
  pub k : ℕ
  pub m : ℕ
  pub number : i ≡ suc m
  pub at : slice_get (items_under key 0 ds) k ≡ Some (m, x)

pub item_under : (key : List ℕ) (ds : List Data) (i j : ℕ) (x : Data) → IsItem key ds i j x → StandsUnder key ds i x
item_under key ds zero j x (d, is, item) = absurd (none-some d is)
item_under key ds (suc m) zero x (d, is, item) = absurd (none-some x item)
item_under key ds (suc m) (suc j) x (d, is, item) =
    let there = see_got (with_number (0 + m)) (items_in (get key d)) j x item in
    let at = in_flat (numbered_items key) 0 ds (items_under key 0 ds) (items_flat key 0 ds) m j d (0 + m, x) is there _ refl in
    record { k = count_ahead (numbered_items key) 0 ds m + j; m = m; number = refl; at = grind arith }

-- ---- further addresses

-- how many further addresses these items have
abbrev pub also_at : List (ℕ × Data) → ℕ
also_at [] = 0
also_at (x ∷ xs) = length (also_items x.1) + also_at xs

pub also_sum : (also : List (List ℕ)) (xs : List (ℕ × Data)) → Matched AreAlsoOf also xs → sum_by length also ≡ also_at xs
also_sum [] [] m = refl
also_sum (a ∷ also) (x ∷ xs) m = omega (arith, sum_by-cons length a also, also_sum also xs m.1, matched_length IsAddressOf a (also_items x.1) m.0)
also_sum also xs m = absurd m

also_append : (xs ys : List (ℕ × Data)) → also_at (xs ++ ys) ≡ also_at xs + also_at ys
also_append [] ys = omega arith
also_append (x ∷ xs) ys = omega (arith, also_append xs ys)

pub also_numbered : (n : ℕ) (ds : List Data) → also_at (map (with_number n) ds) ≡ also_in ds
also_numbered n [] = refl
also_numbered n (d ∷ ds) = omega (arith, also_numbered n ds)

pub also_flat : (n : ℕ) (ds : List Data) → also_at (items_under (codes_of "interface") n ds) ≡ also_under ds
also_flat n [] = refl
also_flat n (d ∷ ds) = grind (arith, also_append, also_numbered, also_flat (n + 1) ds)

-- ---- names

pub names_good : (names : List (List ℕ)) (ds : List Data) → Matched IsNameOf names ds → (i k : ℕ) (name : List ℕ) (d : Data) → i ≡ suc k → nth ds i ≡ Some d → IsNameOf name d
    → slice_get names k ≡ Some name
names_good names ds named (suc i) k name d number at its = grind (arith, matched_right)
names_good names ds named zero k name d number at its = absurd (omega arith)

pub apart : (i j : ℕ) → (i < j → ⊥) → (j < i → ⊥) → i ≡ j
apart i j h k = elim (cases_lt i j) [ inl less ↦ absurd (h less) | inr ge ↦ elim (cases_lt j i) [ inl more ↦ absurd (k more) | inr le ↦ omega arith ] ]

pub names_differ : (names : List (List ℕ)) (ds : List Data) → Matched IsNameOf names ds → ((i : ℕ) → IsNamedAgain ds i → ⊥) → (l m : ℕ) (name : List ℕ) → slice_get names l ≡ Some name
    → slice_get names m ≡ Some name → l ≡ m
names_differ names ds named none l m name h k =
    let (d, at, its) = matched_left IsNameOf names ds l name named h in
    let (e, there, theirs) = matched_left IsNameOf names ds m name named k in
    apart l m (λ less. none (suc m) (e, d, suc l, name, there, theirs, omega arith, at, its)) (λ more. none (suc l) (d, e, suc m, name, at, its, omega arith, there, theirs))

-- a link of the list has the name
pub known_not : (names : List (List ℕ)) (ds : List Data) → Matched IsNameOf names ds → (x : Data) (name : List ℕ) (l : ℕ) → HasText (codes_of "link") x name → slice_get names l ≡ Some name
    → NamesNoLink ds x → ⊥
known_not names ds named x name l has known (other, its, none) = grind (arith, matched_left)

pub attached_not : (names : List (List ℕ)) (ds : List Data) → Matched IsNameOf names ds → (x : Data) (link : Option ℕ) → IsLinkOf names x link → NamesNoLink ds x → ⊥
attached_not names ds named x None is (name, has, none) = none-some (string name) (sym is ∙ has)
attached_not names ds named x (Some l) (name, has, known) bad = known_not names ds named x name l has known.0 bad

-- a prefix of the link contains the address, if the link has prefixes
pub inside_not : (laws : TextLaws) (names : List (List ℕ)) (ds : List Data) → Matched IsNameOf names ds
    → ((l m : ℕ) (name : List ℕ) → slice_get names l ≡ Some name → slice_get names m ≡ Some name → l ≡ m)
    → (x : Data) (name text : List ℕ) (l a : ℕ) → HasText (codes_of "link") x name → slice_get names l ≡ Some name → HasText (codes_of "address") x text → IsAddressText text a
    → ((p : Block) → HasPrefix ds l p → (q : Block) × HasPrefix ds l q × ContainsAddress q a) → IsOutside ds x → ⊥
inside_not laws names ds named differ x name text l a has known has_text spelled within o =
    let same : name ≡ o.name = text_same (codes_of "link") x name o.name has o.has_link in
    let number : l ≡ o.link =
    differ l o.link o.name (known ∙ ap (λ (t : List ℕ). Some t) same) (names_good names ds named (suc o.link) o.link o.name o.link_table refl o.listed o.named) in
    let address : a ≡ o.address = one_address laws text o.text a o.address (text_same (codes_of "address") x text o.text has_text o.has_address) spelled o.spelled in
    let (q, its, holds) = within o.some.0 (subst (λ (i : ℕ). HasPrefix ds i o.some.0) (sym number) o.some.1) in
    o.none q (subst (λ (i : ℕ). HasPrefix ds i q) number its) (subst (ContainsAddress q) address holds)

-- ---- places

-- a prefix on a link stands in the link's list
pub link_prefix : (links routers : List Data) (names : List (List ℕ)) (on_links owned : List Placement)
    → Matched IsOnLink on_links (items_under (codes_of "prefixes") 0 links) → Matched (IsOwned names) owned (items_under (codes_of "own") 0 routers)
    → (l k : ℕ) (q : Placement) → slice_get (on_links ++ owned) k ≡ Some q → q.seat ≡ seats.Link l → HasPrefix links l q.prefix
link_prefix links routers names on_links owned link_prefixes own_prefixes l k q at seat = grind (arith, get_split, matched_left)

-- and each of the list is on the link
pub prefix_place : (links : List Data) (on_links : List Placement) → Matched IsOnLink on_links (items_under (codes_of "prefixes") 0 links) → (l : ℕ) (p : Block) → HasPrefix links l p
    → (k : ℕ) × (q : Placement) × (slice_get on_links k ≡ Some q) × (q.seat ≡ seats.Link l) × ((text : List ℕ) × IsPrefixText text q.prefix × IsPrefixText text p)
prefix_place links on_links link_prefixes l p (k, text, at, parsed) = grind (arith, matched_right)

-- ---- a plan

module _ (document : Members) (n : Network) (plan : PlanOf document n) where
  pub places_count : length n.places ≡ length (place_spots plan.links plan.routers)
  places_count = grind (arith, matched_length, length-append, spots_count)

  pub listed_count : length n.listed ≡ length (listed_spots plan.links)
  listed_count = grind (arith, matched_length, spots_count)

  pub interfaces_count : length n.interfaces ≡ length (interface_spots plan.routers)
  interfaces_count = grind (arith, matched_length, spots_count)

  pub also_counted : sum (map length n.also) ≡ length (also_spots plan.routers)
  also_counted = grind (arith, also_count, sum-map, also_sum, also_flat)

  -- the interface of an item
  pub record HasInterface (x : Data) : Type 0 where
    pub k : ℕ
    pub i : Interface
    pub listed : slice_get n.interfaces k ≡ Some i
    pub m : ℕ
    pub of : IsInterfaceOf n.links plan.poison i (m, x)

  pub its_interface : (r j : ℕ) (x : Data) → IsItem (codes_of "interface") plan.routers r j x → HasInterface x
  its_interface r j x item =
      let u = item_under (codes_of "interface") plan.routers r j x item in
      let (i, listed, of) = matched_right (IsInterfaceOf n.links plan.poison) n.interfaces (items_under (codes_of "interface") 0 plan.routers) u.k (u.m, x) plan.interfaces u.at in
      record { k = u.k; i = i; listed = listed; m = u.m; of = of }

  -- the own prefix of an item
  pub record HasOwn (x : Data) : Type 0 where
    pub k : ℕ
    pub q : Placement
    pub m : ℕ
    pub listed : slice_get plan.owned k ≡ Some q
    pub of : IsOwned n.links q (m, x)

  pub its_own : (r j : ℕ) (x : Data) → IsItem (codes_of "own") plan.routers r j x → HasOwn x
  its_own r j x item =
      let u = item_under (codes_of "own") plan.routers r j x item in
      let (q, listed, of) = matched_right (IsOwned n.links) plan.owned (items_under (codes_of "own") 0 plan.routers) u.k (u.m, x) plan.own_prefixes u.at in
      record { k = u.k; q = q; m = u.m; listed = listed; of = of }

  -- the place of a placement
  pub its_place : (k : ℕ) (q : Placement) → slice_get (plan.on_links ++ plan.owned) k ≡ Some q → (p : ℕ) × IsPlace n k p q.seat × IsPrefix n p q.prefix
  its_place k q h = grind (arith, matched_right)

  -- the table of an interface
  pub record InterfaceTable (v : Interface) : Type 0 where
    pub r : ℕ
    pub j : ℕ
    pub x : Data
    pub item : IsItem (codes_of "interface") plan.routers (suc r) (suc j) x
    pub of : IsInterfaceOf n.links plan.poison v (r, x)

  pub interface_table : (i : ℕ) (v : Interface) → slice_get n.interfaces i ≡ Some v → InterfaceTable v
  interface_table i v h =
      let ((r, x), listed, of) = matched_left (IsInterfaceOf n.links plan.poison) n.interfaces (items_under (codes_of "interface") 0 plan.routers) i v plan.interfaces h in
      grind (arith, under_item (codes_of "interface") RouterInterface 1 0 plan.routers i r x listed)

  -- the table of a router's own prefix
  pub record OwnTable (k p : ℕ) (own : OwnPrefix) : Type 0 where
    pub q : Placement
    pub r : ℕ
    pub j : ℕ
    pub x : Data
    pub item : IsItem (codes_of "own") plan.routers (suc r) (suc j) x
    pub of : IsOwned n.links q (r, x)
    pub is : of.own ≡ own
    pub spot : slice_get (place_spots plan.links plan.routers) k ≡ Some (RouterOwn (1 + r) (suc j))

  pub own_table : (k p : ℕ) (own : OwnPrefix) → IsPlace n k p (seats.Own own) → OwnTable k p own
  own_table k p own place =
      let on_links = spots_under (codes_of "prefixes") LinkPrefix 1 plan.links in
      let (q, at, of) = matched_left (IsPlaceOf n) n.places (plan.on_links ++ plan.owned) k _ plan.places place.listed in
      elim (get_split plan.on_links plan.owned k q at) [
        | inl here ↦ absurd (grind (arith, matched_left IsOnLink plan.on_links (items_under (codes_of "prefixes") 0 plan.links) k q plan.link_prefixes here.0))
        | inr there ↦
            let ((r, x), listed, owned) = matched_left (IsOwned n.links) plan.owned (items_under (codes_of "own") 0 plan.routers) there.0 q plan.own_prefixes there.2 in
            let u = under_item (codes_of "own") RouterOwn 1 0 plan.routers there.0 r x listed in
            let same : u.t ≡ r = omega (arith, u.number) in
            let count = matched_length IsOnLink plan.on_links (items_under (codes_of "prefixes") 0 plan.links) plan.link_prefixes in
            let past : k ≡ length on_links + there.0 = omega (arith, there.1, spots_count (codes_of "prefixes") LinkPrefix 1 0 plan.links, count) in
            record {
              q = q;
              r = r;
              j = u.j;
              x = x;
              item = rw same at u.item;
              of = owned;
              is = grind arith;
              spot = grind (arith, get_past on_links (spots_under (codes_of "own") RouterOwn 1 plan.routers) there.0 k past, u.spot);
            }
      ]

  pub carrier_has : (l p : ℕ) (block : Block) → Carries n l p → IsPrefix n p block → HasPrefix plan.links l block
  carrier_has l p block (k, place) prefix =
      let (q, at, of) = matched_left (IsPlaceOf n) n.places (plan.on_links ++ plan.owned) k _ plan.places place.listed in
      grind (arith, link_prefix plan.links plan.routers n.links plan.on_links plan.owned plan.link_prefixes plan.own_prefixes l k q at)
