-- A plan that was read is matched item by item with the document, and each item stands where the document has it.
use Rattle.std.proofs.Common.{◌≡◌, ℕ, ◌+◌, ◌-◌, List, [], ◌∷◌, ◌++◌, map, append_assoc, Bool, Some, Ok, refl, sym, ◌∙◌, ap, subst, arith, length, ◌≤◌, false, not, ◌||◌}
use Rattle.std.specs.Prelude.{is_some, nat_le, nat_lt, unwrap_or, codes as codes_of}
use Rattle.std.proofs.lemmas.List.{append-nil, length-map, map-append}
use Rattle.toml.specs.Data.{Data, Members, as_str, as_table, get, get_member}
use Rattle.rip_wire.specs.Prefix.{Block, prefix_in}
use Rattle.rip_plan.specs.declared.draft.DraftInterface.{DraftInterface}
use Rattle.rip_plan.specs.declared.draft.DraftPlace.{DraftPlace}
use Rattle.rip_plan.specs.declared.parts.Interface.{Interface}
use Rattle.rip_plan.specs.declared.parts.Listed.{Listed}
use Rattle.rip_plan.specs.declared.parts.Seat.TheVariants as seats
use Rattle.rip_plan.specs.declared.error.At.TheVariants.{Text, Version, Link, LinkOnly, LinkPrefix, Router, RouterInterface, RouterOwn}
use Rattle.rip_plan.specs.declared.error.PlanCode.TheVariants as codes
use Rattle.rip_plan.specs.declared.parts.OwnPrefix.{OwnPrefix}
use Rattle.rip_wire.specs.Address.{address_in}
use Rattle.rip_wire.specs.Name.{is_name}
use Rattle.rip_plan.specs.Names.{is_one_of, number_of_name}
use Rattle.rip_plan.specs.Passes.{second_passes}
use Rattle.rip_plan.specs.Fault.{fault, ◌>>=◌, steps}
use Rattle.rip_plan.specs.Fields.{◌&>◌, link_fields, interface_fields, own_fields, router_fields, root_fields, cost_of, direct_of, addresses_in, address_if, link_if, is_version}
use Rattle.rip_plan.specs.Draft.{Sketch, prefix_step, link_step, listed_step, interface_step, own_step, router_step, is_outside, is_full, with_interface, with_link, with_place}
use Rattle.rip_plan.specs.PlanText.{empty, document_of, sketch_of_document, sketch_of}
use Rattle.rip_plan.specs.Network.{Network, network_in, network_of_sketch}
use Rattle.rip_plan.specs.PlanOf.{Matched, IsAddressOf, AreAlsoOf, IsListOf, IsListedOf, IsNameOf, items_under, IsInterfaceOf, Placement, IsOnLink, IsOwned, IsPlaceOf, each_once, PlanOf, IsPlanOfText}
use Rattle.rip_plan.proofs.NumberingLemmas.{numbered_once, IsNumbered, numbers}
use Rattle.rip_plan.proofs.MatchingLemmas.{matched_append, matched_seen}
use Rattle.rip_plan.proofs.SpotLemmas.{with_number}
use Rattle.std.specs.List.{sum_by}
use Rattle.std.proofs.lemmas.List.Sums.{sum_by_push}
use Rattle.rip_plan.specs.PlanFaults.{interface_spots, place_spots, spots_of, spots_under}
use Rattle.rip_plan.specs.declared.error.At.{At}
use Rattle.rip_plan.proofs.DocumentTableLemmas.{interface_texts, link_table, own_texts, root_table, router_table}
use Rattle.rip_plan.proofs.TableLemmas.{addresses_are, cost_is, direct_is, flag_meant, gateway_is, link_is, text_is}
use Rattle.rip_plan.proofs.TextLemmas.{TextLaws, address_is, prefix_is, first_named}
use Rattle.rip_plan.proofs.FindingLemmas.{bind_ok, guard_ok, ok_same, wanted_ok}

abbrev pub placement : DraftPlace → Placement
placement d = record { prefix = d.prefix; seat = d.seat }

abbrev pub its_interface : DraftInterface → Interface
its_interface d = d.interface

abbrev pub place_ats : List DraftPlace → List At
place_ats ps = map (λ (p : DraftPlace). p.at) ps

abbrev pub interface_ats : List DraftInterface → List At
interface_ats is = map (λ (i : DraftInterface). i.at) is

pub stood : {A : Type 0} (see : A → At) (xs : List A) (spots : List At) → map see xs ≡ spots → length xs ≡ length spots
stood see xs spots h = sym (length-map xs see) ∙ ap length h

-- the draft with one more router
abbrev pub with_router : List ℕ → Sketch → Sketch
with_router name s = record s { routers = s.routers ++ name ∷ [] }

place_taken : (new : DraftPlace) (s t : Sketch) → with_place new.at new.prefix new.seat s ≡ Ok t → t ≡ record s { places = s.places ++ new ∷ [] }
place_taken new s t h = let (room, h1) = guard_ok (nat_le 1024 (length s.places)) (fault codes.Limit new.at) _ t h in sym (ok_same _ t h1)

-- there is room for one more interface with these addresses
pub room_for : (s : Sketch) (also : List ℕ) → is_full s also ≡ false → (length s.interfaces + 1 ≤ 1024) × (sum_by length s.also + length also ≤ 1024)
room_for s also h = grind arith

few_more : (new : DraftInterface) (s u : Sketch) (also : List ℕ) → is_full s also ≡ false → u ≡ with_interface new also s → sum_by length u.also ≤ 1024
few_more new s u also free made = omega (arith, (room_for s also free).1, ap (λ (v : Sketch). sum_by length v.also) made, sum_by_push length s.also also)

back : (n : ℕ) → n + 1 - 1 ≡ n
back n = omega arith

-- ---- the prefixes of a link

pub record PrefixesAdded (i j : ℕ) (xs : List Data) (s t : Sketch) : Type 0 where
  pub added : List DraftPlace
  pub made : t ≡ record s { places = s.places ++ added }
  pub match : Matched IsOnLink (map placement added) (map (with_number (i - 1)) xs)
  pub stand : place_ats added ≡ spots_of (LinkPrefix i) j xs

pub prefixes_added : (laws : TextLaws) (i j : ℕ) (xs : List Data) (s t : Sketch) → steps (prefix_step i) j xs s ≡ Ok t → PrefixesAdded i j xs s t
unfolding prefix_step
prefixes_added laws i j [] s t h = record { added = []; made = rw (append-nil s.places) (sym (ok_same s t h)); match = tt; stand = refl }
prefixes_added laws i j (x ∷ xs) s t h =
    let (u, first, others) = bind_ok (prefix_step i j x s) (steps (prefix_step i) (j + 1) xs) t h in
    let (text, is, h1) = wanted_ok (fault codes.Key (LinkPrefix i j)) (as_str x) _ u first in
    let (prefix, parsed, h2) = wanted_ok (fault codes.Prefix (LinkPrefix i j)) (prefix_in text) _ u h1 in
    let new : DraftPlace = record { prefix = prefix; seat = seats.Link (i - 1); at = LinkPrefix i j } in
    let made = place_taken new s u h2 in
    let rest = prefixes_added laws i (j + 1) xs u t others in
    record {
      added = new ∷ rest.added;
      made = rw (← append_assoc s.places (new ∷ []) rest.added) (rest.made ∙ ap (λ (v : Sketch). record v { places = v.places ++ rest.added }) made);
      match = (record { text = text; is_text = text_is x text is; prefix = prefix_is laws text prefix parsed; seat = refl }, rest.match);
      stand = ap (λ (spots : List At). LinkPrefix i j ∷ spots) rest.stand;
    }

-- ---- the list of a link

pub record ListAdded (i : ℕ) (xs : List Data) (s t : Sketch) : Type 0 where
  pub added : List Listed
  pub made : t ≡ record s { listed = s.listed ++ added }
  pub match : Matched IsListedOf added (map (with_number (i - 1)) xs)

pub list_added : (laws : TextLaws) (i j : ℕ) (xs : List Data) (s t : Sketch) → steps (listed_step i) j xs s ≡ Ok t → ListAdded i xs s t
unfolding listed_step
list_added laws i j [] s t h = record { added = []; made = rw (append-nil s.listed) (sym (ok_same s t h)); match = tt }
list_added laws i j (x ∷ xs) s t h =
    let (u, first, others) = bind_ok (listed_step i j x s) (steps (listed_step i) (j + 1) xs) t h in
    let (text, is, h1) = wanted_ok (fault codes.Key (LinkOnly i j)) (as_str x) _ u first in
    let (prefix, parsed, h2) = wanted_ok (fault codes.Prefix (LinkOnly i j)) (prefix_in text) _ u h1 in
    let (room, h3) = guard_ok (nat_le 1024 (length s.listed)) (fault codes.Limit (LinkOnly i j)) _ u h2 in
    let new : Listed = record { link = i - 1; prefix = prefix } in
    let made : u ≡ record s { listed = s.listed ++ new ∷ [] } = sym (ok_same _ u h3) in
    let rest = list_added laws i (j + 1) xs u t others in
    record {
      added = new ∷ rest.added;
      made = rw (← append_assoc s.listed (new ∷ []) rest.added) (rest.made ∙ ap (λ (v : Sketch). record v { listed = v.listed ++ rest.added }) made);
      match = (record { text = text; is_text = text_is x text is; prefix = prefix_is laws text prefix parsed; link = refl }, rest.match);
    }

-- ---- links

pub record LinksAdded (k : ℕ) (xs : List Data) (s t : Sketch) : Type 0 where
  pub names : List (List ℕ)
  pub lists : List Bool
  pub listed : List Listed
  pub added : List DraftPlace
  pub made : t ≡ record s { links = s.links ++ names; lists = s.lists ++ lists; listed = s.listed ++ listed; places = s.places ++ added }
  pub named : Matched IsNameOf names xs
  pub has_lists : Matched IsListOf lists xs
  pub in_lists : Matched IsListedOf listed (items_under (codes_of "only") k xs)
  pub placed : Matched IsOnLink (map placement added) (items_under (codes_of "prefixes") k xs)
  pub stand : place_ats added ≡ spots_under (codes_of "prefixes") LinkPrefix (k + 1) xs

pub links_added : (laws : TextLaws) (k : ℕ) (xs : List Data) (s t : Sketch) → steps link_step (k + 1) xs s ≡ Ok t → LinksAdded k xs s t
unfolding link_step
links_added laws k [] s t h = record {
  names = [];
  lists = [];
  listed = [];
  added = [];
  made = rw (append-nil s.links, append-nil s.lists, append-nil s.listed, append-nil s.places) (sym (ok_same s t h));
  named = tt;
  has_lists = tt;
  in_lists = tt;
  placed = tt;
  stand = refl;
}
links_added laws k (x ∷ xs) s t h =
    let (u, first, others) = bind_ok (link_step (k + 1) x s) (steps link_step (k + 1 + 1) xs) t h in
    let (f, fields_read, h1) = wanted_ok (fault codes.Key (Link (k + 1))) (as_table x &> link_fields) _ u first in
    let (good, h2) = guard_ok (not (is_name f.name)) (fault codes.Name (Link (k + 1))) _ u h1 in
    let (fresh, h3) = guard_ok (is_one_of f.name s.links) (fault codes.DuplicateName (Link (k + 1))) _ u h2 in
    let start = with_link f.name (is_some f.only) s in
    let (v, one, two) = bind_ok (steps (prefix_step (k + 1)) 1 f.prefixes start) (steps (listed_step (k + 1)) 1 (unwrap_or f.only [])) u h3 in
    let fields = link_table x f fields_read in
    let inner = prefixes_added laws (k + 1) 1 f.prefixes start v one in
    let list = list_added laws (k + 1) 1 (unwrap_or f.only []) v u two in
    let rest = links_added laws (k + 1) xs u t others in
    let here : u ≡ record s { links = s.links ++ f.name ∷ []; lists = s.lists ++ is_some f.only ∷ []; listed = s.listed ++ list.added; places = s.places ++ inner.added } = grind arith in
    record {
      names = f.name ∷ rest.names;
      lists = is_some f.only ∷ rest.lists;
      listed = list.added ++ rest.listed;
      added = inner.added ++ rest.added;
      made = grind (arith, append_assoc);
      named = (fields.named, rest.named);
      has_lists = (fields.has_list, rest.has_lists);
      in_lists = rw fields.only_are (matched_append IsListedOf list.added rest.listed (map (with_number k) (unwrap_or f.only [])) (items_under (codes_of "only") (k + 1) xs) (rw (back k) at list.match) rest.in_lists);
      placed = rw (map-append placement inner.added rest.added, fields.prefixes_are)
          (matched_append IsOnLink (map placement inner.added) (map placement rest.added) (map (with_number k) f.prefixes) (items_under (codes_of "prefixes") (k + 1) xs) (rw (back k) at inner.match)
          rest.placed);
      stand = rw (map-append (λ (p : DraftPlace). p.at) inner.added rest.added, fields.prefixes_are, inner.stand, rest.stand) refl;
    }

-- ---- the interfaces and the own prefixes of a router

pub record InterfacesAdded (r j : ℕ) (xs : List Data) (s t : Sketch) : Type 0 where
  pub added : List DraftInterface
  pub further : List (List ℕ)
  pub made : t ≡ record s { interfaces = s.interfaces ++ added; also = s.also ++ further }
  pub match : Matched (IsInterfaceOf s.links s.poison) (map its_interface added) (map (with_number (r - 1)) xs)
  pub also_match : Matched AreAlsoOf further (map (with_number (r - 1)) xs)
  pub stand : interface_ats added ≡ spots_of (RouterInterface r) j xs
  pub few : sum_by length s.also ≤ 1024 → sum_by length t.also ≤ 1024

pub interfaces_added : (laws : TextLaws) (r j : ℕ) (xs : List Data) (s t : Sketch) → steps (interface_step r) j xs s ≡ Ok t → InterfacesAdded r j xs s t
unfolding interface_step
interfaces_added laws r j [] s t h = record {
  added = [];
  further = [];
  made = rw (append-nil s.interfaces, append-nil s.also) (sym (ok_same s t h));
  match = tt;
  also_match = tt;
  stand = refl;
  few = λ few. rw (← ok_same s t h) few;
}
interfaces_added laws r j (x ∷ xs) s t h =
    let place = RouterInterface r j in
    let (u, first, others) = bind_ok (interface_step r j x s) (steps (interface_step r) (j + 1) xs) t h in
    let (f, fields_read, h1) = wanted_ok (fault codes.Key place) (as_table x &> interface_fields) _ u first in
    let (address, parsed, h2) = wanted_ok (fault codes.Address place) (address_in f.address) _ u h1 in
    let (also, also_read, h3) = wanted_ok (fault codes.Address place) (addresses_in f.also) _ u h2 in
    let (cost, costs, h4) = wanted_ok (fault codes.Cost place) (cost_of f.cost) _ u h3 in
    let (direct, directs, h5) = wanted_ok (fault codes.Cost place) (direct_of cost f.direct) _ u h4 in
    let (link, known, h6) = wanted_ok (fault codes.UnknownLink place) (number_of_name f.link s.links) _ u h5 in
    let (inside, h7) = guard_ok (is_outside link address s.places) (fault codes.OutsidePrefix place) _ u h6 in
    let (room, h8) = guard_ok (is_full s also) (fault codes.Limit place) _ u h7 in
    let has = interface_texts x f fields_read in
    let its : Interface = record { router = r - 1; link = link; address = address; cost = cost; direct = direct; poison = unwrap_or f.poison s.poison } in
    let new : DraftInterface = record { interface = its; at = place } in
    let made : u ≡ with_interface new also s = sym (ok_same (with_interface new also s) u h8) in
    let rest = interfaces_added laws r (j + 1) xs u t others in
    record {
      added = new ∷ rest.added;
      further = also ∷ rest.further;
      made = rw (← append_assoc s.interfaces (new ∷ []) rest.added, ← append_assoc s.also (also ∷ []) rest.further)
          (rest.made ∙ ap (λ (v : Sketch). record v { interfaces = v.interfaces ++ rest.added; also = v.also ++ rest.further }) made);
      match = (
        record {
          router = refl;
          link_name = f.link;
          has_link = has.has_link;
          link = first_named f.link s.links link known;
          text = f.address;
          has_address = has.has_address;
          address = address_is laws f.address address parsed;
          cost = cost_is (get (codes_of "cost") x) f.cost cost has.cost costs;
          direct = direct_is (get (codes_of "direct") x) cost f.direct direct has.direct directs;
          poisons = flag_meant (get (codes_of "poison") x) f.poison s.poison has.poison;
        },
        subst (λ (v : Sketch). Matched (IsInterfaceOf v.links v.poison) (map its_interface rest.added) (map (with_number (r - 1)) xs)) made rest.match,
      );
      also_match = (subst (Matched IsAddressOf also) (sym has.also_are) (addresses_are laws f.also also also_read), rest.also_match);
      stand = ap (λ (spots : List At). RouterInterface r j ∷ spots) rest.stand;
      few = λ few. rest.few (few_more new s u also room made);
    }

pub record OwnsAdded (r j : ℕ) (xs : List Data) (s t : Sketch) : Type 0 where
  pub added : List DraftPlace
  pub made : t ≡ record s { places = s.places ++ added }
  pub match : Matched (IsOwned s.links) (map placement added) (map (with_number (r - 1)) xs)
  pub stand : place_ats added ≡ spots_of (RouterOwn r) j xs

pub owns_added : (laws : TextLaws) (r j : ℕ) (xs : List Data) (s t : Sketch) → steps (own_step r) j xs s ≡ Ok t → OwnsAdded r j xs s t
unfolding own_step
owns_added laws r j [] s t h = record { added = []; made = rw (append-nil s.places) (sym (ok_same s t h)); match = tt; stand = refl }
owns_added laws r j (x ∷ xs) s t h =
    let place = RouterOwn r j in
    let (u, first, others) = bind_ok (own_step r j x s) (steps (own_step r) (j + 1) xs) t h in
    let (f, fields_read, h1) = wanted_ok (fault codes.Key place) (as_table x &> own_fields) _ u first in
    let (via, gateway, h2) = wanted_ok (fault codes.Address place) (address_if f.via) _ u h1 in
    let (prefix, parsed, h3) = wanted_ok (fault codes.Prefix place) (prefix_in f.prefix) _ u h2 in
    let (cost, costs, h4) = wanted_ok (fault codes.Cost place) (cost_of f.cost) _ u h3 in
    let (link, known, h5) = wanted_ok (fault codes.UnknownLink place) (link_if f.link s.links) _ u h4 in
    let has = own_texts x f fields_read in
    let own : OwnPrefix = record { router = r - 1; cost = cost; kept = f.kept; link = link; via = via } in
    let new : DraftPlace = record { prefix = prefix; seat = seats.Own own; at = place } in
    let made = place_taken new s u h5 in
    let rest = owns_added laws r (j + 1) xs u t others in
    record {
      added = new ∷ rest.added;
      made = rw (← append_assoc s.places (new ∷ []) rest.added) (rest.made ∙ ap (λ (v : Sketch). record v { places = v.places ++ rest.added }) made);
      match = (
        record {
          text = f.prefix;
          has_prefix = has.has_prefix;
          prefix = prefix_is laws f.prefix prefix parsed;
          own = own;
          seat = refl;
          router = refl;
          cost = cost_is (get (codes_of "cost") x) f.cost cost has.cost costs;
          kept = has.kept;
          link = link_is s.links x f.link link has.link known;
          via = gateway_is laws x f.via via has.via gateway;
        },
        subst (λ (names : List (List ℕ)). Matched (IsOwned names) (map placement rest.added) (map (with_number (r - 1)) xs)) (ap (λ (v : Sketch). v.links) made) rest.match,
      );
      stand = ap (λ (spots : List At). RouterOwn r j ∷ spots) rest.stand;
    }

-- ---- routers

pub record RoutersAdded (k : ℕ) (xs : List Data) (s t : Sketch) : Type 0 where
  pub names : List (List ℕ)
  pub interfaces : List DraftInterface
  pub also : List (List ℕ)
  pub owned : List DraftPlace
  pub made : t ≡ record s { routers = s.routers ++ names; interfaces = s.interfaces ++ interfaces; also = s.also ++ also; places = s.places ++ owned }
  pub named : Matched IsNameOf names xs
  pub on_links : Matched (IsInterfaceOf s.links s.poison) (map its_interface interfaces) (items_under (codes_of "interface") k xs)
  pub further : Matched AreAlsoOf also (items_under (codes_of "interface") k xs)
  pub own : Matched (IsOwned s.links) (map placement owned) (items_under (codes_of "own") k xs)
  pub interfaces_stand : interface_ats interfaces ≡ spots_under (codes_of "interface") RouterInterface (k + 1) xs
  pub own_stand : place_ats owned ≡ spots_under (codes_of "own") RouterOwn (k + 1) xs
  pub few : sum_by length s.also ≤ 1024 → sum_by length t.also ≤ 1024

pub routers_added : (laws : TextLaws) (k : ℕ) (xs : List Data) (s t : Sketch) → steps router_step (k + 1) xs s ≡ Ok t → RoutersAdded k xs s t
unfolding router_step
routers_added laws k [] s t h = record {
  names = [];
  interfaces = [];
  also = [];
  owned = [];
  made = rw (append-nil s.routers, append-nil s.interfaces, append-nil s.also, append-nil s.places) (sym (ok_same s t h));
  named = tt;
  on_links = tt;
  further = tt;
  own = tt;
  interfaces_stand = refl;
  own_stand = refl;
  few = λ few. rw (← ok_same s t h) few;
}
routers_added laws k (x ∷ xs) s t h =
    let (u, first, others) = bind_ok (router_step (k + 1) x s) (steps router_step (k + 1 + 1) xs) t h in
    let (f, fields_read, h1) = wanted_ok (fault codes.Key (Router (k + 1))) (as_table x &> router_fields) _ u first in
    let (good, h2) = guard_ok (not (is_name f.0)) (fault codes.Name (Router (k + 1))) _ u h1 in
    let (fresh, h3) = guard_ok (is_one_of f.0 s.routers) (fault codes.DuplicateName (Router (k + 1))) _ u h2 in
    let (v, one, two) = bind_ok (steps (interface_step (k + 1)) 1 f.1 (with_router f.0 s)) (steps (own_step (k + 1)) 1 f.2) u h3 in
    let fields = router_table x f.0 f.1 f.2 fields_read in
    let inner = interfaces_added laws (k + 1) 1 f.1 (with_router f.0 s) v one in
    let own = owns_added laws (k + 1) 1 f.2 v u two in
    let rest = routers_added laws (k + 1) xs u t others in
    let here : u ≡ record s { routers = s.routers ++ f.0 ∷ []; interfaces = s.interfaces ++ inner.added; also = s.also ++ inner.further; places = s.places ++ own.added } = grind arith in
    let between : v.links ≡ s.links = ap (λ (v : Sketch). v.links) inner.made in
    record {
      names = f.0 ∷ rest.names;
      interfaces = inner.added ++ rest.interfaces;
      also = inner.further ++ rest.also;
      owned = own.added ++ rest.owned;
      made = grind (arith, append_assoc);
      named = (fields.named, rest.named);
      on_links = rw (map-append its_interface inner.added rest.interfaces, fields.interfaces_are)
          (matched_append (IsInterfaceOf s.links s.poison) (map its_interface inner.added) (map its_interface rest.interfaces) (map (with_number k) f.1)
          (items_under (codes_of "interface") (k + 1) xs) (rw (back k) at inner.match)
          (subst (λ (v : Sketch). Matched (IsInterfaceOf v.links v.poison) (map its_interface rest.interfaces) (items_under (codes_of "interface") (k + 1) xs)) here rest.on_links));
      further = rw fields.interfaces_are (matched_append AreAlsoOf inner.further rest.also (map (with_number k) f.1)
          (items_under (codes_of "interface") (k + 1) xs) (rw (back k) at inner.also_match) rest.further);
      own = rw (map-append placement own.added rest.owned, fields.owns_are)
          (matched_append (IsOwned s.links) (map placement own.added) (map placement rest.owned) (map (with_number k) f.2) (items_under (codes_of "own") (k + 1) xs)
          (rw (between, back k) at own.match) (rw (ap (λ (v : Sketch). v.links) here) at rest.own));
      interfaces_stand = rw (map-append (λ (i : DraftInterface). i.at) inner.added rest.interfaces, fields.interfaces_are, inner.stand, rest.interfaces_stand) refl;
      own_stand = rw (map-append (λ (p : DraftPlace). p.at) own.added rest.owned, fields.owns_are, own.stand, rest.own_stand) refl;
      few = λ few. rest.few (rw (ap (λ (v : Sketch). v.also) own.made) (inner.few few));
    }

-- ---- the document

places_match : (s : Sketch) → Matched (IsPlaceOf (network_of_sketch s)) (network_of_sketch s).places (map placement s.places)
places_match s =
    let n = network_of_sketch s in
    matched_seen (IsNumbered n.prefixes) (IsPlaceOf n) placement (λ q d (prefix, seat). record { prefix = prefix; seat = seat }) n.places s.places (numbers s.places)

-- these tables were read, in the words of the document
pub record TablesRead (links routers : List Data) (poison : Bool) (s : Sketch) : Type 0 where
  pub link_names : Matched IsNameOf s.links links
  pub has_lists : Matched IsListOf s.lists links
  pub in_lists : Matched IsListedOf s.listed (items_under (codes_of "only") 0 links)
  pub router_names : Matched IsNameOf s.routers routers
  pub interfaces : Matched (IsInterfaceOf s.links poison) (map its_interface s.interfaces) (items_under (codes_of "interface") 0 routers)
  pub also : Matched AreAlsoOf s.also (items_under (codes_of "interface") 0 routers)
  pub on_links : List DraftPlace
  pub link_prefixes : Matched IsOnLink (map placement on_links) (items_under (codes_of "prefixes") 0 links)
  pub owned : List DraftPlace
  pub own_prefixes : Matched (IsOwned s.links) (map placement owned) (items_under (codes_of "own") 0 routers)
  pub places : s.places ≡ on_links ++ owned
  pub places_stand : place_ats s.places ≡ place_spots links routers
  pub interfaces_stand : interface_ats s.interfaces ≡ interface_spots routers
  pub few : sum_by length s.also ≤ 1024

pub tables_read : (laws : TextLaws) (links routers : List Data) (poison : Bool) (between s : Sketch) → steps link_step 1 links (empty poison) ≡ Ok between → steps router_step 1 routers between ≡ Ok s
    → TablesRead links routers poison s
tables_read laws links routers poison between s first second =
    let read = links_added laws 0 links (empty poison) between first in
    let more = routers_added laws 0 routers between s second in
    let start : Sketch = record { links = read.names; lists = read.lists; listed = read.listed; routers = []; poison = poison; interfaces = []; also = []; places = read.added } in
    let made : s ≡ record start { routers = more.names; interfaces = more.interfaces; also = more.also; places = read.added ++ more.owned } = grind arith in
    let few : sum_by length more.also ≤ 1024 = grind (arith, more.few) in
    subst (TablesRead links routers poison) (sym made) (record {
      link_names = read.named;
      has_lists = read.has_lists;
      in_lists = read.in_lists;
      router_names = more.named;
      interfaces = subst (λ (v : Sketch). Matched (IsInterfaceOf v.links v.poison) (map its_interface more.interfaces) (items_under (codes_of "interface") 0 routers)) read.made more.on_links;
      also = more.further;
      on_links = read.added;
      link_prefixes = read.placed;
      owned = more.owned;
      own_prefixes = subst (λ (v : Sketch). Matched (IsOwned v.links) (map placement more.owned) (items_under (codes_of "own") 0 routers)) read.made more.own;
      places = refl;
      places_stand = rw (map-append (λ (p : DraftPlace). p.at) read.added more.owned, read.stand, more.own_stand) refl;
      interfaces_stand = more.interfaces_stand;
      few = few;
    })

pub document_matches : (laws : TextLaws) (doc : Members) (links routers : List Data) (poison : Bool) (s : Sketch) → root_fields doc ≡ Some (links, routers, poison) → TablesRead links routers poison s
    → PlanOf doc (network_of_sketch s)
document_matches laws doc links routers poison s is read =
    let root = root_table doc links routers poison is in
    let split : map placement s.places ≡ map placement read.on_links ++ map placement read.owned = ap (map placement) read.places ∙ map-append placement read.on_links read.owned in
    record {
      links = links;
      has_links = root.has_links;
      link_names = read.link_names;
      lists = read.has_lists;
      listed = read.in_lists;
      routers = routers;
      has_routers = root.has_routers;
      router_names = read.router_names;
      poison = poison;
      has_poison = root.has_poison;
      interfaces = read.interfaces;
      also = read.also;
      on_links = map placement read.on_links;
      link_prefixes = read.link_prefixes;
      owned = map placement read.owned;
      own_prefixes = read.own_prefixes;
      places = subst (λ (ps : List Placement). Matched (IsPlaceOf (network_of_sketch s)) (network_of_sketch s).places ps) split (places_match s);
      prefixes = numbered_once s.places ∙ ap each_once (blocks_seen s.places ∙ ap (map (λ (p : Placement). p.prefix)) split);
    }
  where
    blocks_seen : (ds : List DraftPlace) → map (λ (d : DraftPlace). d.prefix) ds ≡ map (λ (p : Placement). p.prefix) (map placement ds)
    blocks_seen [] = refl
    blocks_seen (d ∷ ds) = ap (λ (l : List Block). d.prefix ∷ l) (blocks_seen ds)

pub matches : (laws : TextLaws) (bytes : List ℕ) (s : Sketch) → sketch_of bytes ≡ Ok s → IsPlanOfText bytes (network_of_sketch s)
unfolding sketch_of sketch_of_document
matches laws bytes s h =
    let (long, h1) = guard_ok (nat_lt 1048576 (length bytes)) (fault codes.Limit Text) _ s h in
    let (doc, read, h2) = wanted_ok (fault codes.Syntax Text) (document_of bytes) sketch_of_document s h1 in
    let (version, h3) = guard_ok (not (is_version (get_member (codes_of "version") doc))) (fault codes.Version Version) _ s h2 in
    let (root, is, h4) = wanted_ok (fault codes.Key Text) (root_fields doc) _ s h3 in
    let (room, h5) = guard_ok (nat_lt 512 (length root.0) || nat_lt 128 (length root.1)) (fault codes.Limit Text) _ s h4 in
    let (v, both, h6) = bind_ok (steps link_step 1 root.0 (empty root.2) >>= steps router_step 1 root.1) (λ t. second_passes t >>= (λ _. Ok t)) s h5 in
    let (u, first, second) = bind_ok (steps link_step 1 root.0 (empty root.2)) (steps router_step 1 root.1) v both in
    let (done, passed, h7) = bind_ok (second_passes v) (λ _. Ok v) s h6 in
    let tables = tables_read laws root.0 root.1 root.2 u v first second in
    let plan : PlanOf doc (network_of_sketch v) = document_matches laws doc root.0 root.1 root.2 v is tables in
    record { document = doc; reads = read; plan = subst (λ (t : Sketch). PlanOf doc (network_of_sketch t)) (ok_same v s h7) plan }

-- of a network that the bytes are
pub network_matches : (laws : TextLaws) (bytes : List ℕ) (n : Network) → network_in bytes ≡ Ok n → IsPlanOfText bytes n
network_matches laws bytes n h = grind (arith, ok_same, matches)
