use Rattle.std.proofs.Common.{◌≡◌, ◌≤◌, ℕ, List, [], length, map, arith, sym, ◌∙◌, ap, Vec, Global}
use Rattle.std.proofs.lemmas.List.{length-map}
use Rattle.rip_wire.specs.Prefix.{Block}
use Rattle.rip_plan.specs.declared.draft.DraftInterface.{DraftInterface}
use Rattle.rip_plan.specs.declared.draft.DraftPlace.{DraftPlace}
use Rattle.rip_plan.specs.declared.parts.Interface.{Interface}
use Rattle.rip_plan.specs.declared.parts.Place.{Place}
use Rattle.rip_plan.specs.Draft.{sketch}
use Rattle.rip_plan.specs.Network.{Network, each_below, has_gateway, is_of, is_on, network_of_sketch, numbered, numbers_where}
use Rattle.rip_plan.proofs.BelowLemmas.{length-each_below}
use Rattle.rip_plan.proofs.NumberingLemmas.{IsNumbered, numbers}
use Rattle.rip_plan.proofs.MatchingLemmas.{matched_length}
use Rattle.rip_plan.proofs.PlanAnswerLemmas.{interfaces_links, interfaces_routers, places_prefixes, places_links, places_owners}
use Rattle.rip_plan.proofs.plan.plan_of.Goals as goal

prefixes_are : {ps : List Block} {qs : List Place} {ds es : List DraftPlace} → (ps, qs) ≡ numbered [] [] ds → ds ≡ es → ps ≡ (numbered [] [] es).0
prefixes_are h e = ap (λ (p : List Block × List Place). p.0) h ∙ ap (λ d. (numbered [] [] d).0) e

places_are : {ps : List Block} {qs : List Place} {ds es : List DraftPlace} → (ps, qs) ≡ numbered [] [] ds → ds ≡ es → qs ≡ (numbered [] [] es).1
places_are h e = ap (λ (p : List Block × List Place). p.1) h ∙ ap (λ d. (numbered [] [] d).1) e

interfaces_are : {is : List Interface} {ds es : List DraftInterface} → is ≡ map (λ i. i.interface) ds → ds ≡ es → is ≡ map (λ i. i.interface) es
interfaces_are h e = h ∙ ap (map (λ (i : DraftInterface). i.interface)) e

few : (ps : List Block) (ds es : List DraftPlace) (k : ℕ) → length ps ≤ length ds → ds ≡ es → length (numbered [] [] es).1 ≤ 1024 → k ≡ length ps → k ≤ 1024
few ps ds es k h e most is = omega (arith, ap length e, matched_length (IsNumbered (numbered [] [] es).0) (numbered [] [] es).1 es (numbers es))

lists_are : (lists : List (List ℕ)) (count : ℕ) (f : ℕ → List ℕ) → lists ≡ each_below count f → lists ≡ each_below (length lists) f
lists_are lists count f h = let same : length lists ≡ count = ap length h ∙ length-each_below count f in rw same h

pub all_on-requires : goal.all_on-requires
all_on-requires c = grind (arith, length-map, interfaces_links (network_of_sketch (sketch c.args.draft)) c.requires)

pub all_of-requires : goal.all_of-requires
all_of-requires c = grind (arith, length-map, interfaces_routers (network_of_sketch (sketch c.args.draft)) c.requires)

pub gateway_places_of-requires : goal.gateway_places_of-requires
gateway_places_of-requires c = grind (arith, length-map, places_prefixes (network_of_sketch (sketch c.args.draft)) c.requires)

pub all_addresses-requires : goal.all_addresses-requires
all_addresses-requires c = grind (arith, length-map)

pub carriers_of-requires-clause-few_prefixes : goal.carriers_of-requires-clause-few_prefixes
carriers_of-requires-clause-few_prefixes c =
    few c.in_ok-prefixes.prefixes.items c.as_slice-2.result.now c.args.draft.places.items c.len-4.result c.in_ok-prefixes.ensures.few c.as_slice-2.ensures.value c.requires.few_places (omega arith)

pub carriers_of-requires-clause-prefixes : goal.carriers_of-requires-clause-prefixes
carriers_of-requires-clause-prefixes c = grind (arith, length-map, places_prefixes (network_of_sketch (sketch c.args.draft)) c.requires)

pub carriers_of-requires-clause-seats : goal.carriers_of-requires-clause-seats
carriers_of-requires-clause-seats c = grind (arith, length-map, places_links (network_of_sketch (sketch c.args.draft)) c.requires)

pub costs_of-requires-clause-few_prefixes : goal.costs_of-requires-clause-few_prefixes
costs_of-requires-clause-few_prefixes c =
    few c.in_ok-prefixes.prefixes.items c.as_slice-2.result.now c.args.draft.places.items c.len-5.result c.in_ok-prefixes.ensures.few c.as_slice-2.ensures.value c.requires.few_places (omega arith)

pub costs_of-requires-clause-routers : goal.costs_of-requires-clause-routers
costs_of-requires-clause-routers c = grind (arith, length-map, interfaces_routers (network_of_sketch (sketch c.args.draft)) c.requires)

pub costs_of-requires-clause-lists : goal.costs_of-requires-clause-lists
costs_of-requires-clause-lists c =
    let items = λ (w : Vec ℕ Global). w.items in
    let same : c.as_slice-3.result.now ≡ c.as_slice-10.result.now = c.as_slice-3.ensures.value ∙ sym c.as_slice-10.ensures.value in
    lists_are (map items c.as_slice-11.result.now) c.len.result (λ l. numbers_where (is_on l) 0 c.as_slice-10.result.now)
    (ap (map items) c.as_slice-11.ensures.value ∙ c.in_ok-on_link.ensures ∙ ap (λ is. each_below c.len.result (λ l. numbers_where (is_on l) 0 is)) same)

pub costs_of-requires-clause-prefixes : goal.costs_of-requires-clause-prefixes
costs_of-requires-clause-prefixes c = grind (arith, length-map, places_prefixes (network_of_sketch (sketch c.args.draft)) c.requires)

pub costs_of-requires-clause-links : goal.costs_of-requires-clause-links
costs_of-requires-clause-links c =
    let count = length-each_below c.len.result (λ l. numbers_where (is_on l) 0 c.as_slice-3.result.now) in
    grind (arith, count, length-map, c.in_ok-on_link.ensures, places_links (network_of_sketch (sketch c.args.draft)) c.requires)

pub costs_of-requires-clause-owners : goal.costs_of-requires-clause-owners
costs_of-requires-clause-owners c = grind (arith, length-map, places_owners (network_of_sketch (sketch c.args.draft)) c.requires)

pub owners_of-requires-clause-few_prefixes : goal.owners_of-requires-clause-few_prefixes
owners_of-requires-clause-few_prefixes c =
    few c.in_ok-prefixes.prefixes.items c.as_slice-2.result.now c.args.draft.places.items c.len-6.result c.in_ok-prefixes.ensures.few c.as_slice-2.ensures.value c.requires.few_places (omega arith)

pub owners_of-requires-clause-few_places : goal.owners_of-requires-clause-few_places
owners_of-requires-clause-few_places c = grind arith

pub owners_of-requires-clause-prefixes : goal.owners_of-requires-clause-prefixes
owners_of-requires-clause-prefixes c = grind (arith, length-map, places_prefixes (network_of_sketch (sketch c.args.draft)) c.requires)

pub owners_of-requires-clause-owners : goal.owners_of-requires-clause-owners
owners_of-requires-clause-owners c = grind (arith, length-map, places_owners (network_of_sketch (sketch c.args.draft)) c.requires)

pub invariant_of-result : goal.invariant_of-result
invariant_of-result c =
    let n : Network = network_of_sketch (sketch c.args.draft) in
    let interfaces : c.in_ok-interfaces.interfaces.items ≡ n.interfaces = interfaces_are c.in_ok-interfaces.ensures c.as_slice.ensures.value in
    let blocks : c.in_ok-prefixes.prefixes.items ≡ n.prefixes = prefixes_are c.in_ok-prefixes.ensures.parts c.as_slice-2.ensures.value in
    let places : c.in_ok-prefixes.places.items ≡ n.places = places_are c.in_ok-prefixes.ensures.parts c.as_slice-2.ensures.value in
    let links : c.len.result ≡ length c.args.draft.links.items = omega arith in
    let routers : c.len-routers.result ≡ length c.args.draft.routers.items = omega (arith, c.len-routers.ensures) in
    let count : c.len-2.result ≡ length c.in_ok-prefixes.prefixes.items = omega arith in
    record {
      lawful = rw (interfaces, blocks, places) c.requires;
      on_link = c.in_ok-on_link.ensures
          ∙ ap (λ m. each_below m (λ l. numbers_where (is_on l) 0 c.as_slice-3.result.now)) links
          ∙ ap (λ is. each_below (length c.args.draft.links.items) (λ l. numbers_where (is_on l) 0 is)) c.as_slice-3.ensures.value;
      of_router = c.in_ok-of_router.ensures
          ∙ ap (λ m. each_below m (λ r. numbers_where (is_of r) 0 c.as_slice-4.result.now)) routers
          ∙ ap (λ is. each_below (length c.args.draft.routers.items) (λ r. numbers_where (is_of r) 0 is)) c.as_slice-4.ensures.value;
      gateway_places = c.in_ok-gateway_places.ensures
          ∙ ap (λ m. each_below m (λ k. numbers_where (has_gateway k) 0 c.as_slice-5.result.now)) count
          ∙ ap (λ qs. each_below (length c.in_ok-prefixes.prefixes.items) (λ k. numbers_where (has_gateway k) 0 qs)) c.as_slice-5.ensures.value;
      names = λ bs. c.args.draft.numbered bs;
      router_names = λ name. grind (arith, c.in_ok-router_names.ensures name);
      numbers = λ p. c.in_ok-prefixes.ensures.numbers p;
      carriers_room = grind (arith, c.in_ok-carriers.ensures.room);
      carriers = λ l k h. grind (arith, c.in_ok-carriers.ensures.flags l k);
      costs_room = grind (arith, c.in_ok-costs.ensures.room);
      costs = λ r k h. grind (arith, c.in_ok-costs.ensures.costs r k);
      owners_room = grind (arith, c.in_ok-owners.ensures.room);
      owners = λ r k h. grind (arith, c.in_ok-owners.ensures.owners r k);
      any_kept = grind (arith, c.any_kept-any_kept.ensures);
      exchanged = λ l b. grind (arith, c.in_ok-exchanged.ensures l b);
      any_list = grind (arith, c.any_list-any_list.ensures);
      addresses = λ l a. grind (arith, c.in_ok-addresses.ensures l a, c.in_ok-held.ensures);
    }
