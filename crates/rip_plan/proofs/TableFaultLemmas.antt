-- What is found of the faults of a document's links and of its routers.
use Rattle.std.proofs.Common.{◌≡◌, ℕ, zero, suc, ◌+◌, ◌<◌, ◌≤◌, inl, inr, List, [], ◌∷◌, ◌++◌, length, Bool, true, false, not, Some, Ok, refl, sym, ap, subst, ◌∙◌, arith, length-append, ◌-◌, ◌⊎◌, ◌&&◌, Option, None, Result}
use Rattle.std.specs.Prelude.{is_some, slice_get, nat_le, codes as codes_of, map, unwrap_or}
use Rattle.std.specs.Str.{bytes_eq}
use Rattle.std.proofs.lemmas.Bool.{both_ways, leb-true, not-false, not-true, cases_Bool, and_parts}
use Rattle.std.proofs.lemmas.Option.{none-some, same_Some, slice_get_within}
use Rattle.std.proofs.lemmas.Bool.Decides.{nat_tests}
use Rattle.std.proofs.lemmas.Slice.Eq.{bytes_eq-Decides}
use Rattle.std.specs.List.{sum_by}
use Rattle.std.proofs.lemmas.List.Sums.{sum_by-append}
use Rattle.std.proofs.lemmas.List.{length-map, map-append}
use Rattle.toml.specs.Data.{Data, Members, string, get, as_str, as_table}
use Rattle.rip_wire.specs.Name.{is_name}
use Rattle.rip_wire.specs.Prefix.{prefix_in, Block}
use Rattle.rip_wire.specs.Address.{address_in}
use Rattle.rip_plan.specs.declared.error.PlanCode.TheVariants as codes
use Rattle.rip_plan.specs.declared.error.At.{At}
use Rattle.rip_plan.specs.declared.error.At.TheVariants.{Link, LinkOnly, LinkPrefix, Router, RouterInterface, RouterOwn}
use Rattle.rip_plan.specs.declared.draft.DraftPlace.{DraftPlace}
use Rattle.rip_plan.specs.Fault.{steps}
use Rattle.rip_plan.specs.Fields.{◌&>◌, link_fields, InterfaceFields, interface_fields, own_fields, router_fields, cost_of, direct_of, addresses_in, address_if, link_if}
use Rattle.rip_plan.specs.Names.{is_one_of, number_of_name}
use Rattle.rip_plan.specs.Draft.{Sketch, prefix_step, link_step, listed_step, interface_step, own_step, router_step, is_full, is_outside, has_address, with_link}
use Rattle.rip_plan.specs.PlanOf.{HasText, Matched, IsListedOf, IsNameOf, items_in, items_under, Placement}
use Rattle.rip_plan.specs.PlanText.{empty}
use Rattle.rip_plan.specs.PlanFaults.{nth, IsItem, IsMisnamed, IsNamedAgain, spots_of, spots_under, place_spots, IsPast, NamesNoLink, IsOutside, HasNoAddress, HasPrefix, HasWrongAlso, HasWrongCost, HasWrongDirect, interface_spots, also_spots, listed_spots}
use Rattle.rip_plan.specs.Texts.{IsNoPrefix, IsPrefixText, IsAddressText}
use Rattle.rip_plan.specs.DocumentTables.{IsLinkTable, IsString, IsRouterTable, IsInterfaceTable, IsOwnTable}
use Rattle.rip_plan.specs.declared.error.PlanError.{PlanError}
use Rattle.rip_plan.specs.declared.draft.DraftInterface.{DraftInterface}
use Rattle.rip_plan.specs.declared.parts.Seat.TheVariants as seats
use Rattle.rip_plan.specs.Seats.{is_on}
use Rattle.rip_plan.proofs.FindingLemmas.{Asks, Each, Finds, ask_both, ask_guard, ask_rest, ask_wanted, bind_finds, row_at, steps_finds}
use Rattle.rip_plan.proofs.FaultRowLemmas.{IsTold, asked_at, rest_at, turn_at, item_stands, listed_rows, listed_starts, prefix_rows, prefix_starts, prefixes_sooner, link_rows, link_starts, link_within, links_rows, interface_rows, interface_starts, own_rows, own_starts, interfaces_sooner, router_rows, router_starts, router_within, routers_rows}
use Rattle.rip_plan.proofs.SpotLemmas.{listed_once, nth_from, place_once, spots_count, prefix_here, nth_here, item_once, count_of, also_here, also_in, also_items, also_under, also_within, with_number, interface_once, own_here, under_here}
use Rattle.rip_plan.proofs.ItemLemmas.{any_at, any_finds, get_split, get_left, position_none, get_seen, see_got}
use Rattle.rip_plan.proofs.TableLemmas.{text_is, IsTextIf, addresses_told, addresses_clear, cost_fits, gateway_fits, gateway_is, link_is, map_none, cost_is, cost_within, cost_told, direct_told, gateway_told, IsReadOf, addresses_read}
use Rattle.rip_plan.proofs.MatchingLemmas.{matched_left, matched_right, matched_length}
use Rattle.rip_plan.proofs.OnePlanLemmas.{text_same}
use Rattle.rip_plan.proofs.PlanMatchLemmas.{links_added, list_added, prefixes_added, stood, TablesRead, room_for, with_router, placement, interfaces_added, owns_added, tables_read}
use Rattle.rip_plan.proofs.LookupLemmas.{name_same, on_seat}
use Rattle.rip_plan.proofs.TextLemmas.{TextLaws, prefix_is, no_prefix, first_named, address_is, no_address, one_prefix}
use Rattle.rip_plan.proofs.DocumentTableLemmas.{link_not, link_table, string_not, HasInterfaceFields, interface_not, interface_texts, own_not, own_texts, router_not, router_table}
use Rattle.rip_plan.proofs.PlanPartLemmas.{also_flat, also_numbered, also_sum, link_prefix, names_differ, attached_not, inside_not, known_not, prefix_place}

-- ---- a table at hand, and an item of its list at a key

module _ (ds done : List Data) (d : Data) (rest : List Data) (split : ds ≡ done ++ d ∷ rest) where
  table_here : nth ds (1 + length done) ≡ Some d
  table_here = rw split (nth_here done d rest (1 + length done) refl)

  table_same : (e : Data) → nth ds (1 + length done) ≡ Some e → e ≡ d
  table_same e h = same_Some e d (sym h ∙ table_here)

  module _ (key : List ℕ) (front : List Data) (x : Data) (back : List Data) (items : items_in (get key d) ≡ front ++ x ∷ back) where
    item_here : IsItem key ds (1 + length done) (1 + length front) x
    item_here = (d, table_here, rw items (nth_here front x back (1 + length front) refl))

    -- x is the item at its place, and what is said of the item there is said of x
    item_at : IsItem key ds (1 + length done) (1 + length front) x × ((P : Data → Type 0) → (y : Data) × IsItem key ds (1 + length done) (1 + length front) y × P y → P x)
    item_at = (item_here, λ P (y, item, said). subst P (item_once key ds (1 + length done) (1 + length front) y x item item_here) said)

  none_past : (key : List ℕ) (all : List Data) → items_in (get key d) ≡ all → (m : ℕ) → length all < m → (x : Data) × IsItem key ds (1 + length done) m x → ⊥
  none_past key all items m past (x, (e, is, item)) =
      let there : nth all m ≡ Some x = ap (λ (l : List Data). nth l m) (sym items ∙ ap (λ (t : Data). items_in (get key t)) (sym (table_same e is))) ∙ item in
      omega (arith, (nth_from all m x there).1)

-- how many were read before an item: those before its list, and the front of the list
stand_before : {A : Type 0} (see : A → At) (at : ℕ → At) (all before added : List A) (spots : List At) (front : List Data) → all ≡ before ++ added → map see before ≡ spots
    → map see added ≡ spots_of at 1 front → length all ≡ length spots + length front
stand_before see at all before added spots front made stand here =
    omega (arith, ap length made, length-append before added, stood see before spots stand, stood see added (spots_of at 1 front) here, count_of at 1 front)

-- a place that stands at a number below the limit is not past it
not_past : (spots : List At) → ((k m : ℕ) (a : At) → slice_get spots k ≡ Some a → slice_get spots m ≡ Some a → k ≡ m) → (n : ℕ) (at : At) → slice_get spots n ≡ Some at → nat_le 1024 n ≡ false
    → IsPast 1024 spots at → ⊥
not_past spots once n at here free (k, there, most) = let same : k ≡ n = once k n at there here in grind (arith, nat_tests)

-- ---- names

module _ (laws : TextLaws) (ds done : List Data) (d : Data) (rest : List Data) (split : ds ≡ done ++ d ∷ rest) where
  misnamed_told : (name : List ℕ) → IsNameOf name d → not (is_name name) ≡ true → IsMisnamed ds (1 + length done)
  misnamed_told name named bad = (d, name, table_here ds done d rest split, named, λ good. both_ways (is_name name) (not-true (is_name name) bad) ((laws.name name).1 good))

  misnamed_clear : (name : List ℕ) → IsNameOf name d → not (is_name name) ≡ false → IsMisnamed ds (1 + length done) → ⊥
  misnamed_clear name named good (e, other, is, its, bad) = grind (arith, table_same, text_same, not-false)

  again_told : (names : List (List ℕ)) → Matched IsNameOf names done → (name : List ℕ) → IsNameOf name d → is_one_of name names ≡ true → IsNamedAgain ds (1 + length done)
  again_told names named name its taken =
      let (k, other, at, test) = any_finds (λ (x : List ℕ). bytes_eq x name) names taken in
      let (earlier, is, its_name) = matched_left IsNameOf names done k other named at in
      let same : other ≡ name = (bytes_eq-Decides other name).0 test in
      let within : k < length done = slice_get_within done k earlier is in
      (d, earlier, suc k, name, table_here ds done d rest split, its, omega arith, rw split (get_left done (d ∷ rest) k earlier is), subst (λ (t : List ℕ). IsNameOf t earlier) same its_name)

  again_clear : (names : List (List ℕ)) → Matched IsNameOf names done → (name : List ℕ) → IsNameOf name d → is_one_of name names ≡ false → IsNamedAgain ds (1 + length done) → ⊥
  again_clear names named name its fresh (e, earlier, zero, other, is, its_name, less, there, theirs) = none-some earlier there
  again_clear names named name its fresh (e, earlier, suc k, other, is, its_name, less, there, theirs) =
      let same : e ≡ d = table_same ds done d rest split e is in
      let one : other ≡ name = text_same (codes_of "name") d other name (subst (IsNameOf other) same its_name) its in
      elim (get_split done (d ∷ rest) k earlier (rw split at there)) [
        | inl found ↦
            let (m, listed, of) = matched_right IsNameOf names done k earlier named found.0 in
            let its_own : m ≡ name = text_same (codes_of "name") earlier m other of theirs ∙ one in
            grind (arith, any_at (λ (x : List ℕ). bytes_eq x name) names k m listed, name_same name)
        | inr past ↦ let count : k ≡ length done + past.0 = past.1 in absurd (omega arith)
      ]

-- ---- the prefixes of a link

abbrev stood_links : List Data → List At
stood_links done = spots_under (codes_of "prefixes") LinkPrefix 1 done

module _ (document : Members) (links routers done : List Data) (d : Data) (rest : List Data) (split : links ≡ done ++ d ∷ rest) where
  prefix_asks : (laws : TextLaws) (front : List Data) (x : Data) (back : List Data) (v : Sketch) → items_in (get (codes_of "prefixes") d) ≡ front ++ x ∷ back
      → length v.places ≡ length (stood_links done) + length front
      → Asks (IsTold document links routers) (asked_at (LinkPrefix (1 + length done) (1 + length front))) (λ o. ⊥) (prefix_step (1 + length done) (1 + length front) x v)
  unfolding prefix_step
  prefix_asks laws front x back v items count =
      let (item, of_x) = item_at links done d rest split (codes_of "prefixes") front x back items in
      ask_wanted (as_str x) _ (λ none. (x, item, string_not x none)) (λ text is h. of_x (λ y. IsString y → ⊥) h (text, text_is x text is)) (λ text is.
      ask_wanted (prefix_in text) _ (λ none. (text, subst (IsItem (codes_of "prefixes") links (1 + length done) (1 + length front)) (text_is x text is) item, no_prefix laws text none))
      (λ p parsed h.
      let same : string h.0 ≡ string text = item_once (codes_of "prefixes") links (1 + length done) (1 + length front) (string h.0) x h.1 item ∙ text_is x text is in
      let one : text ≡ h.0 = cc in
      h.2 p (subst (λ (t : List ℕ). IsPrefixText t p) one (prefix_is laws text p parsed)))
      (λ p parsed.
      ask_guard (nat_le 1024 (length v.places)) _ (λ full. (length v.places, here, leb-true 1024 (length v.places) full))
      (λ free h. not_past (place_spots links routers) (place_once links routers) (length v.places) (LinkPrefix (1 + length done) (1 + length front)) here free h)
      (λ free. ask_rest (λ o h f. h))))
    where
      here : slice_get (place_spots links routers) (length v.places) ≡ Some (LinkPrefix (1 + length done) (1 + length front))
      here = rw split (prefix_here routers done d rest front x back items (length v.places) count)

  prefixes_find : (laws : TextLaws) (poison : Bool) (u : Sketch) (name : List ℕ) (has_list : Bool) → steps link_step 1 done (empty poison) ≡ Ok u → (all : List Data)
      → items_in (get (codes_of "prefixes") d) ≡ all
      → Finds (IsTold document links routers) (Each (prefix_rows (1 + length done)) 1) (steps (prefix_step (1 + length done)) 1 all (with_link name has_list u))
  prefixes_find laws poison u name has_list taken all items =
      let i : ℕ = 1 + length done in
      steps_finds (IsTold document links routers) (prefix_step i) (prefix_rows i) (0 ∷ 1 ∷ i ∷ 1 ∷ []) (prefix_starts i) all (with_link name has_list u)
      (λ front x back v parts steps_taken.
      let before = links_added laws 0 done (empty poison) u taken in
      let inner = prefixes_added laws i 1 front (with_link name has_list u) v steps_taken in
      let places : v.places ≡ before.added ++ inner.added = ap (λ (t : Sketch). t.places) inner.made ∙ ap (λ (t : Sketch). t.places ++ inner.added) before.made in
      let count = stand_before (λ (p : DraftPlace). p.at) (LinkPrefix i) v.places before.added inner.added (stood_links done) front places before.stand inner.stand in
      (prefix_asks laws front x back v (items ∙ parts) count).finds (turn_at (LinkPrefix i (1 + length front))))
      (λ m o past row f.
      none_past links done d rest split (codes_of "prefixes") all items m past
      (item_stands document links routers (LinkPrefix i m) o (λ n. n) (prefix_starts i m o row).0 f row))

  -- ---- and its list

  listed_asks : (laws : TextLaws) (front : List Data) (x : Data) (back : List Data) (v : Sketch) → items_in (get (codes_of "only") d) ≡ front ++ x ∷ back
      → length v.listed ≡ length (listed_spots done) + length front
      → Asks (IsTold document links routers) (asked_at (LinkOnly (1 + length done) (1 + length front))) (λ o. ⊥) (listed_step (1 + length done) (1 + length front) x v)
  unfolding listed_step
  listed_asks laws front x back v items count =
      let (item, of_x) = item_at links done d rest split (codes_of "only") front x back items in
      ask_wanted (as_str x) _ (λ none. (x, item, string_not x none)) (λ text is h. of_x (λ y. IsString y → ⊥) h (text, text_is x text is)) (λ text is.
      ask_wanted (prefix_in text) _ (λ none. (text, subst (IsItem (codes_of "only") links (1 + length done) (1 + length front)) (text_is x text is) item, no_prefix laws text none))
      (λ p parsed h.
      let same : string h.0 ≡ string text = item_once (codes_of "only") links (1 + length done) (1 + length front) (string h.0) x h.1 item ∙ text_is x text is in
      let one : text ≡ h.0 = cc in
      h.2 p (subst (λ (t : List ℕ). IsPrefixText t p) one (prefix_is laws text p parsed)))
      (λ p parsed.
      ask_guard (nat_le 1024 (length v.listed)) _ (λ full. (length v.listed, here, leb-true 1024 (length v.listed) full))
      (λ free h. not_past (listed_spots links) (listed_once links) (length v.listed) (LinkOnly (1 + length done) (1 + length front)) here free h)
      (λ free. ask_rest (λ o h f. h))))
    where
      here : slice_get (listed_spots links) (length v.listed) ≡ Some (LinkOnly (1 + length done) (1 + length front))
      here = rw split (under_here (codes_of "only") LinkOnly 1 done d rest front x back items (length v.listed) count)

  lists_find : (laws : TextLaws) (poison : Bool) (u : Sketch) (name : List ℕ) (has_list : Bool) (prefixes : List Data) (w : Sketch) → steps link_step 1 done (empty poison) ≡ Ok u
      → steps (prefix_step (1 + length done)) 1 prefixes (with_link name has_list u) ≡ Ok w → (all : List Data) → items_in (get (codes_of "only") d) ≡ all
      → Finds (IsTold document links routers) (Each (listed_rows (1 + length done)) 1) (steps (listed_step (1 + length done)) 1 all w)
  lists_find laws poison u name has_list prefixes w taken between all items =
      let i : ℕ = 1 + length done in
      steps_finds (IsTold document links routers) (listed_step i) (listed_rows i) (0 ∷ 1 ∷ i ∷ 2 ∷ []) (listed_starts i) all w
      (λ front x back v parts steps_taken.
      let before = links_added laws 0 done (empty poison) u taken in
      let left = prefixes_added laws i 1 prefixes (with_link name has_list u) w between in
      let inner = list_added laws i 1 front w v steps_taken in
      let listed : v.listed ≡ before.listed ++ inner.added =
      ap (λ (t : Sketch). t.listed) inner.made ∙ ap (λ (t : Sketch). t.listed ++ inner.added) left.made ∙ ap (λ (t : Sketch). t.listed ++ inner.added) before.made in
      let stood : length before.listed ≡ length (listed_spots done) =
      matched_length IsListedOf before.listed (items_under (codes_of "only") 0 done) before.in_lists ∙ sym (spots_count (codes_of "only") LinkOnly 1 0 done) in
      let fronts = matched_length IsListedOf inner.added (map (with_number (i - 1)) front) inner.match in
      (listed_asks laws front x back v (items ∙ parts)
      (omega (arith, ap length listed, length-append before.listed inner.added, stood, fronts, length-map front (with_number (i - 1))))).finds (turn_at (LinkOnly i (1 + length front))))
      (λ m o past row f.
      none_past links done d rest split (codes_of "only") all items m past
      (item_stands document links routers (LinkOnly i m) o (λ n. n) (listed_starts i m o row).0 f row))

  link_asks : (laws : TextLaws) (poison : Bool) (u : Sketch) → steps link_step 1 done (empty poison) ≡ Ok u
      → Asks (IsTold document links routers) (asked_at (Link (1 + length done))) (rest_at (Link (1 + length done))) (link_step (1 + length done) d u)
  unfolding link_step
  link_asks laws poison u taken =
      let added = links_added laws 0 done (empty poison) u taken in
      let names : u.links ≡ added.names = ap (λ (v : Sketch). v.links) added.made in
      let named : Matched IsNameOf u.links done = subst (λ (l : List (List ℕ)). Matched IsNameOf l done) (sym names) added.named in
      ask_wanted (as_table d &> link_fields) _ (λ none. (d, table_here links done d rest split, link_not d none))
      (λ f is h. h.2 (subst IsLinkTable (sym (table_same links done d rest split h.0 h.1)) (link_table d f is).shape))
      (λ f is.
      let table = link_table d f is in
      ask_guard (not (is_name f.name)) _ (λ bad. misnamed_told laws links done d rest split f.name table.named bad)
      (λ good h. misnamed_clear laws links done d rest split f.name table.named good h)
      (λ good.
      ask_guard (is_one_of f.name u.links) _ (λ again. again_told laws links done d rest split u.links named f.name table.named again)
      (λ fresh h. again_clear laws links done d rest split u.links named f.name table.named fresh h)
      (λ fresh.
      let i : ℕ = 1 + length done in
      let has_list = is_some f.only in
      let items = unwrap_or f.only [] in
      ask_rest (bind_finds (IsTold document links routers) (Each (prefix_rows i) 1) (Each (listed_rows i) 1) (steps (prefix_step i) 1 f.prefixes (with_link f.name has_list u)) (steps (listed_step i) 1 items)
      (prefixes_sooner i) (prefixes_find laws poison u f.name has_list taken f.prefixes table.prefixes_are)
      (λ w between. lists_find laws poison u f.name has_list f.prefixes w taken between items table.only_are)))))

pub links_find : (laws : TextLaws) (document : Members) (links routers : List Data) (poison : Bool) → Finds (IsTold document links routers) links_rows (steps link_step 1 links (empty poison))
links_find laws document links routers poison =
    steps_finds (IsTold document links routers) link_step link_rows (0 ∷ 1 ∷ []) link_starts links (empty poison)
    (λ done x rest u split taken. (link_asks document links routers done x rest split laws poison u taken).finds (turn_at (Link (1 + length done))))
    (λ m o past row f. omega (arith, link_within document links routers m o f row))

-- ---- links by their names

-- no link has the name
unknown_told : (links : List Data) (v : Sketch) → Matched IsNameOf v.links links → (x : Data) (name : List ℕ) → get (codes_of "link") x ≡ Some (string name) → number_of_name name v.links ≡ None
    → NamesNoLink links x
unknown_told links v matched x name has none = (
  name,
  has,
  λ l link listed its.
      let (m, at, of) = matched_right IsNameOf v.links links l link matched listed in
      let same : m ≡ name = text_same (codes_of "name") link m name of its in
      grind (arith, any_at (λ (y : List ℕ). bytes_eq y name) v.links l m at, name_same name, position_none (λ (y : List ℕ). bytes_eq y name) 0 v.links none),
)

-- the same of a link that may be given
attached_told : (links : List Data) (v : Sketch) → Matched IsNameOf v.links links → (x : Data) (name : Option (List ℕ)) → IsTextIf (get (codes_of "link") x) name → link_if name v.links ≡ None
    → NamesNoLink links x
attached_told links v matched x None has h = absurd (none-some None (sym h))
attached_told links v matched x (Some name) has h = unknown_told links v matched x name has (map_none (number_of_name name v.links) h)

-- ---- own prefixes

module _ (document : Members) (links routers done : List Data) (d : Data) (rest : List Data) (split : routers ≡ done ++ d ∷ rest) where
  own_asks : (laws : TextLaws) (front : List Data) (x : Data) (back : List Data) (v : Sketch) → items_in (get (codes_of "own") d) ≡ front ++ x ∷ back → Matched IsNameOf v.links links
      → length v.places ≡ length (place_spots links done) + length front
      → Asks (IsTold document links routers) (asked_at (RouterOwn (1 + length done) (1 + length front))) (λ o. ⊥) (own_step (1 + length done) (1 + length front) x v)
  unfolding own_step
  own_asks laws front x back v items named count =
      let (item, of_x) = item_at routers done d rest split (codes_of "own") front x back items in
      ask_wanted (as_table x &> own_fields) _ (λ none. (x, item, own_not x none)) (λ f is h. of_x (λ y. IsOwnTable y → ⊥) h (own_texts x f is).shape) (λ f is.
      let fields = own_texts x f is in
      ask_wanted (address_if f.via) _ (λ none. (x, item, gateway_told laws x f.via fields.via none))
      (λ via gateway h. gateway_fits x via (gateway_is laws x f.via via fields.via gateway) (of_x (HasNoAddress (codes_of "via")) h))
      (λ via gateway.
      ask_wanted (prefix_in f.prefix) _ (λ none. (x, f.prefix, item, fields.has_prefix, no_prefix laws f.prefix none))
      (λ p parsed h.
      let (text, has, bad) = of_x (λ y. (text : List ℕ) × HasText (codes_of "prefix") y text × IsNoPrefix text) (h.0, h.2, (h.1, h.3, h.4)) in
      bad p (subst (λ (t : List ℕ). IsPrefixText t p) (text_same (codes_of "prefix") x f.prefix text fields.has_prefix has) (prefix_is laws f.prefix p parsed)))
      (λ p parsed.
      ask_wanted (cost_of f.cost) _ (λ none. (x, item, cost_told (get (codes_of "cost") x) f.cost fields.cost none))
      (λ c costs h. cost_fits x c (cost_is (get (codes_of "cost") x) f.cost c fields.cost costs) (cost_within f.cost c costs) (of_x HasWrongCost h))
      (λ c costs.
      ask_wanted (link_if f.link v.links) _ (λ none. (x, item, attached_told links v named x f.link fields.link none))
      (λ l known h. attached_not v.links links named x l (link_is v.links x f.link l fields.link known) (of_x (NamesNoLink links) h))
      (λ l known.
      ask_guard (nat_le 1024 (length v.places)) _ (λ full. (length v.places, here, leb-true 1024 (length v.places) full))
      (λ free h. not_past (place_spots links routers) (place_once links routers) (length v.places) (RouterOwn (1 + length done) (1 + length front)) here free h)
      (λ free. ask_rest (λ o h g. h)))))))
    where
      here : slice_get (place_spots links routers) (length v.places) ≡ Some (RouterOwn (1 + length done) (1 + length front))
      here = rw split (own_here links done d rest front x back items (length v.places) count)

-- ---- the fields of an interface

also_told : (laws : TextLaws) (x : Data) (f : InterfaceFields) → HasInterfaceFields x f → addresses_in f.also ≡ None → HasWrongAlso x
also_told laws x f fields none = grind (arith, addresses_told, no_address)

also_length : (x : Data) (f : InterfaceFields) → HasInterfaceFields x f → (also : List ℕ) → addresses_in f.also ≡ Some also → length also ≡ length (also_items x)
also_length x f fields also others = matched_length IsReadOf also f.also (addresses_read f.also also others) ∙ ap length (sym fields.also_are)

address_clear : (laws : TextLaws) (x : Data) (f : InterfaceFields) → HasInterfaceFields x f → (a : ℕ) (also : List ℕ) → address_in f.address ≡ Some a → addresses_in f.also ≡ Some also
    → HasNoAddress (codes_of "address") x ⊎ HasWrongAlso x → ⊥
address_clear laws x f fields a also parsed others (inl (text, has, none)) =
    let same : text ≡ f.address = text_same (codes_of "address") x text f.address has fields.has_address in
    none a (subst (λ (t : List ℕ). IsAddressText t a) (sym same) (address_is laws f.address a parsed))
address_clear laws x f fields a also parsed others (inr (k, text, at, none)) =
    addresses_clear laws f.also also others k text (ap (λ (l : List Data). slice_get l k) (sym fields.also_are) ∙ at) none

metric_told : (x : Data) (f : InterfaceFields) → HasInterfaceFields x f → (c : ℕ) → cost_of f.cost ≡ Some c → direct_of c f.direct ≡ None → HasWrongDirect x
metric_told x f fields c costs none =
    let (least, most) = cost_within f.cost c costs in
    let (z, is, bad) = direct_told c (get (codes_of "direct") x) f.direct fields.direct none in
    (c, z, cost_is (get (codes_of "cost") x) f.cost c fields.cost costs, least, most, is, bad)

costs_clear : (x : Data) (f : InterfaceFields) → HasInterfaceFields x f → (c e : ℕ) → cost_of f.cost ≡ Some c → direct_of c f.direct ≡ Some e → HasWrongCost x ⊎ HasWrongDirect x → ⊥
costs_clear x f fields c e costs directs wrong = grind arith

-- ---- interfaces

self_on : (l : ℕ) (q : DraftPlace) → q.seat ≡ seats.Link l → is_on l q.seat ≡ true
self_on l q e = rw e (grind (arith, nat_tests))

-- the prefixes of a link are those of the places on it
module _ (laws : TextLaws) (links done : List Data) (poison : Bool) (v : Sketch) (read : TablesRead links done poison v)
    (differ : (l m : ℕ) (name : List ℕ) → slice_get v.links l ≡ Some name → slice_get v.links m ≡ Some name → l ≡ m) where
  has_prefix : (l k : ℕ) (q : DraftPlace) → slice_get v.places k ≡ Some q → is_on l q.seat ≡ true → HasPrefix links l q.prefix
  has_prefix l k q h on =
      let split : map placement v.places ≡ map placement read.on_links ++ map placement read.owned = ap (map placement) read.places ∙ map-append placement read.on_links read.owned in
      let at = ap (λ (ps : List Placement). slice_get ps k) (sym split) ∙ see_got placement v.places k q h in
      link_prefix links done v.links (map placement read.on_links) (map placement read.owned) read.link_prefixes read.own_prefixes l k (placement q) at (on_seat l q.seat on)

  place_has : (l : ℕ) (p : Block) → HasPrefix links l p → (k : ℕ) × (q : DraftPlace) × (slice_get v.places k ≡ Some q) × (q.seat ≡ seats.Link l) × (q.prefix ≡ p)
  place_has l p has =
      let (k, x, at, seat, (text, its, same)) = prefix_place links (map placement read.on_links) read.link_prefixes l p has in
      let (q, listed, seen) = get_seen placement read.on_links k x at in (
        k,
        q,
        rw read.places (get_left read.on_links read.owned k q listed),
        ap (λ (w : Placement). w.seat) seen ∙ seat,
        ap (λ (w : Placement). w.prefix) seen ∙ one_prefix laws text text x.prefix p refl its same,
      )

  outside_told : (x : Data) (name text : List ℕ) (a l : ℕ) → get (codes_of "link") x ≡ Some (string name)
      → get (codes_of "address") x ≡ Some (string text) → address_in text ≡ Some a
      → number_of_name name v.links ≡ Some l → is_outside l a v.places ≡ true → IsOutside links x
  outside_told x name text a l has has_text parsed h out =
      let (d, listed, named) = matched_left IsNameOf v.links links l name read.link_names (first_named name v.links l h).0 in
      let (k, q, at, on) = any_finds (λ (p : DraftPlace). is_on l p.seat) v.places (grind arith) in
      record {
        text = text;
        has_address = has_text;
        address = a;
        spelled = address_is laws text a parsed;
        name = name;
        has_link = has;
        link = l;
        link_table = d;
        listed = listed;
        named = named;
        some = (q.prefix, has_prefix l k q at on);
        none = λ p its holds.
            let (m, w, there, seat, block) = place_has l p its in
            grind (arith, nat_tests, self_on l w seat, any_at (λ (q : DraftPlace). is_on l q.seat && has_address q.prefix a) v.places m w there);
      }

  outside_clear : (x : Data) (name text : List ℕ) (a l : ℕ) → get (codes_of "link") x ≡ Some (string name)
      → get (codes_of "address") x ≡ Some (string text) → address_in text ≡ Some a
      → number_of_name name v.links ≡ Some l → is_outside l a v.places ≡ false → IsOutside links x → ⊥
  outside_clear x name text a l has has_text parsed h inside =
      inside_not laws v.links links read.link_names differ x name text l a has (first_named name v.links l h).0 has_text (address_is laws text a parsed)
      (λ p its.
      let (k, w, there, seat, block) = place_has l p its in
      let some = any_at (λ (p : DraftPlace). is_on l p.seat) v.places k w there (self_on l w seat) in
      let (n, q, listed, tests) = any_finds (λ (p : DraftPlace). is_on l p.seat && has_address p.prefix a) v.places (grind arith) in
      let (on, within) = and_parts (is_on l q.seat) (has_address q.prefix a) tests in
      (q.prefix, has_prefix l n q listed on, grind (arith, nat_tests)))

module _ (document : Members) (links routers done : List Data) (d : Data) (rest : List Data) (split : routers ≡ done ++ d ∷ rest) where
  interface_asks : (laws : TextLaws) (front : List Data) (x : Data) (back : List Data) (poison : Bool) (u v : Sketch) → items_in (get (codes_of "interface") d) ≡ front ++ x ∷ back
      → TablesRead links done poison u → ((l m : ℕ) (name : List ℕ) → slice_get u.links l ≡ Some name → slice_get u.links m ≡ Some name → l ≡ m) → v.links ≡ u.links → v.places ≡ u.places
      → length v.interfaces ≡ length (spots_under (codes_of "interface") RouterInterface 1 done) + length front → sum_by length v.also ≡ also_under done + also_in front → sum_by length v.also ≤ 1024
      → Asks (IsTold document links routers) (asked_at (RouterInterface (1 + length done) (1 + length front))) (λ o. ⊥) (interface_step (1 + length done) (1 + length front) x v)
  unfolding interface_step
  interface_asks laws front x back poison u v items read differ names places count sum few =
      let (item, of_x) = item_at routers done d rest split (codes_of "interface") front x back items in
      let named : Matched IsNameOf v.links links = subst (λ (ns : List (List ℕ)). Matched IsNameOf ns links) (sym names) read.link_names in
      ask_wanted (as_table x &> interface_fields) _ (λ none. (x, item, interface_not x none)) (λ f is h. of_x (λ y. IsInterfaceTable y → ⊥) h (interface_texts x f is).shape) (λ f is.
      let fields = interface_texts x f is in
      ask_both (address_in f.address) (λ a. addresses_in f.also) _ (λ none. (x, item, inl (f.address, fields.has_address, no_address laws f.address none)))
      (λ a parsed none. (x, item, inr (also_told laws x f fields none)))
      (λ a also parsed others h. address_clear laws x f fields a also parsed others (of_x (λ y. HasNoAddress (codes_of "address") y ⊎ HasWrongAlso y) h))
      (λ a also parsed others.
      ask_both (cost_of f.cost) (λ c. direct_of c f.direct) _ (λ none. (x, item, inl (cost_told (get (codes_of "cost") x) f.cost fields.cost none)))
      (λ c costs none. (x, item, inr (metric_told x f fields c costs none)))
      (λ c e costs directs h. costs_clear x f fields c e costs directs (of_x (λ y. HasWrongCost y ⊎ HasWrongDirect y) h))
      (λ c e costs directs.
      ask_wanted (number_of_name f.link v.links) _ (λ none. (x, item, unknown_told links v named x f.link fields.has_link none))
      (λ l known h. known_not v.links links named x f.link l fields.has_link (first_named f.link v.links l known).0 (of_x (NamesNoLink links) h))
      (λ l known.
      let its = ap (number_of_name f.link) (sym names) ∙ known in
      ask_guard (is_outside l a v.places) _
      (λ out. (x, item, outside_told laws links done poison u read differ x f.link f.address a l fields.has_link fields.has_address parsed its (ap (is_outside l a) (sym places) ∙ out)))
      (λ inside h.
      outside_clear laws links done poison u read differ x f.link f.address a l fields.has_link fields.has_address parsed its (ap (is_outside l a) (sym places) ∙ inside) (of_x (IsOutside links) h))
      (λ inside.
      ask_guard (is_full v also) _ (λ full. full_told also (also_length x f fields also others) full) (λ free h. full_clear also (also_length x f fields also others) free h)
      (λ free. ask_rest (λ o h g. h)))))))
    where
      here : slice_get (interface_spots routers) (length v.interfaces) ≡ Some (RouterInterface (1 + length done) (1 + length front))
      here = rw split (under_here (codes_of "interface") RouterInterface 1 done d rest front x back items (length v.interfaces) count)

      full_told : (also : List ℕ) → length also ≡ length (also_items x) → is_full v also ≡ true
          → IsPast 1024 (interface_spots routers) (RouterInterface (1 + length done) (1 + length front)) ⊎ IsPast 1024 (also_spots routers) (RouterInterface (1 + length done) (1 + length front))
      full_told also same full =
          elim (cases_Bool (nat_le 1024 (length v.interfaces))) [
            | inl e ↦ inl (length v.interfaces, here, leb-true 1024 (length v.interfaces) e)
            | inr e ↦
                let over : 1024 < sum_by length v.also + length also = grind (arith, nat_tests, rw e at full) in
                let last : ℕ = length (also_items x) - 1 in
                let at = also_here 1 done d rest front x back items last (omega arith) (also_under done + (also_in front + last)) refl in
                inr (also_under done + (also_in front + last), rw split at, omega arith)
          ]

      full_clear : (also : List ℕ) → length also ≡ length (also_items x) → is_full v also ≡ false
          → IsPast 1024 (interface_spots routers) (RouterInterface (1 + length done) (1 + length front)) ⊎ IsPast 1024 (also_spots routers) (RouterInterface (1 + length done) (1 + length front)) → ⊥
      full_clear also same free (inl (k, there, most)) =
          omega (arith, most, (room_for v also free).0, interface_once routers k (length v.interfaces) (RouterInterface (1 + length done) (1 + length front)) there here)
      full_clear also same free (inr (k, there, most)) =
          let at = ap (λ (l : List Data). slice_get (also_spots l) k) (sym split) ∙ there in
          omega (arith, most, (room_for v also free).1, also_within 1 done d rest front x back items k at)

-- ---- routers

module _ (document : Members) (links routers done : List Data) (d : Data) (rest : List Data) (split : routers ≡ done ++ d ∷ rest) (poison : Bool) (w u : Sketch)
    (first : steps link_step 1 links (empty poison) ≡ Ok w) (second : steps router_step 1 done w ≡ Ok u) where
  -- no two links have one name
  names_apart : (laws : TextLaws) (l m : ℕ) (name : List ℕ) → slice_get u.links l ≡ Some name → slice_get u.links m ≡ Some name → l ≡ m
  names_apart laws =
      let read = tables_read laws links done poison w u first second in
      let none : Finds (IsTold document links routers) {A = Sketch} links_rows (Ok w) =
      subst (λ (r : Result Sketch PlanError). Finds (IsTold document links routers) links_rows r) first (links_find laws document links routers poison) in
      names_differ u.links links read.link_names
      (λ i again. none (row_at codes.DuplicateName (Link i)) (i, (nth_from links i again.0 again.4).0, inr (inr (inl refl))) again)

  interfaces_find : (laws : TextLaws) (name : List ℕ) (all : List Data) → items_in (get (codes_of "interface") d) ≡ all
      → Finds (IsTold document links routers) (Each (interface_rows (1 + length done)) 1) (steps (interface_step (1 + length done)) 1 all (with_router name u))
  interfaces_find laws name all items =
      let r : ℕ = 1 + length done in
      steps_finds (IsTold document links routers) (interface_step r) (interface_rows r) (0 ∷ 2 ∷ r ∷ 1 ∷ []) (interface_starts r) all (with_router name u)
      (λ front x back v parts taken.
      let read = tables_read laws links done poison w u first second in
      let inner = interfaces_added laws r 1 front (with_router name u) v taken in
      let also : v.also ≡ u.also ++ inner.further = ap (λ (t : Sketch). t.also) inner.made in
      (interface_asks document links routers done d rest split laws front x back poison u v (items ∙ parts) read (names_apart laws) (ap (λ (t : Sketch). t.links) inner.made)
      (ap (λ (t : Sketch). t.places) inner.made)
      (stand_before (λ (i : DraftInterface). i.at) (RouterInterface r) v.interfaces u.interfaces inner.added (interface_spots done) front (ap (λ (t : Sketch). t.interfaces) inner.made)
      read.interfaces_stand inner.stand)
      (omega (
        arith,
        ap (sum_by length) also,
        sum_by-append length u.also inner.further,
        also_sum u.also (items_under (codes_of "interface") 0 done) read.also,
        also_flat 0 done,
        also_sum inner.further (map (with_number (r - 1)) front) inner.also_match,
        also_numbered (r - 1) front,
      ))
      (inner.few read.few)).finds (turn_at (RouterInterface r (1 + length front))))
      (λ m o past row f.
      none_past routers done d rest split (codes_of "interface") all items m past
      (item_stands document links routers (RouterInterface r m) o (λ n. n) (interface_starts r m o row).0 f row))

  owns_find : (laws : TextLaws) (name : List ℕ) (ins : List Data) (v0 : Sketch) → steps (interface_step (1 + length done)) 1 ins (with_router name u) ≡ Ok v0 → (all : List Data)
      → items_in (get (codes_of "own") d) ≡ all
      → Finds (IsTold document links routers) (Each (own_rows (1 + length done)) 1) (steps (own_step (1 + length done)) 1 all v0)
  owns_find laws name ins v0 between all items =
      let r : ℕ = 1 + length done in
      steps_finds (IsTold document links routers) (own_step r) (own_rows r) (0 ∷ 2 ∷ r ∷ 2 ∷ []) (own_starts r) all v0
      (λ front x back v parts taken.
      let read = tables_read laws links done poison w u first second in
      let left = interfaces_added laws r 1 ins (with_router name u) v0 between in
      let inner = owns_added laws r 1 front v0 v taken in
      let names : v.links ≡ u.links = ap (λ (t : Sketch). t.links) inner.made ∙ ap (λ (t : Sketch). t.links) left.made in
      let places : v.places ≡ u.places ++ inner.added = ap (λ (t : Sketch). t.places) inner.made ∙ ap (λ (t : Sketch). t.places ++ inner.added) left.made in
      let named = subst (λ (l : List (List ℕ)). Matched IsNameOf l links) (sym names) read.link_names in
      let count = stand_before (λ (p : DraftPlace). p.at) (RouterOwn r) v.places u.places inner.added (place_spots links done) front places read.places_stand inner.stand in
      (own_asks document links routers done d rest split laws front x back v (items ∙ parts) named count).finds (turn_at (RouterOwn r (1 + length front))))
      (λ m o past row f.
      none_past routers done d rest split (codes_of "own") all items m past
      (item_stands document links routers (RouterOwn r m) o (λ n. n) (own_starts r m o row).0 f row))

  router_asks : (laws : TextLaws) → Asks (IsTold document links routers) (asked_at (Router (1 + length done))) (rest_at (Router (1 + length done))) (router_step (1 + length done) d u)
  unfolding router_step
  router_asks laws =
      let r : ℕ = 1 + length done in
      let named = (tables_read laws links done poison w u first second).router_names in
      ask_wanted (as_table d &> router_fields) _ (λ none. (d, table_here routers done d rest split, router_not d none))
      (λ f is h. h.2 (subst IsRouterTable (sym (table_same routers done d rest split h.0 h.1)) (router_table d f.0 f.1 f.2 is).shape))
      (λ f is.
      let table = router_table d f.0 f.1 f.2 is in
      ask_guard (not (is_name f.0)) _ (λ bad. misnamed_told laws routers done d rest split f.0 table.named bad)
      (λ good h. misnamed_clear laws routers done d rest split f.0 table.named good h)
      (λ good.
      ask_guard (is_one_of f.0 u.routers) _ (λ again. again_told laws routers done d rest split u.routers named f.0 table.named again)
      (λ fresh h. again_clear laws routers done d rest split u.routers named f.0 table.named fresh h)
      (λ fresh.
      ask_rest (bind_finds (IsTold document links routers) (Each (interface_rows r) 1) (Each (own_rows r) 1) (steps (interface_step r) 1 f.1 (with_router f.0 u)) (steps (own_step r) 1 f.2)
      (interfaces_sooner r) (interfaces_find laws f.0 f.1 table.interfaces_are) (λ v between. owns_find laws f.0 f.1 v between f.2 table.owns_are)))))

pub routers_find : (laws : TextLaws) (document : Members) (links routers : List Data) (poison : Bool) (w : Sketch) → steps link_step 1 links (empty poison) ≡ Ok w
    → Finds (IsTold document links routers) routers_rows (steps router_step 1 routers w)
routers_find laws document links routers poison w first =
    steps_finds (IsTold document links routers) router_step router_rows (0 ∷ 2 ∷ []) router_starts routers w
    (λ done x rest u split taken. (router_asks document links routers done x rest split poison w u first taken laws).finds (turn_at (Router (1 + length done))))
    (λ m o past row f. omega (arith, router_within document links routers m o f row))
