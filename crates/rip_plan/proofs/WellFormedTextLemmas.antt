-- Bytes without a fault are the well-formed ones.
use Rattle.std.proofs.Common.{◌≡◌, ℕ, zero, suc, ◌+◌, ◌<◌, ◌≤◌, ◌⊎◌, inl, inr, List, length, not, Some, refl, sym, ◌∙◌, ap, subst, arith}
use Rattle.std.specs.Prelude.{slice_get, get_or, codes as codes_of}
use Rattle.std.specs.List.{All}
use Rattle.std.proofs.lemmas.Bool.{cases_Bool}
use Rattle.std.proofs.lemmas.Option.{none-some, slice_get_within, get_or_from_slice_get, slice_get-get_or}
use Rattle.toml.specs.Data.{Data, Members, get, string, table}
use Rattle.rip_wire.specs.Name.{IsName}
use Rattle.rip_wire.specs.Prefix.{Block}
use Rattle.rip_plan.specs.declared.error.PlanCode.{PlanCode}
use Rattle.rip_plan.specs.declared.error.PlanCode.TheVariants as codes
use Rattle.rip_plan.specs.declared.error.PlanError.{PlanError}
use Rattle.rip_plan.specs.declared.error.At.{At}
use Rattle.rip_plan.specs.declared.error.At.TheVariants.{Text, Version, Link, LinkOnly, LinkPrefix, Router, RouterInterface, RouterOwn}
use Rattle.rip_plan.specs.Fault.{fault}
use Rattle.rip_plan.specs.Fields.{interface_fields, is_version, link_fields, own_fields, router_fields}
use Rattle.rip_plan.specs.Network.{Network}
use Rattle.rip_plan.specs.PlanFaults.{AreTwice, AstrayAt, DoMeet, FaultAt, GatewayTakenAt, HasNoAddress, HasOneTwice, HasTables, HasWrongAlso, HasWrongCost, HasWrongDirect, HaveOneAddress, IsAstray, IsBare, IsClash, IsFault, IsItem, IsNamedAgain, IsOutside, IsPast, IsSo, IsText, TableFault, also_spots, interface_spots, listed_spots, nth, place_spots}
use Rattle.rip_plan.specs.PlanOf.{AreAlsoOf, IsAddressOf, IsListedOf, IsNameOf, IsOnLink, IsPlanOfText, Matched, PlanOf, items_under}
use Rattle.rip_plan.specs.Relations.{HasOwnAddress, IsConnected, IsGatewayOfNeighbour, IsInterface, IsLawful, IsOwnAt, IsPlace}
use Rattle.rip_plan.specs.WellFormed.{IsWellFormed}
use Rattle.rip_plan.proofs.SpotLemmas.{also_items, under_item}
use Rattle.rip_plan.proofs.LawfulPlanLemmas.{not_long}
use Rattle.rip_plan.proofs.ItemLemmas.{get_left, get_past}
use Rattle.rip_plan.proofs.MatchingLemmas.{matched_length, matched_right}
use Rattle.rip_plan.proofs.OnePlanLemmas.{one_plan, text_same}
use Rattle.rip_plan.proofs.TableLemmas.{cost_fits, direct_fits, gateway_fits}
use Rattle.rip_plan.proofs.PlanPartLemmas.{attached_not, inside_not, known_not, HasInterface, HasOwn, also_counted, carrier_has, prefix_place, interfaces_count, item_under, its_interface, its_own, its_place, names_good, listed_count, places_count}
use Rattle.rip_plan.proofs.TextFaultLemmas.{one_astray, one_fault, one_taken, same_document, version_is, version_told, whole_fault}
use Rattle.rip_plan.proofs.TextLemmas.{TextLaws}
use Rattle.rip_plan.specs.Texts.{IsAddressText, IsPrefixText}
use Rattle.rip_plan.specs.DocumentTables.{IsLinkTable, IsRouterTable, IsInterfaceTable, IsOwnTable, IsRoot}
use Rattle.rip_plan.proofs.DocumentTableLemmas.{by_root, by_table, interface_not, interface_texts, link_not, link_table, own_not, own_texts, router_not, router_table}

-- ---- lists

all_at : {A : Type 0} (P : A → Type 0) (xs : List A) (k : ℕ) (x : A) → All P xs → slice_get xs k ≡ Some x → P x
all_at P xs k x all h = subst P (get_or_from_slice_get xs k x x h) (all k x (slice_get_within xs k x h))

all_from : {A : Type 0} (P : A → Type 0) (xs : List A) → ((k : ℕ) (x : A) → slice_get xs k ≡ Some x → P x) → All P xs
all_from P xs f = λ k d less. f k (get_or xs k d) (slice_get-get_or xs k d less)

-- ---- names

misnamed_not : (names : List (List ℕ)) (ds : List Data) → Matched IsNameOf names ds → (P : List ℕ → Type 0) → ((k : ℕ) (name : List ℕ) → slice_get names k ≡ Some name → P name)
    → (i : ℕ) (name : List ℕ) (d : Data) → nth ds i ≡ Some d → IsNameOf name d → P name
misnamed_not names ds named P good zero name d at its = absurd (none-some d at)
misnamed_not names ds named P good (suc k) name d at its = good k name (names_good names ds named (suc k) k name d refl at its)

again_not : (names : List (List ℕ)) (ds : List Data) → Matched IsNameOf names ds → ((k m : ℕ) (name : List ℕ) → slice_get names k ≡ Some name → slice_get names m ≡ Some name → k ≡ m) → (i : ℕ)
    → IsNamedAgain ds i → ⊥
again_not names ds named differ zero (d, earlier, k, name, at, its, less, there, theirs) = omega arith
again_not names ds named differ (suc i) (d, earlier, zero, name, at, its, less, there, theirs) = none-some earlier there
again_not names ds named differ (suc i) (d, earlier, suc k, name, at, its, less, there, theirs) =
    grind (arith, differ i k name, names_good names ds named (suc i) i name d refl at its, names_good names ds named (suc k) k name earlier refl there theirs)

-- ---- bytes that are well formed

past_not : (spots : List At) (place : At) → length spots ≤ 1024 → IsPast 1024 spots place → ⊥
past_not spots place few (k, at, past) = let within : k < length spots = slice_get_within spots k place at in let le : 1024 ≤ k = past in omega arith

clash_not : (Clash : ℕ → ℕ → Type 0) (spots : List At) (place : At) → ((j k : ℕ) → Clash j k → j ≡ k) → IsClash Clash spots place → ⊥
clash_not Clash spots place apart (j, k, at, less, meet) = let same : j ≡ k = apart j k meet in omega arith

has_fields : (Is : Data → Type 0) (ds : List Data) (i : ℕ) (d : Data) → All Is ds → nth ds i ≡ Some d → (Is d → ⊥) → ⊥
has_fields Is ds zero d all at lacks = none-some d at
has_fields Is ds (suc k) d all at lacks = lacks (all_at Is ds k d all at)

item_fields : (Is : Data → Type 0) (key : List ℕ) (ds : List Data) (i j : ℕ) (x : Data) → All (λ (at : ℕ × Data). Is at.1) (items_under key 0 ds) → IsItem key ds i j x → (Is x → ⊥) → ⊥
item_fields Is key ds i j x all item lacks =
    let u = item_under key ds i j x item in
    grind (arith, all_at (λ (at : ℕ × Data). Is at.1) (items_under key 0 ds) u.k (u.m, x) all u.at)

module _ (laws : TextLaws) (bytes : List ℕ) (w : IsWellFormed bytes) where
  -- of a network that is the plan too
  of_plan : (Is : Network → Type 0) → (n : Network) × PlanOf w.document n × Is n → Is w.network
  of_plan Is (n, its, is) = subst Is (one_plan laws w.document n w.network its w.plan) is

  outside_not : (x : Data) → HasInterface w.document w.network w.plan x → IsOutside w.plan.links x → ⊥
  outside_not x h o =
      let n = w.network in
      inside_not laws n.links w.plan.links w.plan.link_names w.lawful.link_names_differ x h.of.link_name h.of.text h.i.link h.i.address h.of.has_link h.of.link.0 h.of.has_address h.of.address
      (λ p its.
      let (k, q, at, seat, read) = prefix_place w.plan.links w.plan.on_links w.plan.link_prefixes h.i.link p its in
      let (number, place, prefix) = its_place w.document n w.plan k q (get_left w.plan.on_links w.plan.owned k q at) in
      let is : HasOwnAddress n h.k h.i.link h.i.address = record { interface = h.i; listed = h.listed; link = refl; address = refl } in
      let (other, block, on, its, contains) = w.lawful.inside h.k h.i.link h.i.address number is (k, subst (IsPlace n k number) seat place) in
      (block, carrier_has w.document n w.plan h.i.link other block on its, contains))
      o

  meet_not : (j k : ℕ) → DoMeet w.network j k → j ≡ k
  meet_not j k (p, inl (l, h, h')) = w.lawful.carried_once j k p l h h'
  meet_not j k (p, inr (r, c, d, h, h')) = w.lawful.touched_once j k p r c d h h'

  address_not : (place : At) → IsClash (HaveOneAddress w.network) (interface_spots w.plan.routers) place ⊎ IsSo (HasOneTwice w.network) (interface_spots w.plan.routers) place → ⊥
  address_not place (inl c) =
      clash_not (HaveOneAddress w.network) (interface_spots w.plan.routers) place (λ j k (l, a, h, h'). w.lawful.addresses_differ j k l a h h') c
  address_not place (inr (k, at, (l, addresses, has, (j, m, a, less, one, two)))) = let same : j ≡ m = w.lawful.addresses_once k l addresses has j m a one two in omega arith

  few_places : length (place_spots w.plan.links w.plan.routers) ≤ 1024
  few_places = let few : length w.network.places ≤ 1024 = w.lawful.few_places in omega (arith, places_count w.document w.network w.plan)

  interface_limit : (r j : ℕ) → IsPast 1024 (interface_spots w.plan.routers) (RouterInterface r j) ⊎ IsPast 1024 (also_spots w.plan.routers) (RouterInterface r j) → ⊥
  interface_limit r j (inl f) = past_not (interface_spots w.plan.routers) (RouterInterface r j) (grind (arith, w.lawful.few_interfaces, interfaces_count w.document w.network w.plan)) f
  interface_limit r j (inr f) =
      past_not (also_spots w.plan.routers) (RouterInterface r j) (omega (arith, also_counted w.document w.network w.plan)) f

  interface_cost : (x : Data) → HasInterface w.document w.network w.plan x → HasWrongCost x ⊎ HasWrongDirect x → ⊥
  interface_cost x h wrong =
      let is : IsInterface w.network h.k h.i.router h.i.link h.i.cost = record { interface = h.i; listed = h.listed; router = refl; link = refl; cost = refl } in
      let on : IsConnected w.network h.k h.i.router h.i.link h.i.direct = record { interface = h.i; listed = h.listed; router = refl; link = refl; direct = refl } in
      elim wrong [
        | inl cost ↦ cost_fits x h.i.cost h.of.cost (w.lawful.cost_least h.k _ _ _ is, w.lawful.cost_most h.k _ _ _ is) cost
        | inr direct ↦ direct_fits x h.i.cost h.i.direct h.of.cost h.of.direct (w.lawful.direct_least h.k _ _ _ on, w.lawful.direct_most h.k _ _ _ _ is on) direct
      ]

  own_cost : (x : Data) → HasOwn w.document w.network w.plan x → HasWrongCost x → ⊥
  own_cost x h wrong =
      let k = length w.plan.on_links + h.k in
      let (p, place, prefix) = its_place w.document w.network w.plan k h.q (get_past w.plan.on_links w.plan.owned h.k k refl ∙ h.listed) in
      let own : IsOwnAt w.network k p h.m h.of.own.cost = record { own = h.of.own; place = subst (IsPlace w.network k p) h.of.seat place; router = h.of.router; says = refl } in
      cost_fits x h.of.own.cost h.of.cost (w.lawful.own_cost_least k p h.m h.of.own.cost own, w.lawful.own_cost_most k p h.m h.of.own.cost own) wrong

  -- the prefix of an item
  its_text : (i j : ℕ) (x : Data) → IsItem (codes_of "prefixes") w.plan.links i j x → (text : List ℕ) × (x ≡ string text) × ((p : Block) × IsPrefixText text p)
  its_text i j x item =
      let u = item_under (codes_of "prefixes") w.plan.links i j x item in
      grind (arith, matched_right IsOnLink w.plan.on_links (items_under (codes_of "prefixes") 0 w.plan.links) u.k (u.m, x) w.plan.link_prefixes u.at)

  -- and of an item of a list
  its_listed : (i j : ℕ) (x : Data) → IsItem (codes_of "only") w.plan.links i j x → (text : List ℕ) × (x ≡ string text) × ((p : Block) × IsPrefixText text p)
  its_listed i j x item =
      let u = item_under (codes_of "only") w.plan.links i j x item in
      grind (arith, matched_right IsListedOf w.network.listed (items_under (codes_of "only") 0 w.plan.links) u.k (u.m, x) w.plan.listed u.at)

  few_listed : length (listed_spots w.plan.links) ≤ 1024
  few_listed = let few : length w.network.listed ≤ 1024 = w.lawful.few_listed in omega (arith, listed_count w.document w.network w.plan)

  address_told : (r j : ℕ) (x : Data) → IsItem (codes_of "interface") w.plan.routers r j x → HasNoAddress (codes_of "address") x ⊎ HasWrongAlso x → ⊥
  address_told r j x item (inl (text, has, none)) =
      let h = its_interface w.document w.network w.plan r j x item in
      none h.i.address (subst (λ (t : List ℕ). IsAddressText t h.i.address) (text_same (codes_of "address") x h.of.text text h.of.has_address has) h.of.address)
  address_told r j x item (inr (k, text, at, none)) =
      let u = item_under (codes_of "interface") w.plan.routers r j x item in
      let (also, listed, of) = matched_right AreAlsoOf w.network.also (items_under (codes_of "interface") 0 w.plan.routers) u.k (u.m, x) w.plan.also u.at in
      grind (arith, matched_right IsAddressOf also (also_items x) k (string text) of at, none)

  -- no fault of the tables
  table_not : (c : PlanCode) (place : At) → TableFault w.document w.plan.links w.plan.routers c place → ⊥
  table_not codes.Key (Link i) f = has_fields IsLinkTable w.plan.links i f.0 w.link_tables f.1 f.2
  table_not codes.Name (Link i) (d, name, at, its, bad) = bad (misnamed_not w.network.links w.plan.links w.plan.link_names IsName w.lawful.link_named i name d at its)
  table_not codes.DuplicateName (Link i) f = again_not w.network.links w.plan.links w.plan.link_names w.lawful.link_names_differ i f
  table_not codes.Key (LinkPrefix i j) f = let (text, is, parsed) = its_text i j f.0 f.1 in f.2 (text, is)
  table_not codes.Prefix (LinkPrefix i j) (text, item, none) =
      let (other, is, (p, parsed)) = its_text i j (string text) item in
      grind (arith, none p)
  table_not codes.Limit (LinkPrefix i j) f = past_not (place_spots w.plan.links w.plan.routers) (LinkPrefix i j) few_places f
  table_not codes.Key (LinkOnly i j) f = let (text, is, parsed) = its_listed i j f.0 f.1 in f.2 (text, is)
  table_not codes.Prefix (LinkOnly i j) (text, item, none) =
      let (other, is, (p, parsed)) = its_listed i j (string text) item in
      grind (arith, none p)
  table_not codes.Limit (LinkOnly i j) f = past_not (listed_spots w.plan.links) (LinkOnly i j) few_listed f
  table_not codes.Key (Router r) f = has_fields IsRouterTable w.plan.routers r f.0 w.router_tables f.1 f.2
  table_not codes.Name (Router r) (d, name, at, its, bad) = bad (misnamed_not w.network.routers w.plan.routers w.plan.router_names IsName w.lawful.router_named r name d at its)
  table_not codes.DuplicateName (Router r) f = again_not w.network.routers w.plan.routers w.plan.router_names w.lawful.router_names_differ r f
  table_not codes.Key (RouterInterface r j) f = item_fields IsInterfaceTable (codes_of "interface") w.plan.routers r j f.0 w.interface_tables f.1 f.2
  table_not codes.Address (RouterInterface r j) f = address_told r j f.0 f.1 f.2
  table_not codes.Cost (RouterInterface r j) f = interface_cost f.0 (its_interface w.document w.network w.plan r j f.0 f.1) f.2
  table_not codes.UnknownLink (RouterInterface r j) f =
      let h = its_interface w.document w.network w.plan r j f.0 f.1 in
      known_not w.network.links w.plan.links w.plan.link_names f.0 h.of.link_name h.i.link h.of.has_link h.of.link.0 f.2
  table_not codes.OutsidePrefix (RouterInterface r j) f = outside_not f.0 (its_interface w.document w.network w.plan r j f.0 f.1) f.2
  table_not codes.Limit (RouterInterface r j) f = interface_limit r j f
  table_not codes.Key (RouterOwn r j) f = item_fields IsOwnTable (codes_of "own") w.plan.routers r j f.0 w.own_tables f.1 f.2
  table_not codes.Address (RouterOwn r j) f = let h = its_own w.document w.network w.plan r j f.0 f.1 in gateway_fits f.0 h.of.own.via h.of.via f.2
  table_not codes.UnknownLink (RouterOwn r j) f =
      let h = its_own w.document w.network w.plan r j f.0 f.1 in
      attached_not w.network.links w.plan.links w.plan.link_names f.0 h.of.own.link h.of.link f.2
  table_not codes.Prefix (RouterOwn r j) (x, text, item, has, none) =
      let h = its_own w.document w.network w.plan r j x item in
      none h.q.prefix (subst (λ (t : List ℕ). IsPrefixText t h.q.prefix) (text_same (codes_of "prefix") x h.of.text text h.of.has_prefix has) h.of.prefix)
  table_not codes.Cost (RouterOwn r j) f = own_cost f.0 (its_own w.document w.network w.plan r j f.0 f.1) f.2
  table_not codes.Limit (RouterOwn r j) f = past_not (place_spots w.plan.links w.plan.routers) (RouterOwn r j) few_places f
  table_not codes.DuplicatePrefix (LinkPrefix i j) f =
      let spots = place_spots w.plan.links w.plan.routers in
      clash_not (DoMeet w.network) spots (LinkPrefix i j) meet_not (of_plan (λ n. IsClash (DoMeet n) spots (LinkPrefix i j)) f)
  table_not codes.DuplicatePrefix (RouterOwn r j) f =
      let spots = place_spots w.plan.links w.plan.routers in
      clash_not (DoMeet w.network) spots (RouterOwn r j) meet_not (of_plan (λ n. IsClash (DoMeet n) spots (RouterOwn r j)) f)
  table_not codes.TwiceOnLink (RouterInterface r j) f =
      let spots = interface_spots w.plan.routers in
      clash_not (AreTwice w.network) spots (RouterInterface r j) (λ i k (q, l, c, d, h, h'). w.lawful.one_on_link i k q l c d h h') (of_plan (λ n. IsClash (AreTwice n) spots (RouterInterface r j)) f)
  table_not codes.DuplicateAddress (RouterInterface r j) f =
      let spots = interface_spots w.plan.routers in
      address_not (RouterInterface r j) (of_plan (λ n. IsClash (HaveOneAddress n) spots (RouterInterface r j) ⊎ IsSo (HasOneTwice n) spots (RouterInterface r j)) f)
  table_not codes.NoInterface (Router r) f =
      let (k, number, less, none) = of_plan (λ n. IsBare n r) f in
      let (i, l, c, is) = w.lawful.one_interface k less in
      none i l c is
  table_not c place f = absurd f

  tables : HasTables bytes w.document w.plan.links w.plan.routers
  tables = record { text = w.text; has_links = w.plan.has_links; has_routers = w.plan.has_routers }

  over_not : (512 < length w.plan.links) ⊎ (128 < length w.plan.routers) → ⊥
  over_not (inl more) = let few : length w.network.links ≤ 512 = w.lawful.few_links in omega (arith, more, matched_length IsNameOf w.network.links w.plan.links w.plan.link_names)
  over_not (inr more) = let few : length w.network.routers ≤ 128 = w.lawful.few_routers in omega (arith, more, matched_length IsNameOf w.network.routers w.plan.routers w.plan.router_names)

  fault_not : (c : PlanCode) (place : At) → FaultAt bytes c place → ⊥
  fault_not codes.Syntax Text f = none-some w.document (sym f.1 ∙ w.text.reads)
  fault_not codes.Version Version f = f.2 (ap (λ (m : Members). get (codes_of "version") (table m)) (same_document bytes w.document f.0 w.text.reads f.1) ∙ w.version)
  fault_not codes.Key Text f = f.2 (subst IsRoot (sym (same_document bytes w.document f.0 w.text.reads f.1)) w.root)
  fault_not codes.Limit Text (inl more) = let few : length bytes ≤ 1048576 = w.text.short in let past : 1048576 < length bytes = more in omega arith
  fault_not codes.Limit Text (inr (other, ls, rs, has, over)) = grind (arith, tables, over_not)
  fault_not c place f = table_not c place (one_fault bytes w.document w.plan.links w.plan.routers tables c place f.0 f.1 f.2 f.3 f.4)

  gateway_not : (place : At) → GatewayTakenAt bytes place → ⊥
  gateway_not (RouterOwn r j) f =
      let its = one_taken bytes w.document w.plan.links w.plan.routers tables (RouterOwn r j) f.0 f.1 f.2 f.3 f.4 in
      let (k, at, gateway) = of_plan (λ n. IsSo (IsGatewayOfNeighbour n) (place_spots w.plan.links w.plan.routers) (RouterOwn r j)) its in
      w.lawful.gateway_no_neighbour k gateway
  gateway_not place f = absurd f

  last_not : (place : At) → AstrayAt bytes place → ⊥
  last_not (RouterOwn r j) f =
      let its = one_astray bytes w.document w.plan.links w.plan.routers tables (RouterOwn r j) f.0 f.1 f.2 f.3 f.4 in
      let (k, at, (p, q, l, h, none)) = of_plan (λ n. IsSo (IsAstray n) (place_spots w.plan.links w.plan.routers) (RouterOwn r j)) its in
      none (w.lawful.attached_there q p l (k, h))
  last_not place f = absurd f

pub is_faultless : (laws : TextLaws) (bytes : List ℕ) → IsWellFormed bytes → (e : PlanError) → IsFault bytes e → ⊥
is_faultless laws bytes w e (pass, found) = elim found [
  | inl f ↦ fault_not laws bytes w e.code e.place f.0
  | inr (inl f) ↦ gateway_not laws bytes w e.place f.0
  | inr (inr f) ↦ last_not laws bytes w e.place f.0
]

-- ---- bytes that have no fault

faultless_plan : (bytes : List ℕ) (n : Network) → ((e : PlanError) → IsFault bytes e → ⊥) → IsPlanOfText bytes n → IsLawful n → IsWellFormed bytes
faultless_plan bytes n none is lawful =
    let plan = is.plan in
    let text : IsText bytes is.document = record { short = not_long bytes none; reads = is.reads } in
    let tables : HasTables bytes is.document plan.links plan.routers = record { text = text; has_links = plan.has_links; has_routers = plan.has_routers } in
    let version = get (codes_of "version") (table is.document) in
    let no_fault : (place : At) → TableFault is.document plan.links plan.routers codes.Key place → ⊥ =
    λ place f. none (fault codes.Key place) (0, inl (whole_fault bytes is.document plan.links plan.routers tables codes.Key place f, refl)) in
    record {
      document = is.document;
      text = text;
      version = elim (cases_Bool (is_version version)) [
        | inl e ↦ version_is version e
        | inr e ↦ absurd (none (fault codes.Version Version) (0, inl ((is.document, text, version_told version (ap not e)), refl)))
      ];
      network = n;
      plan = plan;
      root = by_root is.document (λ lacks. none (fault codes.Key Text) (0, inl ((is.document, text, lacks), refl)));
      link_tables = all_from IsLinkTable plan.links (λ k d at.
          by_table IsLinkTable link_fields (λ e f h. (link_table e f h).shape) d (λ lacks. no_fault (Link (suc k)) (d, at, lacks)) (link_not d));
      router_tables = all_from IsRouterTable plan.routers (λ k d at.
          by_table IsRouterTable router_fields (λ e f h. (router_table e f.0 f.1 f.2 h).shape) d (λ lacks. no_fault (Router (suc k)) (d, at, lacks)) (router_not d));
      interface_tables = all_from (λ (at : ℕ × Data). IsInterfaceTable at.1) (items_under (codes_of "interface") 0 plan.routers) (λ k d at.
          let u = under_item (codes_of "interface") RouterInterface 1 0 plan.routers k d.0 d.1 at in
          by_table IsInterfaceTable interface_fields (λ e f h. (interface_texts e f h).shape) d.1 (λ lacks. no_fault (RouterInterface (suc u.t) (suc u.j)) (d.1, u.item, lacks)) (interface_not d.1));
      own_tables = all_from (λ (at : ℕ × Data). IsOwnTable at.1) (items_under (codes_of "own") 0 plan.routers) (λ k d at.
          let u = under_item (codes_of "own") RouterOwn 1 0 plan.routers k d.0 d.1 at in
          by_table IsOwnTable own_fields (λ e f h. (own_texts e f h).shape) d.1 (λ lacks. no_fault (RouterOwn (suc u.t) (suc u.j)) (d.1, u.item, lacks)) (own_not d.1));
      lawful = lawful;
    }

pub faultless_is : ((bytes : List ℕ) → ((e : PlanError) → IsFault bytes e → ⊥) → (n : Network) × IsPlanOfText bytes n × IsLawful n)
    → (bytes : List ℕ) → ((e : PlanError) → IsFault bytes e → ⊥) → IsWellFormed bytes
faultless_is law bytes none = let (n, is, lawful) = law bytes none in faultless_plan bytes n none is lawful
