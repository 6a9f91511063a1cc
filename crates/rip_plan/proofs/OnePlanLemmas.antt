-- A document has one plan.
use Rattle.std.proofs.Common.{◌≡◌, ℕ, ◌⊎◌, List, ◌++◌, map, Bool, true, false, Option, Some, None, refl, sym, ◌∙◌, ap, subst, arith}
use Rattle.std.specs.Prelude.{pos, codes as codes_of}
use Rattle.std.proofs.lemmas.Option.{none-some, same_Some}
use Rattle.toml.specs.Data.{Data, Members, array, string, boolean, integer, table, get}
use Rattle.rip_wire.specs.Prefix.{Block}
use Rattle.rip_plan.specs.declared.limits.TheConstants.{DEFAULT_COST, DEFAULT_POISON}
use Rattle.rip_plan.specs.declared.parts.Interface.{Interface}
use Rattle.rip_plan.specs.declared.parts.Listed.{Listed}
use Rattle.rip_plan.specs.declared.parts.Place.{Place}
use Rattle.rip_plan.specs.Passes.{same_prefix}
use Rattle.rip_plan.specs.Network.{Network}
use Rattle.rip_plan.specs.PlanOf.{HasText, HasItems, IsAddressOf, AreAlsoOf, IsCostOf, IsDirectOf, IsFlagOf, IsGatewayOf, IsLinkOf, IsListOf, IsListedOf, IsNameOf, items_in, IsInterfaceOf, Placement, IsOnLink, IsOwned, IsPlaceOf, each_once, PlanOf, IsFirstNamed}
use Rattle.rip_plan.proofs.ItemLemmas.{distinct_at}
use Rattle.rip_plan.proofs.NumberingLemmas.{once_distinct, same_self}
use Rattle.rip_plan.proofs.MatchingLemmas.{matched_same}
use Rattle.rip_plan.proofs.TextLemmas.{TextLaws, one_address, one_prefix, one_named}

pub text_same : (key : List ℕ) (d : Data) (s t : List ℕ) → HasText key d s → HasText key d t → s ≡ t
text_same key d s t h k = let same : string s ≡ string t = same_Some (string s) (string t) (sym h ∙ k) in cc

pub items_same : (key : List ℕ) (d : Data) (xs ys : List Data) → HasItems key d xs → HasItems key d ys → xs ≡ ys
items_same key d xs ys (i, h, e) (j, k, f) = grind arith

-- what stands there, or what is meant where nothing stands
either_same : {A : Type 0} (o : Option Data) (make : A → Data) → ((x y : A) → make x ≡ make y → x ≡ y) → (b c : A) → b ≡ c → (x y : A)
    → (o ≡ Some (make x)) ⊎ ((o ≡ None) × (x ≡ b)) → (o ≡ Some (make y)) ⊎ ((o ≡ None) × (y ≡ c)) → x ≡ y
either_same o make h b c k x y g e = grind arith

one_number : (x y : ℕ) → integer (pos x) ≡ integer (pos y) → x ≡ y
one_number x y same = let whole : pos x ≡ pos y = cc in cc

pub cost_same : (d : Data) (b c : ℕ) → IsCostOf d b → IsCostOf d c → b ≡ c
cost_same d b c h k = either_same (get (codes_of "cost") d) (λ x. integer (pos x)) one_number DEFAULT_COST DEFAULT_COST refl b c h k

direct_same : (d : Data) (b c : ℕ) → b ≡ c → (x y : ℕ) → IsDirectOf d b x → IsDirectOf d c y → x ≡ y
direct_same d b c e x y h k = either_same (get (codes_of "direct") d) (λ x. integer (pos x)) one_number b c e x y h k

flag_same : (key : List ℕ) (d : Data) (b c : Bool) → b ≡ c → (x y : Bool) → IsFlagOf key b d x → IsFlagOf key c d y → x ≡ y
flag_same key d b c e x y h k = either_same (get key d) boolean (λ x y same. cc) b c e x y h k

link_same : (names others : List (List ℕ)) → names ≡ others → (d : Data) (l m : Option ℕ) → IsLinkOf names d l → IsLinkOf others d m → l ≡ m
link_same names others h d l m k g = grind arith

gateway_same : (laws : TextLaws) (d : Data) (a b : Option ℕ) → IsGatewayOf d a → IsGatewayOf d b → a ≡ b
gateway_same laws d None None h k = refl
gateway_same laws d None (Some b) h k = absurd (none-some _ (sym h ∙ k.1))
gateway_same laws d (Some a) None h k = absurd (none-some _ (sym k ∙ h.1))
gateway_same laws d (Some a) (Some b) h k = let one : h.0 ≡ k.0 = text_same (codes_of "via") d h.0 k.0 h.1 k.1 in ap (λ (n : ℕ). Some n) (one_address laws h.0 k.0 a b one h.2 k.2)

interface_same : (laws : TextLaws) (names others : List (List ℕ)) → names ≡ others → (b c : Bool) → b ≡ c → (x y : Interface) (at : ℕ × Data) → IsInterfaceOf names b x at
    → IsInterfaceOf others c y at → x ≡ y
interface_same laws names others same b c root x y at h k =
    let name = text_same (codes_of "link") at.1 h.link_name k.link_name h.has_link k.has_link in
    let link : x.link ≡ y.link = one_named names h.link_name k.link_name x.link y.link name h.link (subst (λ (ns : List (List ℕ)). IsFirstNamed ns k.link_name y.link) (sym same) k.link) in
    grind (arith, one_address, text_same, cost_same, direct_same, flag_same)

address_same : (laws : TextLaws) (a b : ℕ) (d : Data) → IsAddressOf a d → IsAddressOf b d → a ≡ b
address_same laws a b d (t, h, is) (u, k, its) =
    let one : t ≡ u = cc in
    one_address laws t u a b one is its

also_same : (laws : TextLaws) (xs ys : List ℕ) (at : ℕ × Data) → AreAlsoOf xs at → AreAlsoOf ys at → xs ≡ ys
also_same laws xs ys at h k = matched_same IsAddressOf IsAddressOf (address_same laws) xs ys (items_in (get (codes_of "also") at.1)) h k

list_same : (b c : Bool) (d : Data) → IsListOf b d → IsListOf c d → b ≡ c
list_same true true d h k = refl
list_same true false d h k = absurd (none-some (array h.0) (sym k ∙ h.1))
list_same false true d h k = absurd (none-some (array k.0) (sym h ∙ k.1))
list_same false false d h k = refl

listed_same : (laws : TextLaws) (x y : Listed) (at : ℕ × Data) → IsListedOf x at → IsListedOf y at → x ≡ y
listed_same laws x y at h k = grind (arith, one_prefix)

on_link_same : (laws : TextLaws) (x y : Placement) (at : ℕ × Data) → IsOnLink x at → IsOnLink y at → x ≡ y
on_link_same laws x y at h k = grind (arith, one_prefix)

owned_same : (laws : TextLaws) (names others : List (List ℕ)) → names ≡ others → (x y : Placement) (at : ℕ × Data) → IsOwned names x at → IsOwned others y at → x ≡ y
owned_same laws names others same x y at h k = grind (arith, text_same, cost_same, flag_same, link_same, gateway_same, one_prefix)

place_same : (n m : Network) (bs : List Block) → n.prefixes ≡ each_once bs → n.prefixes ≡ m.prefixes → (x y : Place) (p : Placement) → IsPlaceOf n x p → IsPlaceOf m y p → x ≡ y
place_same n m bs once same x y p h k = grind (arith, distinct_at same_prefix (each_once bs) x.prefix y.prefix p.prefix p.prefix (once_distinct bs), same_self p.prefix)

pub one_plan : (laws : TextLaws) (document : Members) (n m : Network) → PlanOf document n → PlanOf document m → n ≡ m
one_plan laws document n m p q =
    let link_tables : q.links ≡ p.links = items_same (codes_of "link") (table document) q.links p.links q.has_links p.has_links in
    let router_tables : q.routers ≡ p.routers = items_same (codes_of "router") (table document) q.routers p.routers q.has_routers p.has_routers in
    let names : n.links ≡ m.links = matched_same IsNameOf IsNameOf (λ x y d h k. text_same (codes_of "name") d x y h k) _ _ _ p.link_names (rw link_tables at q.link_names) in
    let others : n.routers ≡ m.routers = matched_same IsNameOf IsNameOf (λ x y d h k. text_same (codes_of "name") d x y h k) _ _ _ p.router_names (rw router_tables at q.router_names) in
    let lists : n.lists ≡ m.lists = matched_same IsListOf IsListOf list_same _ _ _ p.lists (rw link_tables at q.lists) in
    let listed : n.listed ≡ m.listed = matched_same IsListedOf IsListedOf (listed_same laws) _ _ _ p.listed (rw link_tables at q.listed) in
    let poison : p.poison ≡ q.poison = flag_same (codes_of "poison") (table document) DEFAULT_POISON DEFAULT_POISON refl p.poison q.poison p.has_poison q.has_poison in
    let interfaces : n.interfaces ≡ m.interfaces =
    matched_same _ _ (interface_same laws n.links m.links names p.poison q.poison poison) _ _ _ p.interfaces (rw router_tables at q.interfaces) in
    let also : n.also ≡ m.also = matched_same AreAlsoOf AreAlsoOf (also_same laws) _ _ _ p.also (rw router_tables at q.also) in
    let on_links : p.on_links ≡ q.on_links = matched_same IsOnLink IsOnLink (on_link_same laws) _ _ _ p.link_prefixes (rw link_tables at q.link_prefixes) in
    let owned : p.owned ≡ q.owned = matched_same _ _ (owned_same laws n.links m.links names) _ _ _ p.own_prefixes (rw router_tables at q.own_prefixes) in
    let placements : q.on_links ++ q.owned ≡ p.on_links ++ p.owned = ap (λ (ps : List Placement). ps ++ q.owned) (sym on_links) ∙ ap (λ (ps : List Placement). p.on_links ++ ps) (sym owned) in
    let prefixes : n.prefixes ≡ m.prefixes = p.prefixes ∙ ap (λ (ps : List Placement). each_once (map (λ (x : Placement). x.prefix) ps)) (sym placements) ∙ sym q.prefixes in
    let places : n.places ≡ m.places =
    matched_same _ _ (place_same n m (map (λ (x : Placement). x.prefix) (p.on_links ++ p.owned)) p.prefixes prefixes) _ _ _ p.places (rw placements at q.places) in
    rw (← names, ← lists, ← listed, ← others, ← interfaces, ← also, ← prefixes, ← places) refl
