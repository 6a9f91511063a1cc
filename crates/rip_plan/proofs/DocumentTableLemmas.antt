-- The tables whose fields are read are those that have the keys, each of its kind.
use Rattle.std.proofs.Common.{◌≡◌, ℕ, zero, suc, inl, inr, List, [], ◌∷◌, Bool, true, cond, Option, Some, None, Ordering, nat_cmp, is_eq, refl, sym, ◌∙◌, ap, subst, arith}
use Rattle.std.proofs.lemmas.Bool.{and_parts}
use Rattle.std.specs.Prelude.{is_some, slice_get, unwrap_or, codes as codes_of}
use Rattle.std.specs.List.{list_all}
use Rattle.std.specs.Str.{bytes_eq}
use Rattle.std.specs.Ordering.{match_ordering}
use Rattle.std.specs.Cmp.Lexicographic.{slice_cmp}
use Rattle.std.proofs.lemmas.Map.Text.{is_eq-slice_cmp}
use Rattle.std.proofs.lemmas.Option.{none-some, same_Some}
use Rattle.std.proofs.lemmas.Slice.Eq.{bytes_eq-Decides}
use Rattle.toml.specs.Data.{Data, Members, get, no_members, member, table, get_member, as_str, as_table}
use Rattle.rip_plan.specs.declared.limits.TheConstants.{DEFAULT_POISON}
use Rattle.rip_plan.specs.DocumentTables.{HasOnly, MayHave, IsInterfaceTable, IsLinkTable, IsOwnTable, IsRoot, IsRouterTable, IsString, IsTextList}
use Rattle.rip_plan.specs.Keys.{keys_of, the_root, a_link, a_router, an_interface, an_own}
use Rattle.rip_plan.specs.Fields.{InterfaceFields, LinkFields, OwnFields, ◌&>◌, flag_if, has_only, integer_if, interface_fields, items_at, items_if, link_fields, list_given, own_fields, root_fields, router_fields, text_at, texts_of}
use Rattle.rip_plan.specs.Names.{is_one_of}
use Rattle.rip_plan.proofs.ItemLemmas.{any_at, any_finds, cases_option}
use Rattle.rip_plan.specs.PlanOf.{HasItems, HasText, IsKeptOf, IsListGiven, IsListOf, IsNameOf, IsPoisonOf, items_in}
use Rattle.rip_plan.proofs.TableLemmas.{IsFlagIf, IsTextIf, chosen, table_is, then_some}

-- ---- keys

member_at : (key l : List ℕ) (d : Data) (ms : Members) → get_member key (member l d ms) ≡ cond (bytes_eq key l) (Some d) (get_member key ms)
member_at key l d ms = by_order (slice_cmp nat_cmp key l) ∙ ap (λ (b : Bool). cond b (Some d) (get_member key ms)) (is_eq-slice_cmp key l)
  where
    by_order : (o : Ordering) → match_ordering o (get_member key ms) (Some d) (get_member key ms) ≡ cond (is_eq o) (Some d) (get_member key ms)
    by_order o = grind arith

keys_only : (keys : List (List ℕ)) (ms : Members) → has_only keys ms ≡ true → HasOnly keys (table ms)
keys_only keys no_members h key value at = absurd (none-some value at)
keys_only keys (member l d ms) h key value at = grind (arith, member_at, any_finds, bytes_eq-Decides, keys_only keys ms (and_parts (is_one_of l keys) (has_only keys ms) h).1 key value)

only_keys : (keys : List (List ℕ)) (ms : Members) → HasOnly keys (table ms) → has_only keys ms ≡ true
only_keys keys no_members h = refl
only_keys keys (member l d ms) h =
    let self : bytes_eq l l ≡ true = (bytes_eq-Decides l l).1 refl in
    let (k, at) = h l d (member_at l l d ms ∙ rw self refl) in
    grind (arith, any_at (λ (x : List ℕ). bytes_eq x l) keys k l at self, only_keys keys ms (λ key value there. grind (arith, member_at key l d ms, h key d, h key value)))

-- ---- lists of texts

each_text : (ds : List Data) → list_all (λ x. is_some (as_str x)) ds ≡ true → (k : ℕ) (x : Data) → slice_get ds k ≡ Some x → IsString x
each_text [] h k x at = absurd (none-some x at)
each_text (d ∷ ds) h zero x at = grind arith
each_text (d ∷ ds) h (suc k) x at = each_text ds (and_parts (is_some (as_str d)) (list_all (λ x. is_some (as_str x)) ds) h).1 k x at

texts_may : (key : List ℕ) (ms : Members) (also : List Data) → (items_if (get_member key ms) &> texts_of) ≡ Some also → MayHave key (table ms) IsTextList
texts_may key ms also h d is = grind (arith, each_text)

all_texts : (ds : List Data) → ((k : ℕ) (x : Data) → slice_get ds k ≡ Some x → IsString x) → list_all (λ x. is_some (as_str x)) ds ≡ true
all_texts [] each = refl
all_texts (d ∷ ds) each = grind (arith, all_texts ds (λ k x at. each (suc k) x at), each 0 d refl)

-- ---- tables

-- what the document holds
pub record HasRootFields (doc : Members) (links routers : List Data) (poison : Bool) : Type 0 where
  pub has_links : HasItems (codes_of "link") (table doc) links
  pub has_routers : HasItems (codes_of "router") (table doc) routers
  pub has_poison : IsPoisonOf DEFAULT_POISON (table doc) poison
  pub shape : IsRoot doc

pub root_table : (doc : Members) (links routers : List Data) (poison : Bool) → root_fields doc ≡ Some (links, routers, poison) → HasRootFields doc links routers poison
unfolding root_fields
root_table doc links routers poison h =
    let (keys, h1) = chosen (has_only (keys_of the_root) doc) _ (links, routers, poison) h in
    grind (arith, keys_only)

-- what a link's table holds
pub record HasLinkFields (d : Data) (f : LinkFields) : Type 0 where
  pub named : IsNameOf f.name d
  pub prefixes_are : items_in (get (codes_of "prefixes") d) ≡ f.prefixes
  pub has_list : IsListOf (is_some f.only) d
  pub only_are : items_in (get (codes_of "only") d) ≡ unwrap_or f.only []
  pub shape : IsLinkTable d

pub link_table : (d : Data) (f : LinkFields) → (as_table d &> link_fields) ≡ Some f → HasLinkFields d f
unfolding link_fields
link_table d f h =
    let (ms, is, h1) = then_some (as_table d) link_fields f h in
    let (keys, h2) = chosen (has_only (keys_of a_link) ms) _ f h1 in
    let (a, first, h3) = then_some (text_at (codes_of "name") ms) _ f h2 in
    let (b, second, h4) = then_some (items_at (codes_of "prefixes") ms) _ f h3 in
    let (c, third, h5) = then_some (list_given (get_member (codes_of "only") ms)) _ f h4 in
    let same : record { name = a; prefixes = b; only = c } ≡ f = same_Some _ f h5 in
    rw (table_is d ms is) (subst (HasLinkFields (table ms)) same (record {
      named = grind arith;
      prefixes_are = grind arith;
      has_list = list_shown (get_member (codes_of "only") ms) c third;
      only_are = grind arith;
      shape = record {
        members = ms;
        is_table = refl;
        keys = keys_only (keys_of a_link) ms keys;
        name = grind arith;
        prefixes = grind arith;
        only = grind arith;
      };
    }))
  where
    list_shown : (o : Option Data) (given : Option (List Data)) → list_given o ≡ Some given → IsListGiven o (is_some given)
    list_shown o given h = grind arith

-- what an interface's table holds
pub record HasInterfaceFields (d : Data) (f : InterfaceFields) : Type 0 where
  pub has_link : HasText (codes_of "link") d f.link
  pub has_address : HasText (codes_of "address") d f.address
  pub cost : integer_if (get (codes_of "cost") d) ≡ Some f.cost
  pub direct : integer_if (get (codes_of "direct") d) ≡ Some f.direct
  pub also_are : items_in (get (codes_of "also") d) ≡ f.also
  pub also_texts : list_all (λ x. is_some (as_str x)) f.also ≡ true
  pub poison : IsFlagIf (get (codes_of "poison") d) f.poison
  pub shape : IsInterfaceTable d

pub interface_texts : (d : Data) (f : InterfaceFields) → (as_table d &> interface_fields) ≡ Some f → HasInterfaceFields d f
unfolding interface_fields
interface_texts d f h =
    let (ms, is, h1) = then_some (as_table d) interface_fields f h in
    let (keys, h2) = chosen (has_only (keys_of an_interface) ms) _ f h1 in
    let (a, first, h3) = then_some (text_at (codes_of "link") ms) _ f h2 in
    let (b, second, h4) = then_some (text_at (codes_of "address") ms) _ f h3 in
    let (c, third, h5) = then_some (integer_if (get_member (codes_of "cost") ms)) _ f h4 in
    let (e, fourth, h6) = then_some (integer_if (get_member (codes_of "direct") ms)) _ f h5 in
    let (g, fifth, h7) = then_some (items_if (get_member (codes_of "also") ms) &> texts_of) _ f h6 in
    let (p, sixth, h8) = then_some (flag_if (get_member (codes_of "poison") ms)) _ f h7 in
    rw (table_is d ms is) (grind (arith, keys_only, texts_may (codes_of "also") ms g fifth))

-- what an own prefix's table holds
pub record HasOwnFields (d : Data) (f : OwnFields) : Type 0 where
  pub has_prefix : HasText (codes_of "prefix") d f.prefix
  pub cost : integer_if (get (codes_of "cost") d) ≡ Some f.cost
  pub kept : IsKeptOf d f.kept
  pub link : IsTextIf (get (codes_of "link") d) f.link
  pub via : IsTextIf (get (codes_of "via") d) f.via
  pub shape : IsOwnTable d

pub own_texts : (d : Data) (f : OwnFields) → (as_table d &> own_fields) ≡ Some f → HasOwnFields d f
unfolding own_fields
own_texts d f h =
    let (ms, is, h1) = then_some (as_table d) own_fields f h in
    let (keys, h2) = chosen (has_only (keys_of an_own) ms) _ f h1 in
    let (a, first, h3) = then_some (text_at (codes_of "prefix") ms) _ f h2 in
    rw (table_is d ms is) (grind (arith, keys_only (keys_of an_own) ms keys))

-- what a router's table holds
pub record HasRouterFields (d : Data) (name : List ℕ) (interfaces owns : List Data) : Type 0 where
  pub named : IsNameOf name d
  pub interfaces_are : items_in (get (codes_of "interface") d) ≡ interfaces
  pub owns_are : items_in (get (codes_of "own") d) ≡ owns
  pub shape : IsRouterTable d

pub router_table : (d : Data) (name : List ℕ) (interfaces owns : List Data) → (as_table d &> router_fields) ≡ Some (name, interfaces, owns) → HasRouterFields d name interfaces owns
unfolding router_fields
router_table d name interfaces owns h =
    let (ms, is, h1) = then_some (as_table d) router_fields (name, interfaces, owns) h in
    rw (table_is d ms is) (grind (arith, keys_only))

-- ---- a table whose fields were not read has not its keys, each of its kind

pub link_not : (d : Data) → (as_table d &> link_fields) ≡ None → IsLinkTable d → ⊥
unfolding link_fields
link_not d none is = grind (arith, only_keys (keys_of a_link) is.members (rw is.is_table at is.keys))

pub router_not : (d : Data) → (as_table d &> router_fields) ≡ None → IsRouterTable d → ⊥
unfolding router_fields
router_not d none is = grind (arith, only_keys (keys_of a_router) is.members (rw is.is_table at is.keys))

pub interface_not : (d : Data) → (as_table d &> interface_fields) ≡ None → IsInterfaceTable d → ⊥
unfolding interface_fields
interface_not d none is = grind (arith, all_texts, only_keys (keys_of an_interface) is.members (rw is.is_table at is.keys))

pub own_not : (d : Data) → (as_table d &> own_fields) ≡ None → IsOwnTable d → ⊥
unfolding own_fields
own_not d none is = grind (arith, only_keys (keys_of an_own) is.members (rw is.is_table at is.keys))

pub string_not : (d : Data) → as_str d ≡ None → IsString d → ⊥
string_not d none (text, is) = none-some text (sym none ∙ ap as_str is)

pub root_not : (document : Members) → root_fields document ≡ None → IsRoot document → ⊥
unfolding root_fields
root_not ms none is = grind (arith, only_keys (keys_of the_root) ms is.keys)

-- a table is what was read, or was not read
pub by_table : {A : Type 0} (Is : Data → Type 0) (fields : Members → Option A) → ((d : Data) (f : A) → (as_table d &> fields) ≡ Some f → Is d) → (d : Data) → ((Is d → ⊥) → ⊥)
    → ((as_table d &> fields) ≡ None → Is d → ⊥) → Is d
by_table Is fields told d not_lacks not = elim (cases_option (as_table d &> fields)) [ inl e ↦ absurd (not_lacks (λ is. not e is)) | inr (f, e) ↦ told d f e ]

pub by_root : (document : Members) → ((IsRoot document → ⊥) → ⊥) → IsRoot document
by_root document not_lacks = elim (cases_option (root_fields document)) [ inl e ↦ absurd (not_lacks (root_not document e)) | inr (f, e) ↦ (root_table document f.0 f.1 f.2 e).shape ]
