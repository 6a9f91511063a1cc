-- The tables of a plan's document, by their keys.
use Rattle.std.specs.Prelude.{ℕ, ℤ, pos, negsuc, List, [], ◌∷◌, codes, Bool, true, false, ◌&&◌, ◌==◌, nat_le, Option, Some, None, is_some, option_and_then, option_map, unwrap_or, if◌then◌else◌}
use Rattle.std.specs.List.{list_all}
use Rattle.toml.specs.Data.{Data, integer, Items, no_items, item, Members, no_members, member, get_member, as_bool, as_str, as_integer, as_array}
use Rattle.rip_wire.specs.Address.{address_in}
use Rattle.rip_plan.specs.declared.limits.TheConstants.{DEFAULT_COST, DEFAULT_KEPT, DEFAULT_POISON, MOST_COST}
use Rattle.rip_plan.specs.Keys.{keys_of, the_root, a_link, a_router, an_interface, an_own}
use Rattle.rip_plan.specs.Names.{is_one_of, number_of_name}

infixl 10 ◌&>◌
abbrev pub ◌&>◌ : {A B : Type 0} → Option A → (A → Option B) → Option B
o &> f = option_and_then f o

-- every key is one of these
abbrev pub has_only : List (List ℕ) → Members → Bool
has_only keys no_members = true
has_only keys (member k d ms) = is_one_of k keys && has_only keys ms

-- the items as a list
abbrev pub list_of : Items → List Data
list_of no_items = []
list_of (item d ds) = d ∷ list_of ds

abbrev pub text_at : List ℕ → Members → Option (List ℕ)
text_at key ms = option_and_then as_str (get_member key ms)

abbrev pub items_at : List ℕ → Members → Option (List Data)
items_at key ms = option_map list_of (option_and_then as_array (get_member key ms))

-- the items of a list, and none where nothing stands
abbrev pub items_if : Option Data → Option (List Data)
items_if None = Some []
items_if (Some d) = option_map list_of (as_array d)

-- nothing, an integer, or a value of another kind
abbrev pub integer_if : Option Data → Option (Option ℤ)
integer_if None = Some None
integer_if (Some d) = option_map Some (as_integer d)

-- nothing, a flag, or a value of another kind
abbrev pub flag_if : Option Data → Option (Option Bool)
flag_if None = Some None
flag_if (Some d) = option_map Some (as_bool d)

-- nothing, the items of a list, or a value of another kind
abbrev pub list_given : Option Data → Option (Option (List Data))
list_given None = Some None
list_given (Some d) = option_map (λ items. Some (list_of items)) (as_array d)

-- what a link's table gives
pub record LinkFields : Type 0 where
  pub name : List ℕ
  pub prefixes : List Data
  pub only : Option (List Data)

-- the name and the prefixes of a link's table, and its list, if it has one
unfoldable pub link_fields : Members → Option LinkFields
link_fields ms =
    if has_only (keys_of a_link) ms then
    (text_at (codes "name") ms &> (λ name.
    items_at (codes "prefixes") ms &> (λ prefixes.
    list_given (get_member (codes "only") ms) &> (λ only.
    Some (record { name = name; prefixes = prefixes; only = only })))))
    else None

-- a list of texts
abbrev pub texts_of : List Data → Option (List Data)
texts_of ds = if list_all (λ d. is_some (as_str d)) ds then Some ds else None

-- what an interface's table gives
pub record InterfaceFields : Type 0 where
  pub link : List ℕ
  pub address : List ℕ
  pub cost : Option ℤ
  pub direct : Option ℤ
  pub also : List Data
  pub poison : Option Bool

-- the link, the address, the cost, the direct metric and the further addresses of an interface's
-- table, and whether it poisons
unfoldable pub interface_fields : Members → Option InterfaceFields
interface_fields ms =
    if has_only (keys_of an_interface) ms then
    (text_at (codes "link") ms &> (λ link.
    text_at (codes "address") ms &> (λ address.
    integer_if (get_member (codes "cost") ms) &> (λ cost.
    integer_if (get_member (codes "direct") ms) &> (λ direct.
    items_if (get_member (codes "also") ms) &> texts_of &> (λ also.
    flag_if (get_member (codes "poison") ms) &> (λ poison.
    Some (record {
      link = link;
      address = address;
      cost = cost;
      direct = direct;
      also = also;
      poison = poison;
    }))))))))
    else None

abbrev pub is_between : ℕ → ℕ → ℕ → Bool
is_between low high n = nat_le low n && nat_le n high

-- a given cost, the default where none is, and nothing outside 1 to 15
abbrev pub cost_of : Option ℤ → Option ℕ
cost_of None = Some DEFAULT_COST
cost_of (Some (pos n)) = if is_between 1 MOST_COST n then Some n else None
cost_of (Some (negsuc n)) = None

-- a given direct metric, the cost where none is given, and nothing outside 1 to the cost
abbrev pub direct_of : ℕ → Option ℤ → Option ℕ
direct_of cost None = Some cost
direct_of cost (Some (pos n)) = if is_between 1 cost n then Some n else None
direct_of cost (Some (negsuc n)) = None

-- the addresses of these texts, and nothing where one is no address
abbrev pub addresses_in : List Data → Option (List ℕ)
addresses_in [] = Some []
addresses_in (d ∷ ds) =
    as_str d &> address_in &> (λ a. addresses_in ds &> (λ others. Some (a ∷ others)))

-- what an own prefix's table gives
pub record OwnFields : Type 0 where
  pub prefix : List ℕ
  pub cost : Option ℤ
  pub kept : Bool
  pub link : Option (List ℕ)
  pub via : Option (List ℕ)

-- nothing, a text, or a value of another kind
abbrev pub text_if : Option Data → Option (Option (List ℕ))
text_if None = Some None
text_if (Some d) = option_map Some (as_str d)

-- the prefix, the cost, whether it is kept, the link and the gateway of an own prefix's table
unfoldable pub own_fields : Members → Option OwnFields
own_fields ms =
    if has_only (keys_of an_own) ms then
    (text_at (codes "prefix") ms &> (λ prefix.
    integer_if (get_member (codes "cost") ms) &> (λ cost.
    flag_if (get_member (codes "kept") ms) &> (λ kept.
    text_if (get_member (codes "link") ms) &> (λ link.
    text_if (get_member (codes "via") ms) &> (λ via.
    Some (record {
      prefix = prefix;
      cost = cost;
      kept = unwrap_or kept DEFAULT_KEPT;
      link = link;
      via = via;
    })))))))
    else None

-- the address of a given text, nothing where none is given; `None` where the text is no address
abbrev pub address_if : Option (List ℕ) → Option (Option ℕ)
address_if None = Some None
address_if (Some text) = option_map Some (address_in text)

-- the number of the link of a given name, nothing where none is given; `None` where no link has it
abbrev pub link_if : Option (List ℕ) → List (List ℕ) → Option (Option ℕ)
link_if None links = Some None
link_if (Some name) links = option_map Some (number_of_name name links)

-- the name, the interfaces and the own prefixes of a router's table
unfoldable pub router_fields : Members → Option (List ℕ × List Data × List Data)
router_fields ms =
    if has_only (keys_of a_router) ms then
    (text_at (codes "name") ms &> (λ name.
    items_at (codes "interface") ms &> (λ interfaces.
    items_if (get_member (codes "own") ms) &> (λ owns.
    Some (name, interfaces, owns)))))
    else None

-- a list that is not empty
abbrev pub some_items : List Data → Option (List Data)
some_items [] = None
some_items (d ∷ ds) = Some (d ∷ ds)

-- the links and the routers of the document, and whether interfaces poison that do not say it
unfoldable pub root_fields : Members → Option (List Data × List Data × Bool)
root_fields ms =
    if has_only (keys_of the_root) ms then
    (items_at (codes "link") ms &> some_items &> (λ links.
    items_at (codes "router") ms &> some_items &> (λ routers.
    flag_if (get_member (codes "poison") ms) &> (λ poison.
    Some (links, routers, unwrap_or poison DEFAULT_POISON)))))
    else None

-- the version is the integer 1
abbrev pub is_version : Option Data → Bool
is_version (Some (integer (pos n))) = n == 1
is_version _ = false
