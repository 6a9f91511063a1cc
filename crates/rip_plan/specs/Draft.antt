-- What was read of a plan so far, and each step of the first pass over its text.
use Rattle.std.specs.Prelude.{◌≡◌, ℕ, ◌+◌, ◌-◌, ◌/◌, List, [], ◌∷◌, ◌++◌, length, map, Bool, ◌&&◌, ◌||◌, not, ◌==◌, nat_le, nat_lt, Result, Ok, Err, if◌then◌else◌, is_some, string_bytes, unwrap_or}
use Rattle.std.specs.List.{list_any, sum_by}
use Rattle.toml.specs.Data.{Data, as_str, as_table}
use Rattle.rip_wire.specs.Address.{address_in}
use Rattle.rip_wire.specs.Name.{is_name}
use Rattle.rip_wire.specs.Prefix.{Block, prefix_in, size_of}
use Rattle.rip_plan.specs.declared.error.PlanCode.TheVariants as codes
use Rattle.rip_plan.specs.declared.error.PlanError.{PlanError}
use Rattle.rip_plan.specs.declared.error.At.{At}
use Rattle.rip_plan.specs.declared.error.At.TheVariants.{Link, LinkOnly, LinkPrefix, Router, RouterInterface, RouterOwn}
use Rattle.rip_plan.specs.declared.error.ReadError.{ReadError}
use Rattle.rip_plan.specs.declared.draft.Draft.{Draft}
use Rattle.rip_plan.specs.declared.draft.DraftInterface.{DraftInterface}
use Rattle.rip_plan.specs.declared.draft.DraftPlace.{DraftPlace}
use Rattle.rip_plan.specs.declared.limits.TheConstants.{MOST_ALSO, MOST_INTERFACES, MOST_LISTED, MOST_PLACES}
use Rattle.rip_plan.specs.declared.parts.Listed.{Listed}
use Rattle.rip_plan.specs.declared.parts.Seat.{Seat}
use Rattle.rip_plan.specs.declared.parts.Seat.TheVariants as seats
use Rattle.rip_plan.specs.Names.{is_one_of, number_of_name}
use Rattle.rip_plan.specs.Seats.{is_on}
use Rattle.rip_plan.specs.Fault.{fault, ◌>>=◌, wanted, steps, Fails}
use Rattle.rip_plan.specs.Fields.{◌&>◌, link_fields, interface_fields, own_fields, router_fields, cost_of, direct_of, addresses_in, address_if, link_if}

-- what was read: names, whether each link has a list and what stands in the lists, whether
-- interfaces poison that do not say it, interfaces with the further addresses of each, and places
-- of prefixes; interfaces and places with where they stand in the text
pub record Sketch : Type 0 where
  pub links : List (List ℕ)
  pub lists : List Bool
  pub listed : List Listed
  pub routers : List (List ℕ)
  pub poison : Bool
  pub interfaces : List DraftInterface
  pub also : List (List ℕ)
  pub places : List DraftPlace

abbrev pub sketch : Draft → Sketch
sketch d = record {
  links = map string_bytes d.links.items;
  lists = d.lists.items;
  listed = d.listed.items;
  routers = map string_bytes d.routers.items;
  poison = d.poison;
  interfaces = d.interfaces.items;
  also = map (λ w. w.items) d.also.items;
  places = d.places.items;
}

-- what a step did with the draft
abbrev pub Steps : Sketch → Sketch → Result (Unit {0}) ReadError
    → (Sketch → Result Sketch PlanError) → Type 0
Steps old new (Ok u) step = step old ≡ Ok new
Steps old new (Err e) step = Fails e (step old)

-- one more place of a prefix, where there are not the most already
abbrev pub with_place : At → Block → Seat → Sketch → Result Sketch PlanError
with_place at prefix seat s =
    if nat_le MOST_PLACES (length s.places) then Err (fault codes.Limit at)
    else Ok (record s {
      places =
          s.places ++ record { prefix = prefix; seat = seat; at = at } ∷ [];
    })

-- prefix j of link i
unfoldable pub prefix_step : ℕ → ℕ → Data → Sketch → Result Sketch PlanError
prefix_step i j d s =
    wanted (fault codes.Key (LinkPrefix i j)) (as_str d) >>= (λ text.
    wanted (fault codes.Prefix (LinkPrefix i j)) (prefix_in text) >>= (λ prefix.
    with_place (LinkPrefix i j) prefix (seats.Link (i - 1)) s))

-- one more link, which has a list or none
abbrev pub with_link : List ℕ → Bool → Sketch → Sketch
with_link name has_list s =
    record s { links = s.links ++ name ∷ []; lists = s.lists ++ has_list ∷ [] }

-- prefix j in the list of link i
unfoldable pub listed_step : ℕ → ℕ → Data → Sketch → Result Sketch PlanError
listed_step i j d s =
    wanted (fault codes.Key (LinkOnly i j)) (as_str d) >>= (λ text.
    wanted (fault codes.Prefix (LinkOnly i j)) (prefix_in text) >>= (λ prefix.
    if nat_le MOST_LISTED (length s.listed) then Err (fault codes.Limit (LinkOnly i j))
    else Ok (record s { listed = s.listed ++ record { link = i - 1; prefix = prefix } ∷ [] })))

-- link i
unfoldable pub link_step : ℕ → Data → Sketch → Result Sketch PlanError
link_step i d s =
    wanted (fault codes.Key (Link i)) (as_table d &> link_fields) >>= (λ f.
    if not (is_name f.name) then Err (fault codes.Name (Link i))
    else if is_one_of f.name s.links then Err (fault codes.DuplicateName (Link i))
    else steps (prefix_step i) 1 f.prefixes (with_link f.name (is_some f.only) s)
    >>= steps (listed_step i) 1 (unwrap_or f.only []))

-- the prefix contains the address
abbrev pub has_address : Block → ℕ → Bool
has_address p a = a / size_of p.prefix_len == p.network / size_of p.prefix_len

-- the link has prefixes, and none contains the address
abbrev pub is_outside : ℕ → ℕ → List DraftPlace → Bool
is_outside l a ps =
    list_any (λ p. is_on l p.seat) ps
    && not (list_any (λ p. is_on l p.seat && has_address p.prefix a) ps)

-- there are the most interfaces already, or too many further addresses with these
abbrev pub is_full : Sketch → List ℕ → Bool
is_full s also =
    nat_le MOST_INTERFACES (length s.interfaces)
    || nat_lt MOST_ALSO (sum_by length s.also + length also)

-- one more interface, with its further addresses
abbrev pub with_interface : DraftInterface → List ℕ → Sketch → Sketch
with_interface i also s =
    record s { interfaces = s.interfaces ++ i ∷ []; also = s.also ++ also ∷ [] }

-- interface j of router r
unfoldable pub interface_step : ℕ → ℕ → Data → Sketch → Result Sketch PlanError
interface_step r j d s =
    wanted (fault codes.Key (RouterInterface r j)) (as_table d &> interface_fields) >>= (λ f.
    wanted (fault codes.Address (RouterInterface r j)) (address_in f.address) >>= (λ address.
    wanted (fault codes.Address (RouterInterface r j)) (addresses_in f.also) >>= (λ also.
    wanted (fault codes.Cost (RouterInterface r j)) (cost_of f.cost) >>= (λ cost.
    wanted (fault codes.Cost (RouterInterface r j)) (direct_of cost f.direct) >>= (λ direct.
    wanted (fault codes.UnknownLink (RouterInterface r j)) (number_of_name f.link s.links)
    >>= (λ link.
    if is_outside link address s.places then Err (fault codes.OutsidePrefix (RouterInterface r j))
    else if is_full s also then Err (fault codes.Limit (RouterInterface r j))
    else Ok (with_interface (record {
      interface = record {
        router = r - 1;
        link = link;
        address = address;
        cost = cost;
        direct = direct;
        poison = unwrap_or f.poison s.poison;
      };
      at = RouterInterface r j;
    }) also s)))))))

-- own prefix j of router r
unfoldable pub own_step : ℕ → ℕ → Data → Sketch → Result Sketch PlanError
own_step r j d s =
    wanted (fault codes.Key (RouterOwn r j)) (as_table d &> own_fields) >>= (λ f.
    wanted (fault codes.Address (RouterOwn r j)) (address_if f.via) >>= (λ via.
    wanted (fault codes.Prefix (RouterOwn r j)) (prefix_in f.prefix) >>= (λ prefix.
    wanted (fault codes.Cost (RouterOwn r j)) (cost_of f.cost) >>= (λ cost.
    wanted (fault codes.UnknownLink (RouterOwn r j)) (link_if f.link s.links) >>= (λ link.
    with_place (RouterOwn r j) prefix (seats.Own (record {
      router = r - 1;
      cost = cost;
      kept = f.kept;
      link = link;
      via = via;
    })) s)))))

-- router r
unfoldable pub router_step : ℕ → Data → Sketch → Result Sketch PlanError
router_step r d s =
    wanted (fault codes.Key (Router r)) (as_table d &> router_fields) >>= (λ f.
    if not (is_name f.0) then Err (fault codes.Name (Router r))
    else if is_one_of f.0 s.routers then Err (fault codes.DuplicateName (Router r))
    else steps (interface_step r) 1 f.1 (record s { routers = s.routers ++ f.0 ∷ [] })
    >>= steps (own_step r) 1 f.2)
