-- What a `Plan` stands for, and what it keeps to find its parts.
use Rattle.std.specs.Prelude.{◌≡◌, ℕ, ◌*◌, List, length, map, string_bytes}
use Rattle.std.specs.List.{list_any}
use Rattle.std.specs.HashMap.{get, get_by_text}
use Rattle.std.specs.HashSet.{contains}
use Rattle.rip_wire.specs.Prefix.{Block}
use Rattle.rip_plan.specs.Addresses.{holder_at}
use Rattle.rip_plan.specs.Names.{number_of_name}
use Rattle.rip_plan.specs.Network.{Network, addresses_of, each_below, has_gateway, is_item, is_of, is_on, number_of_prefix, numbers_where, pair_eq, same_item}
use Rattle.rip_plan.specs.Passes.{same_prefix}
use Rattle.rip_plan.specs.Relations.{IsLawful}
use Rattle.rip_plan.specs.Seats.{is_kept}
use Rattle.rip_plan.specs.Rows.{AreCosts, AreFlags, AreOwners}
use Rattle.rip_plan.specs.declared.plan.Plan.TheInside.{Inside}

abbrev pub network_of : Inside → Network
network_of p = record {
  links = map string_bytes p.links.items;
  lists = p.lists.items;
  listed = p.listed.items;
  routers = map string_bytes p.routers.items;
  interfaces = p.interfaces.items;
  also = map (λ w. w.items) p.also.items;
  prefixes = p.prefixes.items;
  places = p.places.items;
}

-- what a plan keeps: its laws, and look-ups that find what a walk over the parts would find
pub record IsIndexed (plan : Inside) : Type 0 where
  pub lawful : IsLawful (network_of plan)
  pub on_link : map (λ w. w.items) plan.on_link.items
      ≡ each_below (length plan.links.items)
      (λ l. numbers_where (is_on l) 0 plan.interfaces.items)
  pub of_router : map (λ w. w.items) plan.of_router.items
      ≡ each_below (length plan.routers.items)
      (λ r. numbers_where (is_of r) 0 plan.interfaces.items)
  pub gateway_places : map (λ w. w.items) plan.gateway_places.items
      ≡ each_below (length plan.prefixes.items)
      (λ k. numbers_where (has_gateway k) 0 plan.places.items)
  pub names : (name : List ℕ) → get_by_text plan.names name
      ≡ number_of_name name (map string_bytes plan.links.items)
  pub router_names : (name : List ℕ) → get_by_text plan.router_names name
      ≡ number_of_name name (map string_bytes plan.routers.items)
  pub numbers : (p : Block) →
      get same_prefix plan.numbers p ≡ number_of_prefix p plan.prefixes.items
  pub carriers_room : length plan.carriers.items
      ≡ length plan.links.items * length plan.prefixes.items
  pub carriers : AreFlags (length plan.prefixes.items) plan.places.items plan.carriers.items
  pub costs_room : length plan.costs.items
      ≡ length plan.routers.items * length plan.prefixes.items
  pub costs : AreCosts (length plan.prefixes.items) plan.interfaces.items plan.places.items
      plan.costs.items
  pub owners_room : length plan.owners.items
      ≡ length plan.routers.items * length plan.prefixes.items
  pub owners : AreOwners (length plan.prefixes.items) plan.places.items plan.owners.items
  pub any_kept : plan.any_kept ≡ list_any (λ q. is_kept q.seat) plan.places.items
  pub exchanged : (l : ℕ) (b : Block) →
      contains same_item plan.exchanged (l, b) ≡ list_any (is_item l b) plan.listed.items
  pub any_list : plan.any_list ≡ list_any (λ has_list. has_list) plan.lists.items
  pub addresses : (l a : ℕ) →
      get pair_eq plan.addresses (l, a) ≡ holder_at l a (addresses_of (network_of plan))
