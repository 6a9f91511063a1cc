-- What it is for bytes to be the text of a plan, in the words of the document and apart from any
-- order of faults.
use Rattle.std.specs.Prelude.{◌≡◌, ℕ, pos, List, codes, Some}
use Rattle.std.specs.List.{All}
use Rattle.toml.specs.Data.{Members, get, integer, table}
use Rattle.rip_plan.specs.DocumentTables.{IsInterfaceTable, IsLinkTable, IsOwnTable, IsRoot, IsRouterTable}
use Rattle.rip_plan.specs.Network.{Network}
use Rattle.rip_plan.specs.PlanFaults.{IsText}
use Rattle.rip_plan.specs.PlanOf.{PlanOf, items_under}
use Rattle.rip_plan.specs.Relations.{IsLawful}

-- the bytes are a document of version 1 with the known keys, whose plan keeps the laws
pub record IsWellFormed (bytes : List ℕ) : Type 0 where
  pub document : Members
  pub text : IsText bytes document
  pub version : get (codes "version") (table document) ≡ Some (integer (pos 1))
  pub network : Network
  pub plan : PlanOf document network
  pub root : IsRoot document
  pub link_tables : All IsLinkTable plan.links
  pub router_tables : All IsRouterTable plan.routers
  pub interface_tables : All (λ at. IsInterfaceTable at.1)
      (items_under (codes "interface") 0 plan.routers)
  pub own_tables : All (λ at. IsOwnTable at.1) (items_under (codes "own") 0 plan.routers)
  pub lawful : IsLawful network
