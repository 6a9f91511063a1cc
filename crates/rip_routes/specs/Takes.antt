-- What taking a line's route answers and leaves.
use Rattle.std.specs.Prelude.{◌≡◌, ◌⊎◌, Bool, true, false, Some, Result, Ok, Err}
use Rattle.rip_table.specs.State.{is_among}
use Rattle.rip_log.specs.Logs.{IfElse}
use Rattle.rip_routes.specs.OwnTables.{OwnTables}
use Rattle.rip_routes.specs.Telling.{has_hop, tell, with_told}
use Rattle.rip_routes.specs.Ways.{hops_of}
use Rattle.rip_routes.specs.declared.error.RoutesCause.{RoutesCause}
use Rattle.rip_routes.specs.declared.error.RoutesCause.TheVariants as causes
use Rattle.rip_routes.specs.declared.next_hop.NextHop.{NextHop}
use Rattle.rip_routes.specs.declared.told.Told.{Told}
use Rattle.rip_routes.specs.declared.told.Way.TheVariants.{To}

abbrev pub is_memory : RoutesCause → Bool
is_memory causes.Memory = true
is_memory other = false

abbrev pub is_read : RoutesCause → Bool
is_read causes.Read = true
is_read other = false

-- the line tells a prefix or a next hop that is new: it wants memory
abbrev pub BringsNew : OwnTables → Told → Type 0
BringsNew t told =
    (is_among told.prefix t.prefixes ≡ false)
    ⊎ ((hop : NextHop) × (told.way ≡ Some (To hop))
    × (has_hop hop (hops_of (t.routes told.router told.prefix)) ≡ false))

-- a line that is not refused may want memory
pub record WantsMemory (t : OwnTables) (told : Told) : Type 0 where
  pub good : tell t told ≡ Ok (with_told t told)
  pub brings : BringsNew t told

abbrev pub Takes : OwnTables → Told → OwnTables → Result (Unit {0}) RoutesCause → Type 0
Takes old told new (Ok u) = tell old told ≡ Ok new
Takes old told new (Err cause) =
    IfElse (is_memory cause) (WantsMemory old told) (tell old told ≡ Err cause)
