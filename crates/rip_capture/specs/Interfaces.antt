-- The interface of its file that a captured packet came by.
use Rattle.std.specs.Prelude.{ℕ, ◌==◌, if◌then◌else◌, List, min, take, Option, Some, None}
use Rattle.std.specs.List.{slice_get}
use Rattle.rip_capture.specs.declared.interface.Interface.{Interface}
use Rattle.rip_capture.specs.declared.interface.KeptInterface.{KeptInterface}
use Rattle.rip_capture.specs.declared.interface.KeptInterface.TheVariants as kept
use Rattle.rip_capture.specs.declared.interface.InterfaceName.{InterfaceName}
use Rattle.rip_capture.specs.declared.limits.TheConstants.{MOST_NAME}
use Rattle.rip_capture.specs.declared.interface.FileInterface.{FileInterface}
use Rattle.rip_capture.specs.declared.interface.FileInterface.TheVariants as given

-- the only one of its file; or by its name, or by its number in its section where it has no name
pub data CameBy : Type 0 where
  Only : CameBy
  Named : List ℕ → CameBy
  Numbered : ℕ → CameBy

-- the bytes of a name
abbrev pub name_bytes : InterfaceName → List ℕ
name_bytes name = take (min name.len MOST_NAME) name.bytes

-- the interface of a number, of those that a section has described
abbrev pub named : Option Interface → ℕ → CameBy
named (Some i) k = if i.name.len == 0 then Numbered k else Named (name_bytes i.name)
named None k = Numbered k

abbrev pub came_by : List Interface → ℕ → CameBy
came_by interfaces k = named (slice_get interfaces k) k

-- the same, as a packet has it
abbrev pub came_of : FileInterface → CameBy
came_of given.Only = Only
came_of (given.Named name) = Named (name_bytes name.now)
came_of (given.Numbered k) = Numbered k

-- the same, kept
abbrev pub kept_of : KeptInterface → CameBy
kept_of kept.Only = Only
kept_of (kept.Named name) = Named (name_bytes name)
kept_of (kept.Numbered k) = Numbered k
