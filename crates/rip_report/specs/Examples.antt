-- A worked example: a film of one line.
use Rattle.std.specs.Prelude.{List, [], ◌∷◌}
use Rattle.rip_log.specs.TimedText.{LineSaid, captured}
use Rattle.rip_table.specs.Examples.{update}

-- in the first second of 1970 the interface says that it cannot reach 10.3.0.0/16
abbrev pub one_line : List LineSaid
one_line = record { line = 1; said = captured 0 (update 16) } ∷ []
