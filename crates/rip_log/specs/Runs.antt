-- What a run of calls of `next` has taken off a log.
use Rattle.std.specs.Prelude.{◌≡◌, List, ◌++◌}
use Rattle.rip_log.specs.NextCall.{capture_of, line_of}
use Rattle.rip_log.specs.Logs.{Numbered, Log}
use Rattle.rip_log.specs.declared.reader.Record.{Record}

-- the capture of a record with the number of its line
abbrev pub numbered : Record → Numbered
numbered r = record { line = line_of r; capture = capture_of r }

-- these records were taken off a log, and the rest is left
abbrev pub IsTaken : List Numbered → Log → Log → Type 0
IsTaken taken log rest = log ≡ record { records = taken ++ rest.records; fault = rest.fault }
