-- What a run makes of the reading of a log.
use Rattle.std.specs.Prelude.{if◌then◌else◌, Option, None, Some, Result, Ok, Err}
use Rattle.rip_table.specs.Collects.{is_read_cause}
use Rattle.rip_table.specs.Joined.{is_memory}
use Rattle.rip_table.specs.declared.error.CollectError.{CollectError}
use Rattle.rip_report.specs.declared.status.RunError.{RunError}
use Rattle.rip_report.specs.declared.status.RunError.TheVariants.{Read, Memory}

-- the refusal, if there is one, or that the source failed, or that a growth was refused
abbrev pub refusal_in : Result (Unit {0}) CollectError → Result (Option CollectError) RunError
refusal_in (Ok done) = Ok None
refusal_in (Err e) =
    if is_memory e.cause then Err Memory
    else if is_read_cause e.cause then Err Read
    else Ok (Some e)
