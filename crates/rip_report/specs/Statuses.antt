-- Exit statuses, and the lines of failures.
use Rattle.std.specs.Prelude.{ℕ, List, codes, Result, Ok, Err}
use Rattle.rip_report.specs.declared.status.Status.{Status}
use Rattle.rip_report.specs.declared.status.Status.TheVariants.{Settled, Done, Unsettled, Unclear, Refused}
use Rattle.rip_report.specs.declared.status.RunError.{RunError}
use Rattle.rip_report.specs.declared.status.RunError.TheVariants.{Read, Write, Memory}

-- 0 for what is well, 1 unsettled, 2 unclear, 3 refused, 4 a failure of a device or of memory
abbrev pub exit_code_of : Result Status RunError → ℕ
exit_code_of (Ok Settled) = 0
exit_code_of (Ok Done) = 0
exit_code_of (Ok Unsettled) = 1
exit_code_of (Ok Unclear) = 2
exit_code_of (Ok Refused) = 3
exit_code_of (Err e) = 4

abbrev pub fault_line_of : RunError → List ℕ
fault_line_of Read = codes "failed: read"
fault_line_of Write = codes "failed: write"
fault_line_of Memory = codes "failed: memory"
