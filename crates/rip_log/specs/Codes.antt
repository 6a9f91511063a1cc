-- The codes of a log's faults.
use Rattle.std.specs.Prelude.{Bool, true, false}
use Rattle.rip_log.specs.declared.error.LineFault.{LineFault}
use Rattle.rip_log.specs.declared.error.LineFault.TheVariants as faults
use Rattle.rip_log.specs.declared.error.LogCode.{LogCode}
use Rattle.rip_log.specs.declared.error.LogCode.TheVariants as codes

-- the source failed
abbrev pub is_read : LogCode → Bool
is_read codes.Read = true
is_read other = false

-- the code of a line's fault
abbrev pub code_of : LineFault → LogCode
code_of faults.Fields = codes.Fields
code_of faults.LinkName = codes.LinkName
code_of faults.Sender = codes.Sender
code_of faults.Hex = codes.Hex
code_of faults.LongDatagram = codes.LongDatagram
code_of (faults.Wire e) = codes.Wire e
