-- The line that was found, good or bad.
use Rattle.std.specs.Prelude.{None}
use Rattle.rip_log.specs.Codes.{code_of}
use Rattle.rip_log.specs.Said.{Said, captured, bad}
use Rattle.rip_log.specs.Steps.{IsGood, IsGoodFault, capture_at, origin_found}
use Rattle.rip_log.specs.declared.error.LogCode.TheVariants.{LongLine}
use Rattle.rip_log.specs.declared.reader.LogReader.{LogReader}
use Rattle.rip_log.specs.declared.reader.FoundLine.{FoundLine}
use Rattle.rip_log.specs.declared.reader.FoundLine.TheVariants.{Record, Bad, Long}

-- what the line says
abbrev pub said_found : {R : Type 0} → LogReader R → FoundLine → Said
said_found reader (Record found) = captured (capture_at reader found)
said_found reader (Bad found) = bad (code_of found.fault.why) (origin_found reader found)
said_found reader Long = bad LongLine None

-- the line lies in the reader
abbrev pub IsGoodLine : {R : Type 0} → LogReader R → FoundLine → Type 0
IsGoodLine reader (Record found) = IsGood reader found
IsGoodLine reader (Bad found) = IsGoodFault reader found
IsGoodLine reader Long = Unit {0}
