-- What is printed where a log is refused.
use Rattle.std.specs.Prelude.{ℕ, List, ◌++◌, codes, decimal}
use Rattle.rip_wire.specs.Prefix.{Block, prefix_text}
use Rattle.rip_log.specs.declared.error.LogCode.{LogCode}
use Rattle.rip_log.specs.declared.error.LogCode.TheVariants as log
use Rattle.rip_table.specs.Scenes.{line_cause}
use Rattle.rip_table.specs.declared.scene.LineCause.{LineCause}
use Rattle.rip_table.specs.declared.scene.LineCause.TheVariants.{Log, Table, UnknownSender}
use Rattle.rip_table.specs.declared.error.CollectError.{CollectError}
use Rattle.rip_table.specs.declared.error.TableError.{TableError}
use Rattle.rip_table.specs.declared.error.TableError.TheVariants as table
use Rattle.rip_report.specs.DecodeText.{wire_fault_text}
use Rattle.rip_report.specs.Names.{numbered}
use Rattle.rip_report.specs.Written.{Written, line}
use Rattle.rip_report.specs.declared.status.Status.TheVariants.{Refused}

-- the number and the word of a code of a log, and of a datagram's fault
unfoldable pub log_code_text : LogCode → List ℕ
log_code_text log.LongLine = codes "1 LongLine"
log_code_text log.Fields = codes "2 Fields"
log_code_text log.LinkName = codes "3 LinkName"
log_code_text log.Sender = codes "4 Sender"
log_code_text log.Hex = codes "5 Hex"
log_code_text log.LongDatagram = codes "6 LongDatagram"
log_code_text (log.Wire e) = codes "7 Wire " ++ wire_fault_text e.code e.at
log_code_text log.TooManyLines = codes "8 TooManyLines"
log_code_text log.Read = codes "9 Read"
log_code_text log.Ended = codes "10 Ended"
log_code_text log.Memory = codes "11 Memory"

-- ` prefix 10.2.0.0/16`
abbrev pub prefix_part : Block → List ℕ
prefix_part p = codes " prefix " ++ prefix_text p

-- ` from 2 to 3`
abbrev pub change_text : ℕ → ℕ → List ℕ
change_text old new = codes " from " ++ decimal old ++ codes " to " ++ decimal new

-- the number and the word of what a table refuses, as `1 Changed prefix 10.2.0.0/16 from 2 to 3`
unfoldable pub table_error_text : TableError → List ℕ
table_error_text (table.Changed p old new) =
    codes "1 Changed" ++ prefix_part p ++ change_text old new
table_error_text (table.NextHop p) = codes "2 NextHop" ++ prefix_part p
table_error_text table.TooManyPrefixes = codes "3 TooManyPrefixes"
table_error_text table.Memory = codes "4 Memory"

-- `log line 7: `, or `table line 7: `
abbrev pub at_line : List ℕ → ℕ → List ℕ
at_line word n = numbered word n ++ codes ": "

-- a line of the log and what refuses it: the log's reader, or the table
abbrev pub cause_text : ℕ → LineCause → List ℕ
cause_text n (Log code) = at_line (codes "log line ") n ++ log_code_text code
cause_text n (Table e) = at_line (codes "table line ") n ++ table_error_text e
cause_text n UnknownSender = at_line (codes "table line ") n ++ codes "5 UnknownSender"

-- `refused: log line 7: 5 Hex`
abbrev pub refusal_line : ℕ → LineCause → List ℕ
refusal_line n cause = line (codes "refused: " ++ cause_text n cause)

abbrev pub refused_log : CollectError → Written
refused_log e = record { text = refusal_line e.line (line_cause e.cause); status = Refused }
