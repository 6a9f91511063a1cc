use Rattle.std.proofs.Common.{arith}
use Rattle.std.proofs.lemmas.Str.{is_utf8-from_IsUtf8, IsUtf8-from_is_utf8}
use Rattle.rip_plan.proofs.reading.table_of.Goals as goal

pub returns-in-Ok-table_from_str-clause-ok : goal.returns-in-Ok-table_from_str-clause-ok
returns-in-Ok-table_from_str-clause-ok c = grind (arith, is_utf8-from_IsUtf8, c.in-Ok.ensures.cases, c.in-Ok-table_from_str.ensures.ok)

pub returns-in-Err-clause-ok : goal.returns-in-Err-clause-ok
returns-in-Err-clause-ok c = grind (arith, IsUtf8-from_is_utf8, c.in-Err.ensures.cases)

pub returns-in-Ok-table_from_str-clause-not_utf8 : goal.returns-in-Ok-table_from_str-clause-not_utf8
returns-in-Ok-table_from_str-clause-not_utf8 c none = grind (arith, is_utf8-from_IsUtf8 c.args.bytes.now c.in-Ok.ensures.cases.1)

pub returns-then-is_memory-clause-not_utf8 : goal.returns-then-is_memory-clause-not_utf8
returns-then-is_memory-clause-not_utf8 c none = grind (arith, is_utf8-from_IsUtf8 c.args.bytes.now c.in-Ok.ensures.cases.1)
