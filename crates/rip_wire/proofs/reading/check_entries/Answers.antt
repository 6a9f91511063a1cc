use Rattle.std.proofs.Common.{sym, ◌∙◌}
use Rattle.rip_wire.proofs.WalkLemmas.{EndsAs-first, EndsAs-good, EndsAs-fault, EndsAs-last}
use Rattle.rip_wire.proofs.reading.check_entries.Goals as goal

pub loop-i-init : goal.loop-i-init
loop-i-init c = EndsAs-first _ _

pub loop-i-preserved : goal.loop-i-preserved
loop-i-preserved c = EndsAs-good _ c.loop-i.i c.args.bytes.now _ c.loop-i-test.true (sym c.is_entry.ensures ∙ c.if-not-is_entry.false) c.loop-i.invariant

pub entry_fault-requires-clause-bad : goal.entry_fault-requires-clause-bad
entry_fault-requires-clause-bad c = sym c.is_entry.ensures ∙ c.if-not-is_entry.true

pub returns-then-not-is_entry : goal.returns-then-not-is_entry
returns-then-not-is_entry c = EndsAs-fault _ c.loop-i.i c.args.bytes.now c.entry_fault.result _ c.loop-i-test.true c.entry_fault.ensures c.loop-i.invariant

pub returns : goal.returns
returns c = EndsAs-last _ c.loop-i.i c.args.bytes.now _ c.loop-i-test.false c.loop-i.invariant
