use Rattle.std.proofs.Common.{arith}
use Rattle.rip_report.proofs.LoopLemmas.{all_items, item_more}
use Rattle.rip_report.proofs.decode.push_entries.Goals as goal

pub loop-i-preserved : goal.loop-i-preserved
loop-i-preserved g c = item_more c.loop-i.invariant c.entry.ensures c.push_entry_line.ensures

pub returns : goal.returns
returns g c = all_items c.loop-i.invariant (let all = c.len-i-end.ensures.entries c.requires in omega (arith, c.loop-i-test.false))
