use Rattle.rip_report.specs.TableText.{interface_lines}
use Rattle.rip_report.proofs.LoopLemmas.{AddsNumbered}
use Rattle.rip_report.proofs.table.push_interfaces.Given as goal

abbrev pub invariant-loop-i : goal.invariant-loop-i
invariant-loop-i g l = AddsNumbered (interface_lines l.plan (g.T.Table.state l.table)) l.plan.interfaces l.i l.fn.out l.out
