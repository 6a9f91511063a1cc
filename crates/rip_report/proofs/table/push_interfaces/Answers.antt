use Rattle.std.proofs.Common.{arith}
use Rattle.rip_report.proofs.LoopLemmas.{all_numbered, numbered_more}
use Rattle.rip_report.proofs.table.push_interfaces.Goals as goal

pub push_interface_lines-requires-clause-router : goal.push_interface_lines-requires-clause-router
push_interface_lines-requires-clause-router g c = c.lawful.ensures.router_known c.loop-i.i c.interface.result.router c.interface.result.link c.interface.result.cost c.interface.ensures.is

pub push_interface_lines-requires-clause-link : goal.push_interface_lines-requires-clause-link
push_interface_lines-requires-clause-link g c = c.lawful.ensures.link_known c.loop-i.i c.interface.result.router c.interface.result.link c.interface.result.cost c.interface.ensures.is

pub loop-i-preserved : goal.loop-i-preserved
loop-i-preserved g c = numbered_more c.loop-i.invariant c.interface.ensures.exact c.push_interface_lines.ensures

pub returns : goal.returns
returns g c = all_numbered c.loop-i.invariant (let all = c.interfaces-i-end.ensures in omega (arith, c.loop-i-test.false))
