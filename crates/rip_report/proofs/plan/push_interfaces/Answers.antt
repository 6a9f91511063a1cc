use Rattle.std.proofs.Common.{◌≡◌, arith}
use Rattle.rip_report.specs.PlanText.{interface_line, line_of_interface}
use Rattle.rip_report.proofs.LoopLemmas.{all_numbered, numbered_more}
use Rattle.rip_report.proofs.OutLemmas.{adds_same}
use Rattle.rip_report.proofs.plan.push_interfaces.Goals as goal

pub push_interface_line-requires-clause-router : goal.push_interface_line-requires-clause-router
push_interface_line-requires-clause-router g c = c.lawful.ensures.router_known c.loop-i.i c.interface.result.router c.interface.result.link c.interface.result.cost c.interface.ensures.is

pub push_interface_line-requires-clause-link : goal.push_interface_line-requires-clause-link
push_interface_line-requires-clause-link g c = c.lawful.ensures.link_known c.loop-i.i c.interface.result.router c.interface.result.link c.interface.result.cost c.interface.ensures.is

pub loop-i-preserved : goal.loop-i-preserved
loop-i-preserved g c =
    let n = c.args.plan.now in
    let x = c.interface.result in
    let same : interface_line n x c.also.result.now ≡ line_of_interface n (c.loop-i.i, x) = rw c.also.ensures in
    numbered_more c.loop-i.invariant c.interface.ensures.exact (adds_same same c.push_interface_line.ensures)

pub returns : goal.returns
returns g c = all_numbered c.loop-i.invariant (let all = c.interfaces-i-end.ensures in omega (arith, c.loop-i-test.false))
