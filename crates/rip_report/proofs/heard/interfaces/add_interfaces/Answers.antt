use Rattle.std.proofs.Common.{◌≡◌, length, arith, subst}
use Rattle.rip_report.specs.HeardText.{SentLines}
use Rattle.rip_report.proofs.OutLemmas.{added_also, one_more}
use Rattle.rip_report.proofs.heard.interfaces.add_interfaces.Goals as goal

pub add_sent-requires-clause-router : goal.add_sent-requires-clause-router
add_sent-requires-clause-router g c = c.lawful.ensures.router_known _ c.interface.result.router c.interface.result.link c.interface.result.cost c.interface.ensures.is

pub add_sent-requires-clause-link : goal.add_sent-requires-clause-link
add_sent-requires-clause-link g c = c.lawful.ensures.link_known _ c.interface.result.router c.interface.result.link c.interface.result.cost c.interface.ensures.is

pub loop-i-preserved : goal.loop-i-preserved
loop-i-preserved g c =
    let n = c.args.plan.now in
    let x = c.interface.result in
    record {
      so_far = λ events heard.
          one_more _ c.loop-i.i (c.loop-i.invariant.so_far events heard) (added_also
          (λ text is. record { interface = x; listed = c.interface.ensures.exact; lines = subst (λ t. SentLines n x t text) (c.interface-tally.ensures events heard) is }) c.add_sent.ensures);
    }

pub returns : goal.returns
returns g c = λ events heard.
    let all : c.loop-i.i ≡ length c.args.plan.now.interfaces = omega (arith, c.loop-i-test.false, c.loop-i.auto.i-end, c.interfaces-i-end.ensures) in
    rw all at c.loop-i.invariant.so_far events heard
