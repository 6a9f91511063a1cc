use Rattle.std.proofs.Common.{ap, decimal}
use Rattle.rip_report.specs.PlanText.{interface_text}
use Rattle.rip_report.proofs.OutLemmas.{adds_same, adds_then}
use Rattle.rip_report.proofs.plan.push_interface_text.Goals as goal

pub returns : goal.returns
unfolding interface_text
returns g c =
    adds_then (adds_then (adds_then (adds_then (adds_then (adds_then (adds_then (adds_then (adds_then c.push.ensures c.push_router.ensures) c.push-2.ensures) c.push_link.ensures) c.push-3.ensures) c.push_address.ensures) c.push-4.ensures) (adds_same (ap decimal c.from.ensures) c.push_number.ensures)) c.push_direct.ensures) c.push_poison.ensures
