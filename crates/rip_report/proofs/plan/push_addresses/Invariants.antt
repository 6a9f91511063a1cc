use Rattle.std.proofs.Common.{take}
use Rattle.std.specs.List.{flat_map}
use Rattle.rip_report.specs.Outs.{Adds}
use Rattle.rip_report.specs.PlanText.{address_part}
use Rattle.rip_report.proofs.plan.push_addresses.Given as goal

abbrev pub invariant-loop-address : goal.invariant-loop-address
invariant-loop-address g l = record { adds : Adds l.fn.out l.out (flat_map address_part (take l.address-index l.addresses)) }
