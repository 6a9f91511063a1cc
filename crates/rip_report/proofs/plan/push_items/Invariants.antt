use Rattle.std.proofs.Common.{take}
use Rattle.std.specs.List.{flat_map}
use Rattle.rip_report.specs.Outs.{Adds}
use Rattle.rip_report.specs.PlanText.{item_text}
use Rattle.rip_report.proofs.plan.push_items.Given as goal

abbrev pub invariant-loop-item : goal.invariant-loop-item
invariant-loop-item g l = record { adds : Adds l.fn.out l.out (flat_map (item_text l.link) (take l.item-index l.listed)) }
