-- What is told is a metric.
use Rattle.rip_plan.specs.Network.{Network}
use Rattle.rip_plan.specs.PrefixNetworks.{exchanges}
use Rattle.rip_plan.proofs.PrefixNetworkLemmas.{was_interface}
use Rattle.rip_table.specs.State.{Fits}
use Rattle.rip_table.specs.declared.table.Table.{Ghosts}
use Rattle.rip_check.specs.Cases.{block_of, network_of, plan_of, told_in}
use Rattle.rip_check.specs.Metrics.{IsInRange}
use Rattle.rip_check.specs.Told.{told}
use Rattle.rip_check.specs.declared.case.Case.{Case}
use Rattle.rip_check.proofs.NumberLemmas.{in_range}
use Rattle.rip_check.proofs.ToldTableLemmas.{mute, told_range}

pub in_range_of : {T : Type 0} (g : Ghosts T) (n : Network) (table : T) → Fits n (g.state table) → IsInRange n (told n (g.state table))
in_range_of g n table fits =
    let s = g.state table in
    told_range n (mute n s) s (in_range n s fits (g.is_state table))

pub in_range_told : {T : Type 0} {g : Ghosts T} (case : Case T g) → IsInRange (network_of case) (told_in case)
in_range_told {T} {g} case i r l c q m h shows =
    let (s, was, whose) = was_interface case.plan.now (exchanges case.plan.now (block_of case)) i r l c h in
    in_range_of g case.plan.now case.table.now case.fits i s l c q m was shows

pub in_range_plan : {T : Type 0} {g : Ghosts T} (case : Case T g) → IsInRange (plan_of case) (told_in case)
in_range_plan {T} {g} case = in_range_of g case.plan.now case.table.now case.fits
