use Rattle.std.proofs.Common.{◌++◌}
use Rattle.rip_table.proofs.MetricLemmas.{front_metrics, response_metrics}
use Rattle.rip_table.proofs.RefusedLemmas.{entries_joined, joined_of_entries}
use Rattle.rip_table.proofs.SaidLemmas.{interface_below}
use Rattle.rip_table.proofs.laws.joined_responses.Goals as goal

pub returns : goal.returns
returns c n old new capture i front rest valid fits response =
    let lt = interface_below n old capture.link capture.sender i fits response.from in
    let metrics = front_metrics front rest (response_metrics capture.datagram (front ++ rest) response.says) in
    (entries_joined n i old new front metrics valid lt, joined_of_entries n i old new front metrics valid lt)
