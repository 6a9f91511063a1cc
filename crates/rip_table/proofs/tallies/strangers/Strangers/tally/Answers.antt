use Rattle.std.proofs.Common.{◌≡◌, ap}
use Rattle.rip_log.specs.Said.{Origin}
use Rattle.rip_table.specs.declared.tallies.strangers.StrangerTally.{StrangerTally}
use Rattle.rip_table.proofs.StrangerLemmas.{entry-row}
use Rattle.rip_table.proofs.tallies.strangers.Strangers.tally.Goals as goal

pub returns : goal.returns
returns g c o t row =
    let e = entry-row c.args.self.now.told.entries c.args.k c.index.result.now c.index.ensures in
    let pair : (e.0, c.index.result.now) ≡ (o, t) = cc (e.1, row) in
    ap (λ (r : Origin × StrangerTally). r.1) pair
