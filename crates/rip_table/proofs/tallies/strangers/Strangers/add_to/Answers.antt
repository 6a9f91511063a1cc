use Rattle.rip_table.proofs.StrangerLemmas.{entry-row, set-row}
use Rattle.rip_table.proofs.tallies.strangers.Strangers.add_to.Goals as goal

pub add-requires-clause-responses : goal.add-requires-clause-responses
add-requires-clause-responses g c =
    let row = entry-row c.args.self.now.told.entries c.args.k c.index_mut.result.now c.index_mut.ensures.value in
    (c.requires.few row.0 c.index_mut.result.now row.1).0

pub add-requires-clause-bad : goal.add-requires-clause-bad
add-requires-clause-bad g c =
    let row = entry-row c.args.self.now.told.entries c.args.k c.index_mut.result.now c.index_mut.ensures.value in
    (c.requires.few row.0 c.index_mut.result.now row.1).1

pub returns-clause-rows : goal.returns-clause-rows
returns-clause-rows g c =
    set-row c.args.self.now.told.entries c.args.k c.args.line c.args.bad c.index_mut.result.now c.add.new.self c.index_mut.ensures.value c.add.ensures
