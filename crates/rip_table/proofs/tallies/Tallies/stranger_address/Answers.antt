use Rattle.rip_table.specs.Tallies.{rows_of_strangers, stranger_tally}
use Rattle.rip_table.proofs.StrangerLemmas.{row-of}
use Rattle.rip_table.proofs.tallies.Tallies.stranger_address.Goals as goal

pub returns : goal.returns
returns g c events o h at =
    c.address.ensures o (stranger_tally o events) (row-of (rows_of_strangers c.args.self.now.strangers.told.entries) c.args.self.now.strangers.others events c.args.k o h.of_strangers at)
