use Rattle.std.proofs.Common.{◌∙◌, sym}
use Rattle.rip_table.proofs.AfterLemmas.{made-written}
use Rattle.rip_table.specs.Rows.{grid_state, rows_of}
use Rattle.rip_table.proofs.ListLemmas.{nothing-joins}
use Rattle.rip_table.proofs.grid.rows.add_new.Goals as goal

pub returns-else-brings-clause-written : goal.returns-else-brings-clause-written
returns-else-brings-clause-written g c heard net t lt valid h =
    nothing-joins net c.args.interface (grid_state heard (rows_of c.args.rows.now.entries)) c.args.entries.now t (sym (c.requires.brings heard) ∙ c.if-brings.false) h

pub returns-then-brings-clause-written : goal.returns-then-brings-clause-written
returns-then-brings-clause-written g c = made-written c.args.interface c.args.width c.args.entries.now (rows_of c.args.rows.now.entries) (rows_of c.add.new.rows.entries) c.add.result c.add.ensures.made
