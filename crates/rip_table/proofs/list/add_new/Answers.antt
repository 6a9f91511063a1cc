use Rattle.std.proofs.Common.{◌∙◌, sym}
use Rattle.rip_table.specs.ListState.{list_state}
use Rattle.rip_table.proofs.ListLemmas.{nothing-joins}
use Rattle.rip_table.proofs.list.add_new.Goals as goal

pub returns-then-not-brings-clause-ok : goal.returns-then-not-brings-clause-ok
returns-then-not-brings-clause-ok c heard net t h =
    nothing-joins net c.args.interface (list_state heard c.args.prefixes.now.items c.args.shown.now.items) c.args.entries.now t (sym (c.requires.brings heard) ∙ c.if-not-brings.true) h
