use Rattle.std.proofs.Common.{sym}
use Rattle.rip_table.proofs.RowLemmas.{head-at}
use Rattle.rip_routes.proofs.grid.GridRoutesRouteTables.prefix.Goals as goal

pub returns : goal.returns
returns g c = head-at c.args.self.now.rows.entries c.args.k (c.unwrap.result.0.now, c.unwrap.result.1.now) (sym (rw c.unwrap.ensures at c.get_index.ensures.entry))
