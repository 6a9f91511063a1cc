use Rattle.std.proofs.Common.{sym, None}
use Rattle.rip_table.proofs.tallies.Tallies.hear_refused.Goals as goal

pub returns-clause-heard : goal.returns-clause-heard
returns-clause-heard g c events h = rw (sym c.next_hop.ensures) (c.add_sent.ensures.heard events None h)
