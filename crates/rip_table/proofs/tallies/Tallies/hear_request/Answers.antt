use Rattle.std.proofs.Common.{None}
use Rattle.rip_table.proofs.tallies.Tallies.hear_request.Goals as goal

pub returns-in-Some-clause-heard : goal.returns-in-Some-clause-heard
returns-in-Some-clause-heard g c events h = rw c.in-Some.is (c.add_sent.ensures.heard events None h)
