use Rattle.std.proofs.Common.{None, refl}
use Rattle.rip_table.specs.CollectsAll.{origin_of_sender}
use Rattle.rip_table.proofs.TallyLemmas.{on_err}
use Rattle.rip_table.proofs.tallies.TalliesListener.hear.Goals as goal

pub returns-in-Joined-clause-heard : goal.returns-in-Joined-clause-heard
returns-in-Joined-clause-heard g c events h = rw c.in-Joined.is (c.add_sent.ensures.heard events None h)

pub returns-in-Request-clause-heard : goal.returns-in-Request-clause-heard
returns-in-Request-clause-heard g c events h = rw c.in-Request.is (c.hear_request.ensures.heard events h)

pub returns-in_err-add_stranger-in-Stranger-clause-allocates :
    goal.returns-in_err-add_stranger-in-Stranger-clause-allocates
returns-in_err-add_stranger-in-Stranger-clause-allocates g c = rw c.in-Stranger.is (on_err c.from_residual.result _ (origin_of_sender c.in-Stranger.sender, refl))
