use Rattle.std.proofs.Common.{refl, None}
use Rattle.rip_log.specs.declared.limits.TheConstants.{MOST_LINES}
use Rattle.rip_table.specs.CollectsAll.{origin_of_sender}
use Rattle.rip_table.proofs.TalliedLemmas.{counted, counts-room}
use Rattle.rip_table.proofs.tallies.counts.CountsListener.hear.Goals as goal

pub add_sent-requires : goal.add_sent-requires
add_sent-requires c = counts-room c.args.self.now c.requires.room.0 MOST_LINES c.requires.room.1 c.requires.room.2

pub returns-in-Joined-clause-heard : goal.returns-in-Joined-clause-heard
returns-in-Joined-clause-heard c events h = rw c.in-Joined.is (counted _ _ events c.args._line _ h (c.add_sent.ensures c.in-Joined.field-0 None))

pub add_refused-requires : goal.add_refused-requires
add_refused-requires c = counts-room c.args.self.now c.requires.room.0 MOST_LINES c.requires.room.1 c.requires.room.2

pub returns-in-Refused-clause-heard : goal.returns-in-Refused-clause-heard
returns-in-Refused-clause-heard c events h = rw c.in-Refused.is (counted _ _ events c.args._line _ h (c.add_refused.ensures c.in-Refused.field-0.interface c.in-Refused.field-0.error None))

pub add_stranger-requires : goal.add_stranger-requires
add_stranger-requires c = counts-room c.args.self.now c.requires.room.0 MOST_LINES c.requires.room.1 c.requires.room.2

pub returns-in-Stranger-clause-heard : goal.returns-in-Stranger-clause-heard
returns-in-Stranger-clause-heard c events h = rw c.in-Stranger.is (counted _ _ events c.args._line _ h (c.add_stranger.ensures (origin_of_sender c.in-Stranger.field-0)))

pub add_bad-requires : goal.add_bad-requires
add_bad-requires c = counts-room c.args.self.now c.requires.room.0 MOST_LINES c.requires.room.1 c.requires.room.2

pub returns-in-Bad-clause-heard : goal.returns-in-Bad-clause-heard
returns-in-Bad-clause-heard c events h = rw c.in-Bad.is (counted _ _ events c.args._line _ h (c.add_bad.ensures c.in-Bad.field-0.code None None))

pub returns-in-Request-clause-heard : goal.returns-in-Request-clause-heard
returns-in-Request-clause-heard c events h = rw c.in-Request.is (counted _ _ events c.args._line _ h refl)
