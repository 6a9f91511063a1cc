use Rattle.std.proofs.Common.{arith, ap}
use Rattle.rip_log.specs.declared.limits.TheConstants.{MOST_LINES}
use Rattle.rip_table.specs.Tallies.{is_other_request}
use Rattle.rip_table.proofs.TallyLemmas.{lines-few}
use Rattle.rip_table.proofs.TalliedLemmas.{tallied-request}
use Rattle.rip_table.proofs.tallies.Tallies.add_request.Goals as goal

pub add-requires : goal.add-requires
add-requires g c =
    let few = lines-few is_other_request c.requires.room.0 MOST_LINES c.requires.room.2 in
    omega (arith, few, ap (λ l. l.count) c.requires.room.1.of_requests)

pub returns-clause-heard : goal.returns-clause-heard
returns-clause-heard g c events h = rw c.add.ensures (tallied-request _ _ _ _ _ _ events c.args.line h)
