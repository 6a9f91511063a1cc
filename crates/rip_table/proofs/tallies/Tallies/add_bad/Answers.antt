use Rattle.std.proofs.Common.{arith, ap, None}
use Rattle.rip_log.specs.declared.limits.TheConstants.{MOST_LINES}
use Rattle.rip_table.specs.Tallies.{is_plain_bad}
use Rattle.rip_table.proofs.TallyLemmas.{lines-few}
use Rattle.rip_table.proofs.TalliedLemmas.{counts-room, tallied-plain}
use Rattle.rip_table.proofs.tallies.Tallies.add_bad.Goals as goal

pub add_bad-requires : goal.add_bad-requires
add_bad-requires g c = counts-room c.args.self.now.counts c.requires.room.0 MOST_LINES c.requires.room.1.counted c.requires.room.2

pub add_plain-requires : goal.add_plain-requires
add_plain-requires g c k l at =
    let few = lines-few (is_plain_bad k) c.requires.room.0 MOST_LINES c.requires.room.2 in
    omega (arith, few, ap (λ x. x.count) (c.requires.room.1.of_lines k l at))

pub returns-clause-heard : goal.returns-clause-heard
returns-clause-heard g c events h = rw (c.add_bad.ensures c.args.code None None) (tallied-plain _ _ _ _ _ _ _ events c.args.line c.args.code h c.add_plain.ensures.size c.add_plain.ensures.lines)
