use Rattle.std.proofs.Common.{arith, ap, sym, ◌∙◌, []}
use Rattle.std.specs.List.{slice_get}
use Rattle.rip_log.specs.declared.limits.TheConstants.{MOST_LINES}
use Rattle.rip_table.specs.Tallies.{is_bad_of, is_of_others, is_response_of, origin_of, told_after}
use Rattle.rip_table.proofs.TallyLemmas.{lines-few}
use Rattle.rip_table.proofs.StrangerLemmas.{row-at}
use Rattle.rip_table.proofs.TalliedLemmas.{counts-room, tallied-stranger}
use Rattle.rip_table.proofs.tallies.Tallies.add_stranger.Goals as goal

pub add-requires-clause-few : goal.add-requires-clause-few
add-requires-clause-few g c k o t at =
    let is = row-at (told_after [] c.requires.room.0) c.requires.room.0 k o t (ap (λ rows. slice_get rows k) (sym c.requires.room.1.of_strangers.are_told) ∙ at) in
    let responses = lines-few (is_response_of o) c.requires.room.0 MOST_LINES c.requires.room.2 in
    let lines-bad = lines-few (is_bad_of o) c.requires.room.0 MOST_LINES c.requires.room.2 in
    (omega (arith, responses, ap (λ t. t.responses.count) is), omega (arith, lines-bad, ap (λ t. t.bad.count) is))

pub add-requires-clause-others : goal.add-requires-clause-others
add-requires-clause-others g c =
    let few = lines-few (is_of_others (told_after [] c.requires.room.0)) c.requires.room.0 MOST_LINES c.requires.room.2 in
    omega (arith, few, ap (λ l. l.count) c.requires.room.1.of_strangers.are_others)

pub add_stranger-requires : goal.add_stranger-requires
add_stranger-requires g c = counts-room c.args.self.now.counts c.requires.room.0 MOST_LINES c.requires.room.1.counted c.requires.room.2

pub returns-clause-heard : goal.returns-clause-heard
returns-clause-heard g c events h =
    rw (c.add_stranger.ensures (origin_of c.args.link.now c.args.address)) (tallied-stranger _ _ _ _ _ _ _ _ events c.args.line (origin_of c.args.link.now c.args.address) c.args.bad h
    (c.in_ok-add.ensures.ok events h.of_strangers))
