use Rattle.std.proofs.Common.{◌∙◌, ap}
use Rattle.std.proofs.lemmas.Option.{get_or_from_slice_get}
use Rattle.rip_log.specs.declared.limits.TheConstants.{MOST_LINES}
use Rattle.rip_table.specs.Tallies.{with_event, sent_event}
use Rattle.rip_table.proofs.TallyLemmas.{room}
use Rattle.rip_table.proofs.TalliedLemmas.{counts-room, tallied-sent}
use Rattle.rip_table.proofs.tallies.Tallies.add_sent.Goals as goal

pub add_sent-requires : goal.add_sent-requires
add_sent-requires g c = counts-room c.args.self.now.counts c.requires.room.0 MOST_LINES c.requires.room.1.counted c.requires.room.2

pub add-requires : goal.add-requires
add-requires g c =
    let at = get_or_from_slice_get c.args.self.now.interfaces.items c.args.interface _ _ (c.requires.room.1.of_interfaces.at c.args.interface c.requires.interface) in
    rw (c.index_mut.ensures.value ∙ at) (room c.args.interface c.requires.room.0 MOST_LINES c.requires.room.2)

pub returns-clause-heard : goal.returns-clause-heard
returns-clause-heard g c events origin h =
    let at = get_or_from_slice_get c.args.self.now.interfaces.items c.args.interface _ _ (h.of_interfaces.at c.args.interface c.requires.interface) in
    rw (c.add_sent.ensures c.args.interface origin) (tallied-sent _ _ _ _ _ _ events c.args.interface c.args.line origin c.args.sent c.add.new.self h
    (c.add.ensures c.args.interface origin ∙ ap (λ t. with_event c.args.interface t (record { line = c.args.line; event = sent_event c.args.interface origin c.args.sent }))
    (c.index_mut.ensures.value ∙ at)))
