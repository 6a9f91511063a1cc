use Rattle.std.proofs.Common.{◌∙◌, ap, sym, None, Some}
use Rattle.std.proofs.lemmas.Option.{get_or_from_slice_get, slice_get-get_or}
use Rattle.rip_log.specs.declared.limits.TheConstants.{MOST_LINES}
use Rattle.rip_table.specs.Tallies.{with_event, sent_event}
use Rattle.rip_table.specs.declared.tallies.interface.Sent.TheVariants.{Refused}
use Rattle.rip_table.proofs.TallyLemmas.{room}
use Rattle.rip_table.proofs.TalliedLemmas.{counts-room, tallied-sent}
use Rattle.rip_table.proofs.tallies.Tallies.add_refused_again.Goals as goal

pub add_refused-requires : goal.add_refused-requires
add_refused-requires g c = counts-room c.args.self.now.counts c.requires.room.0 MOST_LINES c.requires.room.1.counted c.requires.room.2

pub refuse_again-requires-clause-refused : goal.refuse_again-requires-clause-refused
refuse_again-requires-clause-refused g c =
    let at = get_or_from_slice_get c.args.self.now.interfaces.items c.args.interface _ _ (c.requires.room.1.of_interfaces.at c.args.interface c.requires.interface) in
    rw (c.index_mut.ensures.value ∙ at) (room c.args.interface c.requires.room.0 MOST_LINES c.requires.room.2).refused

pub refuse_again-requires-clause-runs : goal.refuse_again-requires-clause-runs
refuse_again-requires-clause-runs g c =
    let at = get_or_from_slice_get c.args.self.now.interfaces.items c.args.interface _ _ (c.requires.room.1.of_interfaces.at c.args.interface c.requires.interface) in
    rw (c.index_mut.ensures.value ∙ at) (room c.args.interface c.requires.room.0 MOST_LINES c.requires.room.2).runs

pub refuse_again-requires-clause-again : goal.refuse_again-requires-clause-again
refuse_again-requires-clause-again g c =
    c.requires.again c.index_mut.result.now (slice_get-get_or c.args.self.now.interfaces.items c.args.interface _ c.requires.interface ∙ ap Some (sym c.index_mut.ensures.value))

pub returns-clause-heard : goal.returns-clause-heard
returns-clause-heard g c events error hop h =
    let at = get_or_from_slice_get c.args.self.now.interfaces.items c.args.interface _ _ (h.of_interfaces.at c.args.interface c.requires.interface) in
    rw (c.add_refused.ensures c.args.interface error hop) (tallied-sent _ _ _ _ _ _ events c.args.interface c.args.line None
    (Refused (record { error = error; next_hop = hop })) c.refuse_again.new.self h (c.refuse_again.ensures c.args.interface error hop ∙ ap
    (λ t. with_event c.args.interface t (record { line = c.args.line; event = sent_event c.args.interface None (Refused (record { error = error; next_hop = hop })) }))
    (c.index_mut.ensures.value ∙ at)))
