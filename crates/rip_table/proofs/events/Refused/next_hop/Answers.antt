use Rattle.std.proofs.Common.{sym, ap, ◌∙◌}
use Rattle.rip_wire.specs.Datagram.{entries_of, message_of}
use Rattle.rip_table.specs.Events.{hop_of}
use Rattle.rip_table.proofs.EventLemmas.{hop_found, hop_local, hop_other}
use Rattle.rip_table.proofs.events.Refused.next_hop.Goals as goal
use Rattle.rip_table.proofs.events.Refused.next_hop.Goals.{else-eq-via-then-eq+else-is_elsewhere, else-eq-via-else-eq}

pub returns-then-is_elsewhere : goal.returns-then-is_elsewhere
returns-then-is_elsewhere c =
    let es = entries_of (message_of c.args.self.now.datagram.now) in
    sym (ap (λ error. hop_of c.args.plan.now c.args.self.now.interface error es) c.in-NextHop.is
    ∙ c.entries.invariant
    ∙ hop_found c.args.plan.now c.args.self.now.interface c.in-NextHop.prefix es c.entries.k c.entry-entry.result c.entry-entry.ensures (sym c.if-eq.ensures) (sym c.if-is_elsewhere.ensures))

pub entries-preserved : goal.entries-preserved
entries-preserved c =
    let es = entries_of (message_of c.args.self.now.datagram.now) in
    elim c.else-eq.branch [
      | else-eq-via-then-eq+else-is_elsewhere w ↦
          c.entries.invariant ∙ hop_local c.args.plan.now c.args.self.now.interface c.in-NextHop.prefix es c.entries.k c.entry-entry.result c.entry-entry.ensures (sym w.if-is_elsewhere.ensures)
      | else-eq-via-else-eq w ↦ c.entries.invariant ∙ hop_other c.args.plan.now c.args.self.now.interface c.in-NextHop.prefix es c.entries.k c.entry-entry.result c.entry-entry.ensures
          (sym w.if-eq.ensures)
    ]
