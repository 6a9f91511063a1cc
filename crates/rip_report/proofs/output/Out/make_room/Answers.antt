use Rattle.std.proofs.Common.{append-nil, refl, sym}
use Rattle.rip_report.specs.Outs.{noted}
use Rattle.rip_report.specs.Sent.{sink_state}
use Rattle.rip_report.proofs.output.Out.make_room.Goals as goal

pub invariant_of-self : goal.invariant_of-self
invariant_of-self g c =
    let o = c.self.inside in
    c.make_room.ensures.writes (sink_state g.K.Sink.taken g.K.Sink.broken o.start.value) (noted o.added.outcomes) c.self.invariant

pub returns : goal.returns
returns g c = rw (← c.self.view_is) (record { start = refl; text = sym (append-nil (noted c.self.inside.added.outcomes)) })
