use Rattle.std.proofs.Common.{List, ℕ, append-nil, refl, subst, sym}
use Rattle.rip_report.specs.Outs.{noted}
use Rattle.rip_report.specs.Sent.{Writes, sink_state}
use Rattle.rip_report.proofs.OutLemmas.{gone_out}
use Rattle.rip_report.proofs.output.Out.send.Goals as goal

pub invariant_of-self : goal.invariant_of-self
invariant_of-self g c =
    let o = c.self.inside in
    let state = sink_state g.K.Sink.taken g.K.Sink.broken in
    let start = state o.start.value in
    subst (λ (l : List ℕ). Writes start (state c.clear.new.out) c.clear.new.wrote (noted o.added.outcomes) l) (sym c.clear.ensures.empty)
    (c.clear.ensures.writes start (noted o.added.outcomes) c.self.invariant)

pub returns-clause-adds : goal.returns-clause-adds
returns-clause-adds g c = rw (← c.self.view_is) (record { start = refl; text = sym (append-nil (noted c.self.inside.added.outcomes)) })

pub returns-clause-sent : goal.returns-clause-sent
returns-clause-sent g c = λ calm.
    let o = c.self.inside in
    let state = sink_state g.K.Sink.taken g.K.Sink.broken in
    let text = noted o.added.outcomes in
    gone_out (state o.start.value) (state c.clear.new.out) c.clear.new.wrote text calm (c.clear.ensures.writes (state o.start.value) text c.self.invariant)
